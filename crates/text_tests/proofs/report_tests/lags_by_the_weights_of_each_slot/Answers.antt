use Rattle.text_tests.proofs.Worked.{weight_entries_legal}
use Rattle.text_tests.proofs.report_tests.lags_by_the_weights_of_each_slot.Goals as goal

pub expect_report-requires-clause-legal : goal.expect_report-requires-clause-legal
expect_report-requires-clause-legal g c = weight_entries_legal
