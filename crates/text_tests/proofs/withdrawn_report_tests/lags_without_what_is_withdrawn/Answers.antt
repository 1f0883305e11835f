use Rattle.text_tests.proofs.Worked.{withdrawn_entries_legal}
use Rattle.text_tests.proofs.withdrawn_report_tests.lags_without_what_is_withdrawn.Goals as goal

pub expect_report-requires-clause-legal : goal.expect_report-requires-clause-legal
expect_report-requires-clause-legal g c = withdrawn_entries_legal
