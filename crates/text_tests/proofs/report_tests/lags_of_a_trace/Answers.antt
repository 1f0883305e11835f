use Rattle.text_tests.proofs.Worked.{trace_entries_legal}
use Rattle.text_tests.proofs.report_tests.lags_of_a_trace.Goals as goal

pub expect_report-requires-clause-legal : goal.expect_report-requires-clause-legal
expect_report-requires-clause-legal g c = trace_entries_legal
