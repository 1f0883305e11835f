use Rattle.text_tests.proofs.Worked.{waiting_entries_legal, long_entries_legal}
use Rattle.text_tests.proofs.report_tests.no_report.Goals as goal

pub expect_no_report-requires-clause-legal : goal.expect_no_report-requires-clause-legal
expect_no_report-requires-clause-legal g c = waiting_entries_legal

pub expect_no_report-requires-2-clause-legal : goal.expect_no_report-requires-2-clause-legal
expect_no_report-requires-2-clause-legal g c = long_entries_legal
