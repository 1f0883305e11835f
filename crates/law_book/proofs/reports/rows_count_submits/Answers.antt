use Rattle.lag_report.proofs.TenantLines.{rows_count_submits}
use Rattle.law_book.proofs.reports.rows_count_submits.Goals as goal

pub returns : goal.returns
returns c = rows_count_submits
