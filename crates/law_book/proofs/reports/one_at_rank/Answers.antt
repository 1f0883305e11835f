use Rattle.lag_report.proofs.Ranks.{one_at_rank}
use Rattle.law_book.proofs.reports.one_at_rank.Goals as goal

pub returns : goal.returns
returns c = one_at_rank
