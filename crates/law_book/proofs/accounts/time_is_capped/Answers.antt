use Rattle.fq_laws.proofs.Keys.Pace.{virtual_time_capped}
use Rattle.law_book.proofs.accounts.time_is_capped.Goals as goal

pub returns : goal.returns
returns c = virtual_time_capped
