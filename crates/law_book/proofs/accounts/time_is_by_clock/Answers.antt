use Rattle.fq_laws.proofs.Keys.Pace.{time_by_clock, base_by_clock}
use Rattle.law_book.proofs.accounts.time_is_by_clock.Goals as goal

pub returns : goal.returns
returns c = λ C P ne. record { time_is = λ m. time_by_clock C P m ne; bases_are = λ t. base_by_clock C P t ne }
