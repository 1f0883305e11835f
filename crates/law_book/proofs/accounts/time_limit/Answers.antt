use Rattle.std.proofs.Common.{subst, sym, ◌≤◌, ◌*◌}
use Rattle.fq_laws.specs.Words.{greatest_rate}
use Rattle.fq_laws.proofs.Time.Clock.{clock_time_low}
use Rattle.fq_laws.proofs.Keys.Pace.{time_by_clock}
use Rattle.law_book.proofs.accounts.time_limit.Goals as goal

pub returns : goal.returns
returns c = λ C P m ne lim l h. subst (λ v. v ≤ m * greatest_rate) (sym (time_by_clock C P m ne)) (clock_time_low C P m lim l h)
