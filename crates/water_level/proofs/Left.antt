-- The units that the greatest level leaves.
use Rattle.std.proofs.Common.{ℕ, ◌+◌, List, All, arith, inl, inr}
use Rattle.std.proofs.lemmas.Bool.{cases_lt}
use Rattle.fq_model.specs.declared.level.Backlog.{Backlog}
use Rattle.fq_model.specs.declared.level.Level.{Level}
use Rattle.fq_model.specs.declared.level.Level.TheVariants as levels
use Rattle.fq_model.specs.Level.{gifts_at, IsLevel, LeavesFewUnits}
use Rattle.water_level.specs.Backlogs.{IsBacklog}
use Rattle.water_level.proofs.Sums.{gifts_step}

-- fewer units than there are backlogs
pub leaves_few : (cap : ℕ) (rows : List Backlog) (l : Level) → All IsBacklog rows → IsLevel cap rows l → LeavesFewUnits cap rows l
leaves_few cap rows levels.All a is = tt
leaves_few cap rows (levels.At x) a is = elim (cases_lt cap (gifts_at (x + 1) rows)) [
  | inl l ↦ omega (arith, l, gifts_step x rows a)
  | inr l ↦ absurd (omega (arith, is.1.greatest (x + 1) l))
]
