-- Backlogs in their limits.
use Rattle.std.specs.Prelude.{◌≤◌}
use Rattle.fq_model.specs.declared.level.Backlog.{Backlog}
use Rattle.fq_model.specs.declared.limits.TheConstants.{GREATEST_BACKLOG}
use Rattle.fq_model.specs.Limits.{IsTextWeight}

-- the numbers of a backlog are in their limits
pub record IsBacklog (b : Backlog) : Type 0 where
  pub units : b.units ≤ GREATEST_BACKLOG
  pub weight : IsTextWeight b.weight
