use Rattle.std.proofs.Common.{◌≤◌, ◌<◌, ◌-◌}
use Rattle.fq_model.specs.Level.{gifts_at}
use Rattle.water_level.proofs.levels.between.Given as goal

abbrev pub invariant-closer : goal.invariant-closer
invariant-closer l = record { fits : gifts_at l.low l.rows ≤ l.cap; over : l.cap < gifts_at l.high l.rows }

abbrev pub decreases-closer : goal.decreases-closer
decreases-closer l = l.high - l.low
