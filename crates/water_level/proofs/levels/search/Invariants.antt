use Rattle.std.proofs.Common.{◌≤◌, ◌<◌, ◌-◌}
use Rattle.fq_model.specs.Level.{gifts_at}
use Rattle.water_level.proofs.levels.search.Given as goal

abbrev pub invariant-search : goal.invariant-search
invariant-search l = record { order : l.low < l.high; fits : gifts_at l.low l.rows ≤ l.cap; over : l.cap < gifts_at l.high l.rows }

abbrev pub decreases-search : goal.decreases-search
decreases-search l = l.high - l.low
