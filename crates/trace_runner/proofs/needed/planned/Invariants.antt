use Rattle.std.proofs.Common.{◌≡◌, ◌≤◌, ◌*◌, take}
use Rattle.trace_runner.specs.Plan.{planned_reports}
use Rattle.trace_runner.proofs.needed.planned.Given as goal

abbrev pub invariant-loop-row : goal.invariant-loop-row
invariant-loop-row l = record { sum : l.sum ≡ planned_reports (take l.row-index l.rows) l.refresh; bound : l.sum ≤ 1000000000 * l.row-index }
