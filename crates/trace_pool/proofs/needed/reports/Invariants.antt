use Rattle.std.proofs.Common.{◌≡◌, ◌≤◌, ◌*◌, take}
use Rattle.program_model.specs.Courses.{sum_over}
use Rattle.program_model.specs.PoolHistory.{row_reports}
use Rattle.trace_pool.proofs.needed.reports.Given as goal

abbrev pub invariant-loop-row : goal.invariant-loop-row
invariant-loop-row l = record { sum : l.sum ≡ sum_over (row_reports l.refresh) (take l.row-index l.rows); bound : l.sum ≤ 10000 * l.row-index }
