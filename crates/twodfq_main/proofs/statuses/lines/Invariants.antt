use Rattle.std.proofs.Common.{◌≡◌, ◌++◌, drop}
use Rattle.program_model.specs.Readings.{status_lines}
use Rattle.twodfq_main.proofs.statuses.lines.Given as goal

abbrev pub invariant-loop-status : goal.invariant-loop-status
invariant-loop-status l = l.text.items ++ status_lines (drop l.status-index l.statuses) ≡ status_lines l.statuses
