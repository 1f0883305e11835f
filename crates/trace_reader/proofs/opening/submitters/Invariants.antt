use Rattle.std.proofs.Common.{◌≡◌, ◌≤◌, take}
use Rattle.program_model.specs.Courses.{submitters}
use Rattle.trace_reader.proofs.opening.submitters.Given as goal

abbrev pub invariant-loop-row : goal.invariant-loop-row
invariant-loop-row l = record { most : l.most ≡ submitters (take l.row-index l.rows); low : l.most ≤ 64 }
