use Rattle.std.proofs.Common.{◌≡◌, length, take}
use Rattle.lag_report.specs.Work.{GainsAre}
use Rattle.lag_report.proofs.work.gains.Given as goal

abbrev pub invariant-loop-course : goal.invariant-loop-course
invariant-loop-course l = record {
  len : length l.gains.items ≡ l.slots;
  gains : GainsAre l.slot (take l.course-index l.courses) l.gains.items;
}
