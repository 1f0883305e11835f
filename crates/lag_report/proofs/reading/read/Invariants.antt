use Rattle.std.proofs.Common.{◌≡◌, take}
use Rattle.fq_model.specs.Fluid.{changes_of}
use Rattle.fq_model.specs.History.{history_of}
use Rattle.lag_report.specs.Courses.{courses_of, rows_of}
use Rattle.lag_report.proofs.reading.read.Given as goal

abbrev pub invariant-loop-entry : goal.invariant-loop-entry
invariant-loop-entry l = record {
  past : l.contents.past.items ≡ take l.entry-index l.past;
  courses : l.contents.courses.items ≡ courses_of (history_of (take l.entry-index l.past));
  rows : l.contents.rows.items ≡ rows_of (history_of (take l.entry-index l.past));
  changes : l.contents.changes.items ≡ changes_of (history_of (take l.entry-index l.past));
}
