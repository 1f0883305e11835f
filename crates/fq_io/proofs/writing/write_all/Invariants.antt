use Rattle.std.proofs.Common.{◌≡◌, ◌≤◌, ◌-◌, length, take}
use Rattle.std.specs.Io.KnownBytes.{Appends}
use Rattle.fq_io.proofs.writing.write_all.Given as goal

abbrev pub invariant-writing : goal.invariant-writing
invariant-writing g l = record {
  taken : Appends (g.S.Sink.written l.fn.sink) (g.S.Sink.written l.sink) (take l.at l.bytes);
  later : g.S.Sink.faults l.fn.sink ≤ g.S.Sink.faults l.sink;
  within : l.at ≤ length l.bytes;
  fixed : g.S.Sink.room l.sink ≡ g.S.Sink.room l.fn.sink;
}

abbrev pub decreases-writing : goal.decreases-writing
decreases-writing g l = length l.bytes - l.at
