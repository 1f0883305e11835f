use Rattle.std.proofs.Common.{◌≤◌, ◌-◌, ◌+◌, length}
use Rattle.std.specs.Io.KnownBytes.{Consumes}
use Rattle.fq_io.proofs.reading.read_all.Given as goal

abbrev pub invariant-reading : goal.invariant-reading
invariant-reading g l = record {
  taken : Consumes (g.S.Source.left l.fn.source) (g.S.Source.left l.source) l.all.items;
  later : g.S.Source.faults l.fn.source ≤ g.S.Source.faults l.source;
  within : length l.all.items ≤ l.limit + 1;
}

abbrev pub decreases-reading : goal.decreases-reading
decreases-reading g l = l.limit + 1 - length l.all.items
