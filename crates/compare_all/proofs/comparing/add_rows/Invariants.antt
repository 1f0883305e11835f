use Rattle.std.proofs.Common.{◌+◌, ◌≡◌, length}
use Rattle.compare_all.specs.Rows.{AreFirstRows}
use Rattle.compare_all.proofs.comparing.add_rows.Given as goal

abbrev pub invariant-loop-k : goal.invariant-loop-k
invariant-loop-k g l = record {
  first : AreFirstRows l.trace l.fn.options l.rows.items;
  more : length l.rows.items ≡ length l.fn.rows.items + l.k;
}
