use Rattle.std.proofs.Common.{◌*◌, ◌≡◌, length}
use Rattle.compare_all.specs.Rows.{AreFirstRows}
use Rattle.compare_all.proofs.comparing.compare.Given as goal

abbrev pub invariant-loop-policy : goal.invariant-loop-policy
invariant-loop-policy g l = record {
  first : AreFirstRows l.fn.trace l.fn.options l.rows.items;
  count : length l.rows.items ≡ 3 * l.policy-index;
}
