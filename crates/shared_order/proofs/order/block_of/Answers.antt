use Rattle.std.proofs.Common.{arith, ◌≡◌, ◌+◌, ◌-◌, ◌/◌, ◌<◌, ◌∙◌, suc, sym, subst, drop, length}
use Rattle.std.specs.List.{All}
use Rattle.std.proofs.lemmas.Bool.{false≢true}
use Rattle.shared_order.specs.Heads.{HeadBefore}
use Rattle.shared_order.specs.Blocks.{all_heads}
use Rattle.shared_order.proofs.Rows.{after_from, before_from, block_is}
use Rattle.shared_order.proofs.order.block_of.Goals as goal

pub halve-preserved-then-is_after : goal.halve-preserved-then-is_after
halve-preserved-then-is_after c = record {
  apart = omega (arith, c.halve-test.true);
  within = omega (arith, c.halve.invariant.within);
  before = c.halve.invariant.before;
  after =
      let l : c.halve.low + (c.halve.high - c.halve.low) / 2 < length c.args.blocks.now = omega (arith, c.halve-test.true, c.halve.invariant.within) in
      after_from c.args.head.now c.args.blocks.now _ _ l (block_is _ _ _ l c.index-blocks-middle.is) c.requires.filled c.requires.sorted (c.is_after.ensures.0 c.if-is_after.true);
}

pub halve-preserved : goal.halve-preserved
halve-preserved c = record {
  apart = omega (arith, c.halve-test.true);
  within = c.halve.invariant.within;
  before =
      let l : c.halve.low + (c.halve.high - c.halve.low) / 2 < length c.args.blocks.now = omega (arith, c.halve-test.true, c.halve.invariant.within) in
      before_from c.args.head.now c.args.blocks.now _ _ l (block_is _ _ _ l c.index-blocks-middle.is) c.requires.sorted (λ a. false≢true (sym c.if-is_after.false ∙ c.is_after.ensures.1 a));
  after = c.halve.invariant.after;
}

pub returns : goal.returns
returns c =
    let e : c.halve.high ≡ suc c.halve.low = omega (arith, c.halve-test.false, c.halve.invariant.apart) in
    record {
      known = omega (arith, c.halve.invariant.apart, c.halve.invariant.within);
      before = c.halve.invariant.before;
      after = subst (λ i. All (HeadBefore c.args.head.now) (all_heads (drop i c.args.blocks.now))) e c.halve.invariant.after;
    }
