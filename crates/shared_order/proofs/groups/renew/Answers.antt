use Rattle.std.proofs.Common.{rules, arith, ◌≡◌, ◌∙◌, ◌∷◌, ◌++◌, [], length, length-append, ap, sym, subst}
use Rattle.shared_order.specs.Heads.{lengths_of}
use Rattle.shared_order.specs.Blocks.{all_heads}
use Rattle.shared_order.specs.Groups.{group_heads, AreLengths}
use Rattle.shared_order.proofs.Numbers.{number_more}
use Rattle.shared_order.proofs.groups.renew.Goals as goal

pub loop-group-preserved : goal.loop-group-preserved
loop-group-preserved c =
    let blocks = c.args.blocks.now in
    let ls = c.loop-group.lengths.items in
    let pushed : c.push_reserved.new.self.items ≡ ls ++ c.lengths_in.result ∷ [] = c.push_reserved.ensures.items in
    let is : c.lengths_in.result ≡ lengths_of (group_heads blocks (length ls)) = c.lengths_in.ensures ∙ ap (λ t. lengths_of (all_heads t)) c.blocks_of.ensures ∙ ap (λ g. lengths_of (group_heads blocks g)) (sym c.loop-group.invariant.count) in
    record {
      each = subst (AreLengths blocks) (sym pushed) (number_more blocks ls c.lengths_in.result c.loop-group.invariant.each is);
      count = omega (arith, ap length pushed, length-append ls (c.lengths_in.result ∷ []), c.loop-group.invariant.count);
      capacity = search rules;
    }
