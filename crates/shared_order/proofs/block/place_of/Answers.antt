use Rattle.std.proofs.Common.{rules, ◌≡◌, true, false}
use Rattle.std.proofs.lemmas.List.Sorted.{IsPartitionPoint-from_clause}
use Rattle.std.proofs.lemmas.List.Elements.{All-weaker}
use Rattle.shared_order.specs.Heads.{HeadBefore}
use Rattle.shared_order.proofs.Places.{precedes, precedes_is, precedes_true, precedes_false, parted, place}
use Rattle.shared_order.proofs.block.place_of.Goals as goal

pub returns : goal.returns
returns c =
    let part = parted c.args.head.now c.args.heads.now c.requires in
    let point = IsPartitionPoint-from_clause (λ y. precedes y c.args.head.now) _ _ c.partition_point.ensures.partitioned part (λ a r q k. (precedes_is a.0.now c.args.head.now r (search rules), search rules)) in
    let at = place (λ y. precedes y c.args.head.now ≡ true) (λ y. precedes y c.args.head.now ≡ false) _ _ c.partition_point.ensures.bound point in
    record {
      within = c.partition_point.ensures.bound;
      before = All-weaker _ (λ h. HeadBefore h c.args.head.now) (λ y p. precedes_true y c.args.head.now p) _ at.front;
      rest = All-weaker _ (λ h. ¬ HeadBefore h c.args.head.now) (λ y p. precedes_false y c.args.head.now p) _ at.back;
    }
