use Rattle.std.proofs.Common.{rules, ◌≡◌, Some, slice_get}
use Rattle.shared_order.specs.Heads.{IsSorted}
use Rattle.shared_order.proofs.Sorting.{after_first}
use Rattle.shared_order.proofs.block.Block.is_after.Goals as goal

pub returns-in-Some : goal.returns-in-Some
returns-in-Some c =
    let first : slice_get c.args.self.now 0 ≡ Some c.in-Some.first.now = search rules in
    let sorted : IsSorted c.args.self.now = rw (← c.self.view_is) (c.self.invariant.sorted) in
    after_first _ c.args.head.now _ _ sorted first c.is_before.ensures
