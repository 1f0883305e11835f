use Rattle.std.proofs.Common.{◌<◌, ◌∙◌, length, ap, length-set}
use Rattle.shared_order.specs.Heads.{HeadView}
use Rattle.shared_order.proofs.Numbers.{number_set, number_joined, room_stays}
use Rattle.shared_order.proofs.Searching.{reads_length}
use Rattle.shared_order.proofs.groups.Groups.insert.Goals as goal

pub invariant_of-self : goal.invariant_of-self
invariant_of-self c =
    let used = ap (λ v. v.used) c.self.view_is in let known : c.args.at < length c.self.inside.blocks.used = rw used c.requires.known in
    let old = c.self.inside.blocks in let new = c.insert.new.self in
    let others = c.insert.ensures.used.others in
    let ends = number_joined old.used new.used c.args.at c.args.head c.self.inside.lengths.items c.index_mut-lengths.result.now c.with.result _ known c.insert.ensures.used c.self.invariant.all c.index_mut-lengths.ensures.value (reads_length c.head.inside.len c.head.invariant.len_low c.head.invariant.len_high ∙ ap (λ (h : HeadView). h.len) c.head.view_is) c.with.ensures in
    record {
      all = number_set old.used new.used c.args.at _ c.self.inside.lengths.items c.with.result others known c.self.invariant.all ends;
      room = room_stays old new _ (ap length others ∙ length-set old.used c.args.at _) c.insert.ensures.spare c.self.invariant.room;
    }
