use Rattle.std.proofs.Common.{◌≡◌, ◌/◌, ◌<◌, ◌∙◌, length, ap}
use Rattle.shared_order.specs.Heads.{HeadView, lengths_of}
use Rattle.shared_order.specs.Blocks.{all_heads}
use Rattle.shared_order.specs.Groups.{group_at, group_heads}
use Rattle.shared_order.proofs.Changes.{leaves_count}
use Rattle.shared_order.proofs.Numbers.{number_set, number_stays, number_left, room_stays}
use Rattle.shared_order.proofs.Searching.{reads_length}
use Rattle.shared_order.proofs.groups.Groups.remove.Goals as goal

pub invariant_of-self : goal.invariant_of-self
invariant_of-self c =
    let used = ap (λ v. v.used) c.self.view_is in let known : c.args.at < length c.self.inside.blocks.used = rw used c.requires.known in
    let old = c.self.inside.blocks in let new = c.remove.new.self in
    let g = c.args.at / 32 in
    let ends : c.lengths_in.result ≡ lengths_of (group_heads new.used g) = c.lengths_in.ensures ∙ ap (λ t. lengths_of (all_heads t)) (c.blocks_of.ensures ∙ ap (λ t. group_at t g) c.used.ensures) in
    record {
      all = number_set old.used new.used c.args.at _ c.self.inside.lengths.items c.lengths_in.result c.remove.ensures.used.others known c.self.invariant.all ends;
      room = room_stays old new _ (leaves_count old.used new.used c.args.at c.args.head c.remove.ensures.used) c.remove.ensures.spare c.self.invariant.room;
    }

pub invariant_of-self-else-has : goal.invariant_of-self-else-has
invariant_of-self-else-has c =
    let used = ap (λ v. v.used) c.self.view_is in let known : c.args.at < length c.self.inside.blocks.used = rw used c.requires.known in
    let old = c.self.inside.blocks in let new = c.remove.new.self in
    let stays = number_left old.used new.used c.args.at c.args.head c.self.inside.lengths.items c.index.result.now _ known c.remove.ensures.used c.self.invariant.all c.index.ensures (reads_length c.head.inside.len c.head.invariant.len_low c.head.invariant.len_high ∙ ap (λ (h : HeadView). h.len) c.head.view_is) (c.has.ensures.none c.if-has.false) in
    record {
      all = number_stays old.used new.used c.args.at _ c.self.inside.lengths.items c.remove.ensures.used.others c.self.invariant.all stays;
      room = room_stays old new _ (leaves_count old.used new.used c.args.at c.args.head c.remove.ensures.used) c.remove.ensures.spare c.self.invariant.room;
    }
