use Rattle.std.proofs.Common.{◌≡◌, ◌<◌, Some, None, length, get_or, sym, ap, ◌∙◌, rules}
use Rattle.std.proofs.lemmas.List.{get_or_read}
use Rattle.waiting_lists.specs.declared.links.Slot.{Slot}
use Rattle.waiting_lists.specs.Linked.{empty_slot, slot_at}
use Rattle.waiting_lists.proofs.Heads.{none_first, first_bound, head_is}
use Rattle.waiting_lists.proofs.Counts.{known_tenant}
use Rattle.waiting_lists.proofs.lists.Lists.head.Goals as goal

pub returns-in_err-ends : goal.returns-in_err-ends
returns-in_err-ends g c =
    let s = c.self.inside in
    let known : c.args.tenant < length s.ends.items = known_tenant s.slots.items s.ends.items s.room c.args.self.now c.args.tenant c.self.view_is c.requires in
    let none : get_or s.ends.items c.args.tenant None ≡ None = sym (get_or_read s.ends.items c.args.tenant c.index.result.now known c.index.ensures None) ∙ c.in_err-ends.was in
    rw (c.from_residual.ensures, ← c.self.view_is) (none_first s.slots.items s.ends.items s.free c.self.invariant.kept.links c.args.tenant known none)

pub index-requires-2 : goal.index-requires-2
index-requires-2 g c =
    let s = c.self.inside in
    let known : c.args.tenant < length s.ends.items = known_tenant s.slots.items s.ends.items s.room c.args.self.now c.args.tenant c.self.view_is c.requires in
    let some : get_or s.ends.items c.args.tenant None ≡ Some c.in_ok-ends.ends = sym (get_or_read s.ends.items c.args.tenant c.index.result.now known c.index.ensures None) ∙ c.in_ok-ends.was in
    let within : c.in_ok-ends.ends.first < length s.slots.items = first_bound s.slots.items s.ends.items s.free c.self.invariant.kept.links c.args.tenant known c.in_ok-ends.ends some in
    search rules

pub returns : goal.returns
returns g c =
    let s = c.self.inside in
    let known : c.args.tenant < length s.ends.items = known_tenant s.slots.items s.ends.items s.room c.args.self.now c.args.tenant c.self.view_is c.requires in
    let some : get_or s.ends.items c.args.tenant None ≡ Some c.in_ok-ends.ends = sym (get_or_read s.ends.items c.args.tenant c.index.result.now known c.index.ensures None) ∙ c.in_ok-ends.was in
    let within : c.in_ok-ends.ends.first < length s.slots.items = first_bound s.slots.items s.ends.items s.free c.self.invariant.kept.links c.args.tenant known c.in_ok-ends.ends some in
    let read : c.index-2.result.now ≡ slot_at s.slots.items c.in_ok-ends.ends.first = get_or_read s.slots.items c.in_ok-ends.ends.first c.index-2.result.now within c.index-2.ensures empty_slot in
    rw (c.as_ref.ensures.value, ← c.self.view_is) (ap (λ (slot : Slot g.row.J.Denot). slot.item) read ∙ head_is s.slots.items s.ends.items s.free c.self.invariant.kept.links c.args.tenant known c.in_ok-ends.ends some)
