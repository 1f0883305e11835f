use Rattle.std.proofs.Common.{◌≡◌, ◌≢◌, ℕ, Some, sym, subst, arith}
use Rattle.std.proofs.lemmas.List.{get_or_read}
use Rattle.waiting_lists.specs.declared.links.Slot.{Slot}
use Rattle.waiting_lists.specs.Linked.{empty_slot, slot_at}
use Rattle.waiting_lists.specs.Cells.{number_at}
use Rattle.waiting_lists.specs.Lists.{HasNone, HasItemOf}
use Rattle.waiting_lists.proofs.Filed.{number_bound}
use Rattle.waiting_lists.proofs.Removes.{found_none, found_some}
use Rattle.waiting_lists.proofs.lists.Lists.find.Goals as goal

pub find-requires-clause-some : goal.find-requires-clause-some
find-requires-clause-some g c = rw c.deref-2.ensures.value c.self.invariant.kept.some

pub find-requires-clause-kept : goal.find-requires-clause-kept
find-requires-clause-kept g c = rw (c.deref.ensures.value, c.deref-2.ensures.value) c.self.invariant.kept.index

pub returns-in_err-slot-clause-some : goal.returns-in_err-slot-clause-some
returns-in_err-slot-clause-some g c = rw c.from_residual.ensures tt

pub returns-in_err-slot-clause-none : goal.returns-in_err-slot-clause-none
returns-in_err-slot-clause-none g c =
    let s = c.self.inside in
    let none : (i : ℕ) → number_at s.slots.items i ≢ Some c.args.request = rw c.deref.ensures.value at c.in_err-slot.ensures.none in
    let all : HasNone c.args.self.now c.args.request = found_none s.slots.items s.ends.items s.free s.room c.args.self.now c.self.view_is c.self.invariant.kept.links c.args.request none in
    rw c.from_residual.ensures all

pub index-requires : goal.index-requires
index-requires g c =
    let s = c.self.inside in
    let number : number_at s.slots.items c.in_ok-slot.slot ≡ Some c.args.request = rw c.deref.ensures.value at c.in_ok-slot.ensures.found in
    omega (arith, number_bound s.slots.items c.in_ok-slot.slot c.args.request number, s.slots.ok.0)

pub returns-clause-some : goal.returns-clause-some
returns-clause-some g c =
    let s = c.self.inside in
    let number : number_at s.slots.items c.in_ok-slot.slot ≡ Some c.args.request = rw c.deref.ensures.value at c.in_ok-slot.ensures.found in
    let read : c.index.result.now ≡ slot_at s.slots.items c.in_ok-slot.slot = get_or_read s.slots.items c.in_ok-slot.slot c.index.result.now (number_bound s.slots.items c.in_ok-slot.slot c.args.request number) c.index.ensures empty_slot in
    subst (λ (x : Slot g.row.J.Denot). HasItemOf c.args.self.now c.args.request x.tenant) (sym read)
    (found_some s.slots.items s.ends.items s.free s.room c.args.self.now c.self.view_is c.self.invariant.kept.links c.in_ok-slot.slot c.args.request number)
