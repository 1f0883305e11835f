use Rattle.std.proofs.Common.{◌≡◌, ◌≢◌, ℕ, ◌+◌, ◌-◌, [], Some, length, get_or, option_map, refl, sym, ap, ◌∙◌, rules, arith}
use Rattle.std.proofs.lemmas.List.{get_or_read}
use Rattle.waiting_lists.specs.Linked.{empty_slot, slot_at, lists_of, IsTakenOut}
use Rattle.waiting_lists.specs.Cells.{number_at}
use Rattle.waiting_lists.specs.Lists.{HasNone}
use Rattle.waiting_lists.proofs.Chains.{none_not_some}
use Rattle.waiting_lists.proofs.Filed.{number_bound}
use Rattle.waiting_lists.proofs.Counts.{kept_back, counted_less, item_counts, whole_back}
use Rattle.waiting_lists.proofs.Removes.{holds, found_none, found_known, left, left_shorter, left_lists, removed}
use Rattle.waiting_lists.proofs.lists.Lists.remove.Given as given
use Rattle.waiting_lists.proofs.lists.Lists.remove.Goals as goal
use Rattle.waiting_lists.proofs.lists.Lists.remove.Goals.{In_err-item}

pub find-requires-clause-some : goal.find-requires-clause-some
find-requires-clause-some g c = rw c.deref-2.ensures.value c.self.invariant.kept.some

pub find-requires-clause-kept : goal.find-requires-clause-kept
find-requires-clause-kept g c = rw (c.deref.ensures.value, c.deref-2.ensures.value) c.self.invariant.kept.index

pub returns-in_err-slot-clause-removed : goal.returns-in_err-slot-clause-removed
returns-in_err-slot-clause-removed g c = rw c.from_residual.ensures tt

pub returns-in_err-slot-clause-unchanged : goal.returns-in_err-slot-clause-unchanged
returns-in_err-slot-clause-unchanged g c = rw c.from_residual.ensures refl

pub returns-in_err-slot-clause-none : goal.returns-in_err-slot-clause-none
returns-in_err-slot-clause-none g c =
    let s = c.self.inside in
    let none : (i : ℕ) → number_at s.slots.items i ≢ Some c.args.request = rw c.deref.ensures.value at c.in_err-slot.ensures.none in
    let all : HasNone c.args.self.now c.args.request = found_none s.slots.items s.ends.items s.free s.room c.args.self.now c.self.view_is c.self.invariant.kept.links c.args.request none in
    rw c.from_residual.ensures all

pub index-requires : goal.index-requires
index-requires g c =
    let s = c.self.inside in
    let number : number_at s.slots.items c.in_ok-slot.slot ≡ Some c.args.request = rw c.deref.ensures.value at c.in_ok-slot.ensures.found in
    omega (arith, number_bound s.slots.items c.in_ok-slot.slot c.args.request number, s.slots.ok.0)

pub take_out-requires-clause-kept : goal.take_out-requires-clause-kept
take_out-requires-clause-kept g c = rw (c.deref_mut.ensures.value, c.deref_mut-2.ensures.value, c.deref_mut-3.ensures.value) c.self.invariant.kept

pub take_out-requires-clause-held : goal.take_out-requires-clause-held
take_out-requires-clause-held g c =
    let s = c.self.inside in
    let k = c.self.invariant.kept.links in
    let number : number_at s.slots.items c.in_ok-slot.slot ≡ Some c.args.request = rw c.deref.ensures.value at c.in_ok-slot.ensures.found in
    rw c.deref_mut.ensures.value (holds s.slots.items c.in_ok-slot.slot c.args.request number)

-- the slot had an item
gone : (g : given.Over) (c : In_err-item g) → ⊥
gone g c =
    let s = c.self.inside in
    let number : number_at s.slots.items c.in_ok-slot.slot ≡ Some c.args.request = rw c.deref.ensures.value at c.in_ok-slot.ensures.found in
    let held : c.take_out.result ≡ (slot_at s.slots.items c.in_ok-slot.slot).item = rw c.deref_mut.ensures.value at c.take_out.ensures.item in
    none_not_some (number_at s.slots.items c.in_ok-slot.slot) c.args.request (ap (option_map (λ i. i.request)) (sym held ∙ c.in_err-item.was)) number

pub invariant_of-self : goal.invariant_of-self
invariant_of-self g c = absurd (gone g (goal.at.invariant_of-self g c).In_err-item)

pub returns-in_err-item-clause-removed : goal.returns-in_err-item-clause-removed
returns-in_err-item-clause-removed g c = absurd (gone g (goal.at.returns-in_err-item-clause-removed g c).In_err-item)

pub returns-in_err-item-clause-none : goal.returns-in_err-item-clause-none
returns-in_err-item-clause-none g c = absurd (gone g (goal.at.returns-in_err-item-clause-none g c).In_err-item)

pub returns-in_err-item-clause-unchanged : goal.returns-in_err-item-clause-unchanged
returns-in_err-item-clause-unchanged g c = absurd (gone g (goal.at.returns-in_err-item-clause-unchanged g c).In_err-item)

pub overflow_sub-self : goal.overflow_sub-self
overflow_sub-self g c =
    let s = c.self.inside in
    let k = c.self.invariant.kept.links in
    let number : number_at s.slots.items c.in_ok-slot.slot ≡ Some c.args.request = rw c.deref.ensures.value at c.in_ok-slot.ensures.found in
    let shorter : length (left s.slots.items s.ends.items s.free s.room c.args.self.now c.self.view_is k c.in_ok-slot.slot c.args.request number) + 1 ≡ length (get_or (lists_of s.slots.items s.ends.items) (slot_at s.slots.items c.in_ok-slot.slot).tenant []) = left_shorter s.slots.items s.ends.items s.free s.room c.args.self.now c.self.view_is k c.in_ok-slot.slot c.args.request number in
    item_counts s.slots.items s.cells.items s.ends.items s.free s.len s.room _ (slot_at s.slots.items c.in_ok-slot.slot).tenant c.self.invariant (found_known s.slots.items s.ends.items s.free s.room c.args.self.now c.self.view_is k c.in_ok-slot.slot c.args.request number) (omega (arith, shorter))

pub invariant_of-self-2 : goal.invariant_of-self-2
invariant_of-self-2 g c =
    let s = c.self.inside in
    let k = c.self.invariant.kept.links in
    let number : number_at s.slots.items c.in_ok-slot.slot ≡ Some c.args.request = rw c.deref.ensures.value at c.in_ok-slot.ensures.found in
    let f = c.take_out.new in
    let out : IsTakenOut s.slots.items s.ends.items c.in_ok-slot.slot f.slots f.ends = rw (c.deref_mut.ensures.value, c.deref_mut-3.ensures.value) at c.take_out.ensures.rest in
    let size : length f.slots ≡ length s.slots.items = search rules in
    kept_back s.slots.len s.cells.len s.ends.len f.slots s.slots.items f.cells s.cells.items f.ends s.ends.items f.free (s.len - 1) s.room _ (search rules) (search rules) (search rules)
    (counted_less s.slots.items f.slots s.cells.items f.cells s.ends.items f.ends s.free f.free s.len s.room _ (slot_at s.slots.items c.in_ok-slot.slot).tenant c.self.invariant c.take_out.ensures.keeps size (found_known s.slots.items s.ends.items s.free s.room c.args.self.now c.self.view_is k c.in_ok-slot.slot c.args.request number) (left s.slots.items s.ends.items s.free s.room c.args.self.now c.self.view_is k c.in_ok-slot.slot c.args.request number) (left_lists s.slots.items s.ends.items s.free s.room c.args.self.now c.self.view_is k c.in_ok-slot.slot c.args.request number f.slots f.ends out) (left_shorter s.slots.items s.ends.items s.free s.room c.args.self.now c.self.view_is k c.in_ok-slot.slot c.args.request number))

pub returns-clause-removed : goal.returns-clause-removed
returns-clause-removed g c =
    let s = c.self.inside in
    let k = c.self.invariant.kept.links in
    let number : number_at s.slots.items c.in_ok-slot.slot ≡ Some c.args.request = rw c.deref.ensures.value at c.in_ok-slot.ensures.found in
    let f = c.take_out.new in
    let out : IsTakenOut s.slots.items s.ends.items c.in_ok-slot.slot f.slots f.ends = rw (c.deref_mut.ensures.value, c.deref_mut-3.ensures.value) at c.take_out.ensures.rest in
    let read : c.index.result.now ≡ slot_at s.slots.items c.in_ok-slot.slot = get_or_read s.slots.items c.in_ok-slot.slot c.index.result.now (number_bound s.slots.items c.in_ok-slot.slot c.args.request number) c.index.ensures empty_slot in
    let held : c.take_out.result ≡ (slot_at s.slots.items c.in_ok-slot.slot).item = rw c.deref_mut.ensures.value at c.take_out.ensures.item in
    let back = whole_back s.slots.len s.ends.len f.slots s.slots.items f.ends s.ends.items s.room (search rules) (search rules) in
    removed s.slots.items s.ends.items s.free s.room c.args.self.now c.self.view_is k c.in_ok-slot.slot c.args.request number f.slots f.ends out c.index.result.now read c.in_ok-item.item (sym held ∙ c.in_ok-item.was) _ back
