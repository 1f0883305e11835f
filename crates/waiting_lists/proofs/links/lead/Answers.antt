use Rattle.std.proofs.Common.{◌<◌, length, get_or, set, refl, sym, subst, ap}
use Rattle.std.specs.Prelude.{IfSome}
use borrow.Author.Rules.{scaled_Fits}
use Rattle.std.proofs.lemmas.List.{get_or_default}
use Rattle.waiting_lists.specs.declared.links.Slot.{Slot}
use Rattle.waiting_lists.specs.Linked.{empty_slot, Leads}
use Rattle.waiting_lists.proofs.links.lead.Goals as goal

pub bounds-slots-slot : goal.bounds-slots-slot
bounds-slots-slot g c = subst (λ o. IfSome o (λ s. s < length c.args.slots.now)) c.in-Some.is c.requires

pub bounds-slots-slot-in-Some : goal.bounds-slots-slot-in-Some
bounds-slots-slot-in-Some g c = subst (λ o. IfSome o (λ s. s < length c.args.slots.now)) c.in-Some.is c.requires

pub offset_bounds-slots-slot : goal.offset_bounds-slots-slot
offset_bounds-slots-slot g c = scaled_Fits c.in-Some.slot (length c.args.slots.now) _ (subst (λ o. IfSome o (λ s. s < length c.args.slots.now)) c.in-Some.is c.requires) c.well_formed.0.1

pub returns-in-Some : goal.returns-in-Some
returns-in-Some g c =
    let within : c.in-Some.slot < length c.args.slots.now = subst (λ o. IfSome o (λ s. s < length c.args.slots.now)) c.in-Some.is c.requires in
    subst (λ o. Leads c.args.slots.now o c.args.next (set c.args.slots.now c.in-Some.slot (record (get_or c.args.slots.now c.in-Some.slot c.index-slots-slot.result) { next = c.args.next }))) (sym c.in-Some.is)
    (ap (λ (s : Slot g.row.J.Denot). set c.args.slots.now c.in-Some.slot (record s { next = c.args.next })) (get_or_default c.args.slots.now c.in-Some.slot c.index-slots-slot.result empty_slot within))

pub returns-in_default : goal.returns-in_default
returns-in_default g c = subst (λ o. Leads c.args.slots.now o c.args.next c.args.slots.now) (sym c.in_default.is) refl
