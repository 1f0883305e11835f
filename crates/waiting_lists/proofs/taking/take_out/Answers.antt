use Rattle.std.proofs.Common.{◌≡◌, ◌<◌, length, option_map, IsSome, sym, ap, ◌∙◌, subst, arith}
use borrow.Author.Rules.{scaled_Fits}
use Rattle.std.proofs.lemmas.List.{get_or_default}
use Rattle.waiting_lists.specs.declared.links.Slot.{Slot}
use Rattle.waiting_lists.specs.Cells.{number_at}
use Rattle.waiting_lists.specs.Linked.{empty_slot}
use Rattle.waiting_lists.proofs.TakeOuts.{slot_bound}
use Rattle.waiting_lists.proofs.Moves.{emptied_index, mid_keeps, mid_out, no_number}
use Rattle.waiting_lists.proofs.taking.take_out.Goals as goal

pub offset_bounds-slots-slot : goal.offset_bounds-slots-slot
offset_bounds-slots-slot g c =
    let within : c.args.slot < length c.args.slots.now = slot_bound c.args.slots.now c.args.ends.now c.args.free.now c.requires.kept.links c.args.slot c.requires.held in
    scaled_Fits c.args.slot (length c.args.slots.now) _ within c.well_formed.0.1

pub bounds-slots-slot : goal.bounds-slots-slot
bounds-slots-slot g c = slot_bound c.args.slots.now c.args.ends.now c.args.free.now c.requires.kept.links c.args.slot c.requires.held

pub returns-in_err-request-clause-item : goal.returns-in_err-request-clause-item
returns-in_err-request-clause-item g c =
    let within : c.args.slot < length c.args.slots.now = slot_bound c.args.slots.now c.args.ends.now c.args.free.now c.requires.kept.links c.args.slot c.requires.held in
    let number : number_at c.args.slots.now c.args.slot ≡ c.number_of.result = ap (λ (s : Slot g.row.J.Denot). option_map (λ i. i.request) s.item) (get_or_default c.args.slots.now c.args.slot empty_slot c.index-slots-slot.result within) ∙ sym c.number_of.ensures in
    absurd (no_number c.args.slots.now c.args.slot c.requires.held (number ∙ c.in_err-request.was))

pub returns-in_err-request-clause-keeps : goal.returns-in_err-request-clause-keeps
returns-in_err-request-clause-keeps g c =
    let within : c.args.slot < length c.args.slots.now = slot_bound c.args.slots.now c.args.ends.now c.args.free.now c.requires.kept.links c.args.slot c.requires.held in
    let number : number_at c.args.slots.now c.args.slot ≡ c.number_of.result = ap (λ (s : Slot g.row.J.Denot). option_map (λ i. i.request) s.item) (get_or_default c.args.slots.now c.args.slot empty_slot c.index-slots-slot.result within) ∙ sym c.number_of.ensures in
    absurd (no_number c.args.slots.now c.args.slot c.requires.held (number ∙ c.in_err-request.was))

pub returns-in_err-request-clause-rest : goal.returns-in_err-request-clause-rest
returns-in_err-request-clause-rest g c =
    let within : c.args.slot < length c.args.slots.now = slot_bound c.args.slots.now c.args.ends.now c.args.free.now c.requires.kept.links c.args.slot c.requires.held in
    let number : number_at c.args.slots.now c.args.slot ≡ c.number_of.result = ap (λ (s : Slot g.row.J.Denot). option_map (λ i. i.request) s.item) (get_or_default c.args.slots.now c.args.slot empty_slot c.index-slots-slot.result within) ∙ sym c.number_of.ensures in
    absurd (no_number c.args.slots.now c.args.slot c.requires.held (number ∙ c.in_err-request.was))

pub unfile-requires-clause-held : goal.unfile-requires-clause-held
unfile-requires-clause-held g c =
    let within : c.args.slot < length c.args.slots.now = slot_bound c.args.slots.now c.args.ends.now c.args.free.now c.requires.kept.links c.args.slot c.requires.held in
    let number : number_at c.args.slots.now c.args.slot ≡ c.number_of.result = ap (λ (s : Slot g.row.J.Denot). option_map (λ i. i.request) s.item) (get_or_default c.args.slots.now c.args.slot empty_slot c.index-slots-slot.result within) ∙ sym c.number_of.ensures in
    number ∙ c.in_ok-request.was

pub unlink-requires-clause-kept : goal.unlink-requires-clause-kept
unlink-requires-clause-kept g c =
    let size : length c.unfile.new.slots ≡ length c.args.slots.now = c.unfile.auto.slots in
    mid_keeps c.args.slots.now c.unfile.new.slots size c.unfile.ensures.lists c.args.ends.now c.args.free.now c.requires.kept.links

pub unlink-requires-clause-held : goal.unlink-requires-clause-held
unlink-requires-clause-held g c = subst IsSome (sym (c.unfile.ensures.lists.items c.args.slot)) c.requires.held

pub returns-clause-keeps : goal.returns-clause-keeps
returns-clause-keeps g c =
    let size : length c.unfile.new.cells ≡ length c.args.cells.now = c.unfile.auto.cells in
    record {
      links = c.unlink.ensures.keeps;
      index = emptied_index c.unfile.new.cells c.unfile.new.slots c.unlink.new.slots c.args.slot c.unlink.ensures.emptied c.unfile.ensures.keeps;
      some = omega (arith, size, c.requires.kept.some);
    }

pub returns-clause-item : goal.returns-clause-item
returns-clause-item g c = c.unlink.ensures.item ∙ c.unfile.ensures.lists.items c.args.slot

pub returns-clause-rest : goal.returns-clause-rest
returns-clause-rest g c =
    let size : length c.unfile.new.slots ≡ length c.args.slots.now = c.unfile.auto.slots in
    mid_out c.args.slots.now c.unfile.new.slots size c.unfile.ensures.lists c.args.ends.now c.args.free.now c.requires.kept.links c.args.slot c.unlink.new.slots c.unlink.new.ends c.unlink.ensures.rest
