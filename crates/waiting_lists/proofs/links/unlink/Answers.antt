use Rattle.std.proofs.Common.{◌≡◌, ◌<◌, length, ap, ◌∙◌}
use borrow.Author.Rules.{scaled_Fits}
use Rattle.std.proofs.lemmas.List.{get_or_default}
use Rattle.waiting_lists.specs.declared.links.Slot.{Slot}
use Rattle.waiting_lists.specs.Linked.{empty_slot, slot_at}
use Rattle.waiting_lists.proofs.TakeOuts.{slot_bound, known_read, read_before_bound, read_next_bound, taken_keeps, taken_emptied, taken_out}
use Rattle.waiting_lists.proofs.links.unlink.Goals as goal

pub offset_bounds-slots-slot : goal.offset_bounds-slots-slot
offset_bounds-slots-slot g c =
    let within : c.args.slot < length c.args.slots.now = slot_bound c.args.slots.now c.args.ends.now c.args.free.now c.requires.kept c.args.slot c.requires.held in
    scaled_Fits c.args.slot (length c.args.slots.now) _ within c.well_formed.0.1

pub bounds-slots-slot : goal.bounds-slots-slot
bounds-slots-slot g c = slot_bound c.args.slots.now c.args.ends.now c.args.free.now c.requires.kept c.args.slot c.requires.held

pub lead-requires : goal.lead-requires
lead-requires g c =
    let within : c.args.slot < length c.args.slots.now = slot_bound c.args.slots.now c.args.ends.now c.args.free.now c.requires.kept c.args.slot c.requires.held in
    let read : c.replace-item.result ≡ slot_at c.args.slots.now c.args.slot = c.replace-item.ensures.value ∙ get_or_default c.args.slots.now c.args.slot c.index-slots-slot.result empty_slot within in
    read_before_bound c.args.slots.now c.args.ends.now c.args.free.now c.requires.kept c.args.slot c.requires.held c.replace-item.result c.replace-item.new.dest read (c.replace-item.ensures.after ∙ c.empty.ensures)

pub lead_back-requires : goal.lead_back-requires
lead_back-requires g c =
    let within : c.args.slot < length c.args.slots.now = slot_bound c.args.slots.now c.args.ends.now c.args.free.now c.requires.kept c.args.slot c.requires.held in
    let read : c.replace-item.result ≡ slot_at c.args.slots.now c.args.slot = c.replace-item.ensures.value ∙ get_or_default c.args.slots.now c.args.slot c.index-slots-slot.result empty_slot within in
    read_next_bound c.args.slots.now c.args.ends.now c.args.free.now c.requires.kept c.args.slot c.requires.held c.replace-item.result c.replace-item.new.dest read (c.replace-item.ensures.after ∙ c.empty.ensures) c.lead.new.slots c.lead.ensures

pub slice_copy_out-ends_without : goal.slice_copy_out-ends_without
slice_copy_out-ends_without g c =
    let within : c.args.slot < length c.args.slots.now = slot_bound c.args.slots.now c.args.ends.now c.args.free.now c.requires.kept c.args.slot c.requires.held in
    let read : c.replace-item.result ≡ slot_at c.args.slots.now c.args.slot = c.replace-item.ensures.value ∙ get_or_default c.args.slots.now c.args.slot c.index-slots-slot.result empty_slot within in
    known_read c.args.slots.now c.args.ends.now c.args.free.now c.requires.kept c.args.slot c.requires.held c.replace-item.result c.replace-item.new.dest read (c.replace-item.ensures.after ∙ c.empty.ensures)

pub bounds-ends-tenant : goal.bounds-ends-tenant
bounds-ends-tenant g c =
    let within : c.args.slot < length c.args.slots.now = slot_bound c.args.slots.now c.args.ends.now c.args.free.now c.requires.kept c.args.slot c.requires.held in
    let read : c.replace-item.result ≡ slot_at c.args.slots.now c.args.slot = c.replace-item.ensures.value ∙ get_or_default c.args.slots.now c.args.slot c.index-slots-slot.result empty_slot within in
    known_read c.args.slots.now c.args.ends.now c.args.free.now c.requires.kept c.args.slot c.requires.held c.replace-item.result c.replace-item.new.dest read (c.replace-item.ensures.after ∙ c.empty.ensures)

pub returns-clause-keeps : goal.returns-clause-keeps
returns-clause-keeps g c =
    let within : c.args.slot < length c.args.slots.now = slot_bound c.args.slots.now c.args.ends.now c.args.free.now c.requires.kept c.args.slot c.requires.held in
    let read : c.replace-item.result ≡ slot_at c.args.slots.now c.args.slot = c.replace-item.ensures.value ∙ get_or_default c.args.slots.now c.args.slot c.index-slots-slot.result empty_slot within in
    taken_keeps c.args.slots.now c.args.ends.now c.args.free.now c.requires.kept c.args.slot c.requires.held c.replace-item.result c.replace-item.new.dest read (c.replace-item.ensures.after ∙ c.empty.ensures) c.lead.new.slots c.lead.ensures c.lead_back.new.slots c.ends_without.result c.lead_back.ensures c.ends_without.ensures

pub returns-clause-item : goal.returns-clause-item
returns-clause-item g c =
    let within : c.args.slot < length c.args.slots.now = slot_bound c.args.slots.now c.args.ends.now c.args.free.now c.requires.kept c.args.slot c.requires.held in
    let read : c.replace-item.result ≡ slot_at c.args.slots.now c.args.slot = c.replace-item.ensures.value ∙ get_or_default c.args.slots.now c.args.slot c.index-slots-slot.result empty_slot within in
    ap (λ (s : Slot g.row.J.Denot). s.item) read

pub returns-clause-rest : goal.returns-clause-rest
returns-clause-rest g c =
    let within : c.args.slot < length c.args.slots.now = slot_bound c.args.slots.now c.args.ends.now c.args.free.now c.requires.kept c.args.slot c.requires.held in
    let read : c.replace-item.result ≡ slot_at c.args.slots.now c.args.slot = c.replace-item.ensures.value ∙ get_or_default c.args.slots.now c.args.slot c.index-slots-slot.result empty_slot within in
    taken_out c.args.slots.now c.args.ends.now c.args.free.now c.requires.kept c.args.slot c.requires.held c.replace-item.result c.replace-item.new.dest read (c.replace-item.ensures.after ∙ c.empty.ensures) c.lead.new.slots c.lead.ensures c.lead_back.new.slots c.ends_without.result c.lead_back.ensures c.ends_without.ensures

pub returns-clause-emptied : goal.returns-clause-emptied
returns-clause-emptied g c =
    let within : c.args.slot < length c.args.slots.now = slot_bound c.args.slots.now c.args.ends.now c.args.free.now c.requires.kept c.args.slot c.requires.held in
    let read : c.replace-item.result ≡ slot_at c.args.slots.now c.args.slot = c.replace-item.ensures.value ∙ get_or_default c.args.slots.now c.args.slot c.index-slots-slot.result empty_slot within in
    taken_emptied c.args.slots.now c.args.ends.now c.args.free.now c.requires.kept c.args.slot c.requires.held c.replace-item.result c.replace-item.new.dest read (c.replace-item.ensures.after ∙ c.empty.ensures) c.lead.new.slots c.lead.ensures c.lead_back.new.slots c.ends_without.result c.lead_back.ensures c.ends_without.ensures
