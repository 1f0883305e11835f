use Rattle.std.proofs.Common.{length, set, ap}
use borrow.Author.Rules.{scaled_Fits}
use Rattle.std.proofs.lemmas.List.{get_or_default}
use Rattle.waiting_lists.specs.declared.links.Slot.{Slot}
use Rattle.waiting_lists.specs.Linked.{empty_slot}
use Rattle.waiting_lists.proofs.cells.lead_in_cell.Goals as goal

pub offset_bounds-slots-slot : goal.offset_bounds-slots-slot
offset_bounds-slots-slot g c = scaled_Fits c.args.slot (length c.args.slots.now) _ c.requires c.well_formed.0.1

pub returns : goal.returns
returns g c =
    ap (λ (s : Slot g.row.J.Denot). set c.args.slots.now c.args.slot (record s { next_in_cell = c.args.next })) (get_or_default c.args.slots.now c.args.slot c.index-slots-slot.result empty_slot c.requires)
