use Rattle.std.proofs.Common.{◌≡◌, ◌%◌, length, get_or, ap, refl}
use borrow.Author.Rules.{scaled_Fits}
use Rattle.std.proofs.lemmas.List.{get_or_default}
use Rattle.waiting_lists.specs.declared.links.Slot.{Slot}
use Rattle.waiting_lists.specs.Cells.{number_at}
use Rattle.waiting_lists.specs.Linked.{empty_slot}
use Rattle.waiting_lists.proofs.Searches.{cell_links}
use Rattle.waiting_lists.proofs.Filed.{number_bound}
use Rattle.waiting_lists.proofs.Unfiled.{chain_is, bound, unfile_same, unfile_behind, unfile_first}
use Rattle.waiting_lists.proofs.cells.unfile.Goals as goal

pub offset_bounds-slots-slot : goal.offset_bounds-slots-slot
offset_bounds-slots-slot g c = scaled_Fits c.args.slot (length c.args.slots.now) _ (number_bound c.args.slots.now c.args.slot c.args.request c.requires.held) c.well_formed.0.1

pub bounds-slots-slot : goal.bounds-slots-slot
bounds-slots-slot g c = number_bound c.args.slots.now c.args.slot c.args.request c.requires.held

pub bounds-slots-slot-2 : goal.bounds-slots-slot-2
bounds-slots-slot-2 g c = number_bound c.args.slots.now c.args.slot c.args.request c.requires.held

pub before_in_cell-requires : goal.before_in_cell-requires
before_in_cell-requires g c =
    (c.requires.kept.chains (c.args.request % length c.args.cells.now), chain_is (number_at c.args.slots.now) c.args.cells.now c.args.slots.now c.args.slot c.args.request c.requires.some c.requires.held c.requires.kept)

pub lead_in_cell-requires : goal.lead_in_cell-requires
lead_in_cell-requires g c =
    let read : (get_or c.args.slots.now c.args.slot c.index-slots-slot.result).next_in_cell ≡ cell_links c.args.slots.now c.args.slot = ap (λ (s : Slot g.row.J.Denot). s.next_in_cell) (get_or_default c.args.slots.now c.args.slot c.index-slots-slot.result empty_slot (number_bound c.args.slots.now c.args.slot c.args.request c.requires.held)) in
    bound c.args.cells.now c.args.slots.now c.args.slot c.args.request c.requires.some c.requires.held c.requires.kept (get_or c.args.slots.now c.args.slot c.index-slots-slot.result).next_in_cell read c.in-Some.before c.in-Some.ensures.before

pub returns-in-Some-clause-keeps : goal.returns-in-Some-clause-keeps
returns-in-Some-clause-keeps g c =
    let read : (get_or c.args.slots.now c.args.slot c.index-slots-slot.result).next_in_cell ≡ cell_links c.args.slots.now c.args.slot = ap (λ (s : Slot g.row.J.Denot). s.next_in_cell) (get_or_default c.args.slots.now c.args.slot c.index-slots-slot.result empty_slot (number_bound c.args.slots.now c.args.slot c.args.request c.requires.held)) in
    unfile_behind c.args.cells.now c.args.slots.now c.args.slot c.args.request c.requires.some c.requires.held c.requires.kept (get_or c.args.slots.now c.args.slot c.index-slots-slot.result).next_in_cell read c.in-Some.before c.in-Some.ensures.before c.lead_in_cell.new.slots c.lead_in_cell.ensures

pub returns-in-Some-clause-lists : goal.returns-in-Some-clause-lists
returns-in-Some-clause-lists g c =
    let read : (get_or c.args.slots.now c.args.slot c.index-slots-slot.result).next_in_cell ≡ cell_links c.args.slots.now c.args.slot = ap (λ (s : Slot g.row.J.Denot). s.next_in_cell) (get_or_default c.args.slots.now c.args.slot c.index-slots-slot.result empty_slot (number_bound c.args.slots.now c.args.slot c.args.request c.requires.held)) in
    unfile_same c.args.cells.now c.args.slots.now c.args.slot c.args.request c.requires.some c.requires.held c.requires.kept (get_or c.args.slots.now c.args.slot c.index-slots-slot.result).next_in_cell read c.in-Some.before c.in-Some.ensures.before c.lead_in_cell.new.slots c.lead_in_cell.ensures

pub returns-in-None-clause-keeps : goal.returns-in-None-clause-keeps
returns-in-None-clause-keeps g c =
    let read : (get_or c.args.slots.now c.args.slot c.index-slots-slot.result).next_in_cell ≡ cell_links c.args.slots.now c.args.slot = ap (λ (s : Slot g.row.J.Denot). s.next_in_cell) (get_or_default c.args.slots.now c.args.slot c.index-slots-slot.result empty_slot (number_bound c.args.slots.now c.args.slot c.args.request c.requires.held)) in
    unfile_first c.args.cells.now c.args.slots.now c.args.slot c.args.request c.requires.some c.requires.held c.requires.kept (get_or c.args.slots.now c.args.slot c.index-slots-slot.result).next_in_cell read c.in-None.ensures.none

pub returns-in-None-clause-lists : goal.returns-in-None-clause-lists
returns-in-None-clause-lists g c = record { items = λ i. refl; tenants = λ i. refl; befores = λ i. refl; nexts = λ i. refl }
