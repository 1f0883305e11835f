use Rattle.std.proofs.Common.{◌≡◌, ◌<◌, Some, length, get_or, sym, ap, ◌∙◌, subst, rules}
use Rattle.std.proofs.lemmas.List.{get_or_default}
use Rattle.waiting_lists.specs.declared.links.Slot.{Slot}
use Rattle.waiting_lists.specs.Linked.{empty_slot, slot_at}
use Rattle.waiting_lists.proofs.Walks.{walk}
use Rattle.waiting_lists.proofs.Searches.{cell_links, same_some, other_some, IsLeftOf, left_of_first, left_of_bound, left_of_found, left_of_next, left_of_nearer, left_of_none}
use Rattle.waiting_lists.proofs.cells.before_in_cell.Goals as goal

pub loop-at-init : goal.loop-at-init
loop-at-init g c = left_of_first c.args.slots.now c.args.first c.args.slot c.requires

pub offset_bounds-slots-here : goal.offset_bounds-slots-here
offset_bounds-slots-here g c =
    let l : IsLeftOf c.args.slots.now c.args.first c.args.slot (Some c.in-Some.here) = subst (IsLeftOf c.args.slots.now c.args.first c.args.slot) c.in-Some.is c.loop-at.invariant in
    let within : c.in-Some.here < length c.args.slots.now = left_of_bound c.args.slots.now c.args.first c.args.slot c.in-Some.here l in
    search rules

pub bounds-slots-here : goal.bounds-slots-here
bounds-slots-here g c =
    let l : IsLeftOf c.args.slots.now c.args.first c.args.slot (Some c.in-Some.here) = subst (IsLeftOf c.args.slots.now c.args.first c.args.slot) c.in-Some.is c.loop-at.invariant in
    left_of_bound c.args.slots.now c.args.first c.args.slot c.in-Some.here l

pub bounds-slots-here-in-Some : goal.bounds-slots-here-in-Some
bounds-slots-here-in-Some g c =
    let l : IsLeftOf c.args.slots.now c.args.first c.args.slot (Some c.in-Some.here) = subst (IsLeftOf c.args.slots.now c.args.first c.args.slot) c.in-Some.is c.loop-at.invariant in
    left_of_bound c.args.slots.now c.args.first c.args.slot c.in-Some.here l

pub returns-then-eq-clause-before : goal.returns-then-eq-clause-before
returns-then-eq-clause-before g c =
    let l : IsLeftOf c.args.slots.now c.args.first c.args.slot (Some c.in-Some.here) = subst (IsLeftOf c.args.slots.now c.args.first c.args.slot) c.in-Some.is c.loop-at.invariant in
    let within : c.in-Some.here < length c.args.slots.now = left_of_bound c.args.slots.now c.args.first c.args.slot c.in-Some.here l in
    let read : slot_at c.args.slots.now c.in-Some.here ≡ get_or c.args.slots.now c.in-Some.here c.index-slots-here.result = get_or_default c.args.slots.now c.in-Some.here empty_slot c.index-slots-here.result within in
    let same : cell_links c.args.slots.now c.in-Some.here ≡ (get_or c.args.slots.now c.in-Some.here c.index-slots-here.result).next_in_cell = ap (λ (s : Slot g.row.J.Denot). s.next_in_cell) read in
    left_of_found c.args.slots.now c.args.first c.args.slot c.in-Some.here l (same ∙ same_some (get_or c.args.slots.now c.in-Some.here c.index-slots-here.result).next_in_cell c.args.slot c.if-eq.ensures)

pub loop-at-smaller : goal.loop-at-smaller
loop-at-smaller g c =
    let l : IsLeftOf c.args.slots.now c.args.first c.args.slot (Some c.in-Some.here) = subst (IsLeftOf c.args.slots.now c.args.first c.args.slot) c.in-Some.is c.loop-at.invariant in
    let within : c.in-Some.here < length c.args.slots.now = left_of_bound c.args.slots.now c.args.first c.args.slot c.in-Some.here l in
    let read : slot_at c.args.slots.now c.in-Some.here ≡ get_or c.args.slots.now c.in-Some.here c.index-slots-here.result = get_or_default c.args.slots.now c.in-Some.here empty_slot c.index-slots-here.result within in
    let same : cell_links c.args.slots.now c.in-Some.here ≡ (get_or c.args.slots.now c.in-Some.here c.index-slots-here.result).next_in_cell = ap (λ (s : Slot g.row.J.Denot). s.next_in_cell) read in
    let nearer : length (walk (cell_links c.args.slots.now) (length c.args.slots.now) (cell_links c.args.slots.now c.in-Some.here)) < length (walk (cell_links c.args.slots.now) (length c.args.slots.now) (Some c.in-Some.here)) = left_of_nearer c.args.slots.now c.args.first c.args.slot c.in-Some.here l in
    rw c.in-Some.is (subst (λ o. length (walk (cell_links c.args.slots.now) (length c.args.slots.now) o) < length (walk (cell_links c.args.slots.now) (length c.args.slots.now) (Some c.in-Some.here))) same nearer)

pub loop-at-preserved : goal.loop-at-preserved
loop-at-preserved g c =
    let l : IsLeftOf c.args.slots.now c.args.first c.args.slot (Some c.in-Some.here) = subst (IsLeftOf c.args.slots.now c.args.first c.args.slot) c.in-Some.is c.loop-at.invariant in
    let within : c.in-Some.here < length c.args.slots.now = left_of_bound c.args.slots.now c.args.first c.args.slot c.in-Some.here l in
    let read : slot_at c.args.slots.now c.in-Some.here ≡ get_or c.args.slots.now c.in-Some.here c.index-slots-here.result = get_or_default c.args.slots.now c.in-Some.here empty_slot c.index-slots-here.result within in
    let same : cell_links c.args.slots.now c.in-Some.here ≡ (get_or c.args.slots.now c.in-Some.here c.index-slots-here.result).next_in_cell = ap (λ (s : Slot g.row.J.Denot). s.next_in_cell) read in
    subst (IsLeftOf c.args.slots.now c.args.first c.args.slot) same (left_of_next c.args.slots.now c.args.first c.args.slot c.in-Some.here l (λ e. other_some (get_or c.args.slots.now c.in-Some.here c.index-slots-here.result).next_in_cell c.args.slot c.if-eq.ensures (sym same ∙ e)))

pub returns-clause-none : goal.returns-clause-none
returns-clause-none g c =
    left_of_none c.args.slots.now c.args.first c.args.slot (subst (IsLeftOf c.args.slots.now c.args.first c.args.slot) c.in_default.is c.loop-at.invariant)
