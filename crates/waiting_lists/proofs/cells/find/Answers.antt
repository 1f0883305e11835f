use Rattle.std.proofs.Common.{◌≡◌, ◌<◌, Some, length, get_or, option_map, sym, ap, ◌∙◌, subst, arith}
use Rattle.std.proofs.lemmas.List.{get_or_default}
use Rattle.waiting_lists.specs.declared.links.Slot.{Slot}
use Rattle.waiting_lists.specs.Linked.{empty_slot, slot_at}
use Rattle.waiting_lists.specs.Cells.{number_at}
use Rattle.waiting_lists.proofs.Walks.{walk}
use Rattle.waiting_lists.proofs.Searches.{cell_links, same_some, other_some, IsLeft, left_first, left_bound, left_next, left_nearer, left_none}
use Rattle.waiting_lists.proofs.cells.find.Goals as goal

pub bounds-cells-request : goal.bounds-cells-request
bounds-cells-request g c = omega (arith, c.requires.some)

pub loop-at-init : goal.loop-at-init
loop-at-init g c = left_first c.args.cells.now c.args.slots.now c.args.request c.requires.some c.requires.kept

pub offset_bounds-slots-here : goal.offset_bounds-slots-here
offset_bounds-slots-here g c =
    let l : IsLeft c.args.slots.now c.args.request (Some c.in-Some.here) = subst (IsLeft c.args.slots.now c.args.request) c.in-Some.is c.loop-at.invariant in
    let within : c.in-Some.here < length c.args.slots.now = left_bound c.args.slots.now c.args.request c.in-Some.here l in
    omega (arith, within)

pub bounds-slots-here : goal.bounds-slots-here
bounds-slots-here g c =
    let l : IsLeft c.args.slots.now c.args.request (Some c.in-Some.here) = subst (IsLeft c.args.slots.now c.args.request) c.in-Some.is c.loop-at.invariant in
    left_bound c.args.slots.now c.args.request c.in-Some.here l

pub offset_bounds-slots-here-in-Some : goal.offset_bounds-slots-here-in-Some
offset_bounds-slots-here-in-Some g c =
    let l : IsLeft c.args.slots.now c.args.request (Some c.in-Some.here) = subst (IsLeft c.args.slots.now c.args.request) c.in-Some.is c.loop-at.invariant in
    let within : c.in-Some.here < length c.args.slots.now = left_bound c.args.slots.now c.args.request c.in-Some.here l in
    omega (arith, within)

pub bounds-slots-here-else-eq : goal.bounds-slots-here-else-eq
bounds-slots-here-else-eq g c =
    let l : IsLeft c.args.slots.now c.args.request (Some c.in-Some.here) = subst (IsLeft c.args.slots.now c.args.request) c.in-Some.is c.loop-at.invariant in
    left_bound c.args.slots.now c.args.request c.in-Some.here l

pub bounds-slots-here-else-eq-2 : goal.bounds-slots-here-else-eq-2
bounds-slots-here-else-eq-2 g c =
    let l : IsLeft c.args.slots.now c.args.request (Some c.in-Some.here) = subst (IsLeft c.args.slots.now c.args.request) c.in-Some.is c.loop-at.invariant in
    left_bound c.args.slots.now c.args.request c.in-Some.here l

pub returns-then-eq-clause-found : goal.returns-then-eq-clause-found
returns-then-eq-clause-found g c =
    let l : IsLeft c.args.slots.now c.args.request (Some c.in-Some.here) = subst (IsLeft c.args.slots.now c.args.request) c.in-Some.is c.loop-at.invariant in
    let within : c.in-Some.here < length c.args.slots.now = left_bound c.args.slots.now c.args.request c.in-Some.here l in
    let read : slot_at c.args.slots.now c.in-Some.here ≡ get_or c.args.slots.now c.in-Some.here c.index-slots-here.result = get_or_default c.args.slots.now c.in-Some.here empty_slot c.index-slots-here.result within in
    let number : number_at c.args.slots.now c.in-Some.here ≡ c.number_of.result = ap (λ (s : Slot g.row.J.Denot). option_map (λ i. i.request) s.item) (read ∙ sym c.index-slots-here.is) ∙ sym c.number_of.ensures in
    number ∙ same_some c.number_of.result c.args.request c.if-eq.ensures

pub loop-at-smaller : goal.loop-at-smaller
loop-at-smaller g c =
    let l : IsLeft c.args.slots.now c.args.request (Some c.in-Some.here) = subst (IsLeft c.args.slots.now c.args.request) c.in-Some.is c.loop-at.invariant in
    let within : c.in-Some.here < length c.args.slots.now = left_bound c.args.slots.now c.args.request c.in-Some.here l in
    let same : cell_links c.args.slots.now c.in-Some.here ≡ (get_or c.args.slots.now c.in-Some.here c.index-slots-here-in-Some.result).next_in_cell = ap (λ (s : Slot g.row.J.Denot). s.next_in_cell) (get_or_default c.args.slots.now c.in-Some.here empty_slot c.index-slots-here-in-Some.result within) in
    let nearer : length (walk (cell_links c.args.slots.now) (length c.args.slots.now) (cell_links c.args.slots.now c.in-Some.here)) < length (walk (cell_links c.args.slots.now) (length c.args.slots.now) (Some c.in-Some.here)) = left_nearer c.args.slots.now c.args.request c.in-Some.here l in
    rw c.in-Some.is (subst (λ o. length (walk (cell_links c.args.slots.now) (length c.args.slots.now) o) < length (walk (cell_links c.args.slots.now) (length c.args.slots.now) (Some c.in-Some.here))) same nearer)

pub loop-at-preserved : goal.loop-at-preserved
loop-at-preserved g c =
    let l : IsLeft c.args.slots.now c.args.request (Some c.in-Some.here) = subst (IsLeft c.args.slots.now c.args.request) c.in-Some.is c.loop-at.invariant in
    let within : c.in-Some.here < length c.args.slots.now = left_bound c.args.slots.now c.args.request c.in-Some.here l in
    let read : slot_at c.args.slots.now c.in-Some.here ≡ get_or c.args.slots.now c.in-Some.here c.index-slots-here.result = get_or_default c.args.slots.now c.in-Some.here empty_slot c.index-slots-here.result within in
    let number : number_at c.args.slots.now c.in-Some.here ≡ c.number_of.result = ap (λ (s : Slot g.row.J.Denot). option_map (λ i. i.request) s.item) (read ∙ sym c.index-slots-here.is) ∙ sym c.number_of.ensures in
    let same : cell_links c.args.slots.now c.in-Some.here ≡ (get_or c.args.slots.now c.in-Some.here c.index-slots-here-in-Some.result).next_in_cell = ap (λ (s : Slot g.row.J.Denot). s.next_in_cell) (get_or_default c.args.slots.now c.in-Some.here empty_slot c.index-slots-here-in-Some.result within) in
    subst (IsLeft c.args.slots.now c.args.request) same (left_next c.args.slots.now c.args.request c.in-Some.here l (λ e. other_some c.number_of.result c.args.request c.if-eq.ensures (sym number ∙ e)))

pub returns-clause-none : goal.returns-clause-none
returns-clause-none g c =
    left_none c.args.slots.now c.args.request (subst (IsLeft c.args.slots.now c.args.request) c.in_default.is c.loop-at.invariant)
