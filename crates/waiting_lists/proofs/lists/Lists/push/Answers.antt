use Rattle.std.proofs.Common.{◌≡◌, ◌<◌, ◌+◌, ◌++◌, [], ◌∷◌, length, get_or, set, take, drop, List, ap, ◌∙◌, subst, rules, arith, vec_capacity}
use Rattle.std.proofs.lemmas.List.{length_push}
use Rattle.waiting_lists.specs.declared.item.Item.{Item}
use Rattle.waiting_lists.specs.declared.links.Slot.{Slot}
use Rattle.waiting_lists.specs.Linked.{lists_of, count_of, IsPutAt}
use Rattle.waiting_lists.specs.Cells.{SameLists}
use Rattle.waiting_lists.specs.Kept.{Kept}
use Rattle.waiting_lists.proofs.Counts.{known_tenant, on_err, back_is, lists_back, kept_back, whole_back, whole_is, list_set, counted_made, counted_same, counted_more, not_ok, room_left, count_left}
use Rattle.waiting_lists.proofs.Grows.{full_made}
use Rattle.waiting_lists.proofs.Moves.{put_index, put_number, mid_keeps, mid_lists}
use Rattle.waiting_lists.proofs.lists.Lists.push.Goals as goal

pub make_free-requires-clause-within : goal.make_free-requires-clause-within
make_free-requires-clause-within g c = c.self.invariant.within

pub make_free-requires-clause-reserved : goal.make_free-requires-clause-reserved
make_free-requires-clause-reserved g c = c.self.invariant.reserved

pub append-requires-clause-known : goal.append-requires-clause-known
append-requires-clause-known g c =
    let s = c.self.inside in
    rw (c.deref_mut-2.ensures.value) (known_tenant s.slots.items s.ends.items s.room c.args.self.now c.args.tenant c.self.view_is c.requires)

pub append-requires-clause-kept : goal.append-requires-clause-kept
append-requires-clause-kept g c =
    let s = c.self.inside in
    rw (c.deref_mut.ensures.value, c.deref_mut-2.ensures.value) (c.make_free.ensures.made.keeps s.ends.items c.self.invariant.kept.links)

pub returns-in_err-slot-clause-room : goal.returns-in_err-slot-clause-room
returns-in_err-slot-clause-room g c = not_ok c.from_residual.result _ c.from_residual.ensures.0

pub returns-in_err-slot-clause-pushed : goal.returns-in_err-slot-clause-pushed
returns-in_err-slot-clause-pushed g c = not_ok c.from_residual.result _ c.from_residual.ensures.0

pub returns-in_err-slot-clause-full : goal.returns-in_err-slot-clause-full
returns-in_err-slot-clause-full g c =
    let s = c.self.inside in
    let m = c.make_free.new in
    let all : count_of (lists_of m.slots.items s.ends.items) ≡ length m.slots.items = rw (c.deref_mut.ensures.value, c.deref_mut-2.ensures.value) at c.in_err-slot.ensures.full in
    on_err c.from_residual.result _
    (rw (← c.self.view_is) (full_made s.slots.items m.slots.items s.ends.items s.free m.free s.room c.self.invariant.kept.links c.make_free.ensures.made all))

pub invariant_of-self : goal.invariant_of-self
invariant_of-self g c =
    let s = c.self.inside in
    let m = c.make_free.new in
    let made = counted_made s.slots.items m.slots.items s.cells.items s.ends.items s.free m.free s.len s.room (vec_capacity s.slots) (vec_capacity m.slots) c.self.invariant c.make_free.ensures.made c.make_free.ensures.capacity in
    let a = c.append.new in
    let slots : a.slots ≡ m.slots.items = c.in_err-slot.ensures.unchanged.0 ∙ c.deref_mut.ensures.value in
    let ends : a.ends ≡ s.ends.items = c.in_err-slot.ensures.unchanged.1 ∙ c.deref_mut-2.ensures.value in
    lists_back m.slots.len s.ends.len a.slots m.slots.items s.cells.items a.ends s.ends.items a.free s.len s.room _ (search rules) (search rules)
    (counted_same m.slots.items a.slots s.cells.items s.ends.items a.ends m.free a.free s.len s.room _ made c.append.ensures.keeps slots ends)

pub returns-in_err-slot-clause-unchanged : goal.returns-in_err-slot-clause-unchanged
returns-in_err-slot-clause-unchanged g c =
    let s = c.self.inside in
    let m = c.make_free.new in
    let a = c.append.new in
    let slots : a.slots ≡ m.slots.items = c.in_err-slot.ensures.unchanged.0 ∙ c.deref_mut.ensures.value in
    let ends : a.ends ≡ s.ends.items = c.in_err-slot.ensures.unchanged.1 ∙ c.deref_mut-2.ensures.value in
    let lists : lists_of a.slots a.ends ≡ lists_of s.slots.items s.ends.items = ap (λ (l : List (Slot g.row.J.Denot)). lists_of l a.ends) slots ∙ ap (lists_of m.slots.items) ends ∙ c.make_free.ensures.made.same s.ends.items c.self.invariant.kept.links in
    on_err c.from_residual.result _
    (whole_back m.slots.len s.ends.len a.slots m.slots.items a.ends s.ends.items s.room (search rules) (search rules) ∙ whole_is a.slots a.ends s.room (lists_of s.slots.items s.ends.items) lists ∙ c.self.view_is)

pub file-requires-clause-held : goal.file-requires-clause-held
file-requires-clause-held g c =
    let s = c.self.inside in
    let m = c.make_free.new in
    let a = c.append.new in
    let size : length a.slots ≡ m.slots.len = search rules in
    let put : IsPutAt m.slots.items c.in_ok-slot.slot c.args.item a.slots = rw c.deref_mut.ensures.value at c.in_ok-slot.ensures.held in
    let slots : c.deref_mut-3.result.now ≡ a.slots = c.deref_mut-3.ensures.value ∙ back_is m.slots.len a.slots m.slots.items size in
    rw slots (put_number m.slots.items a.slots c.in_ok-slot.slot c.args.item put)

pub file-requires-clause-kept : goal.file-requires-clause-kept
file-requires-clause-kept g c =
    let s = c.self.inside in
    let m = c.make_free.new in
    let made = counted_made s.slots.items m.slots.items s.cells.items s.ends.items s.free m.free s.len s.room (vec_capacity s.slots) (vec_capacity m.slots) c.self.invariant c.make_free.ensures.made c.make_free.ensures.capacity in
    let a = c.append.new in
    let size : length a.slots ≡ m.slots.len = search rules in
    let put : IsPutAt m.slots.items c.in_ok-slot.slot c.args.item a.slots = rw c.deref_mut.ensures.value at c.in_ok-slot.ensures.held in
    let slots : c.deref_mut-3.result.now ≡ a.slots = c.deref_mut-3.ensures.value ∙ back_is m.slots.len a.slots m.slots.items size in
    rw (slots, c.deref_mut-4.ensures.value) (put_index s.cells.items m.slots.items a.slots c.in_ok-slot.slot c.args.item put made.kept.index)

pub file-requires-clause-some : goal.file-requires-clause-some
file-requires-clause-some g c = rw c.deref_mut-4.ensures.value c.self.invariant.kept.some

pub overflow_add-self : goal.overflow_add-self
overflow_add-self g c =
    let s = c.self.inside in
    let m = c.make_free.new in
    let left : count_of (lists_of m.slots.items s.ends.items) < length m.slots.items = rw (c.deref_mut.ensures.value, c.deref_mut-2.ensures.value) at c.in_ok-slot.ensures.room in
    search (rules, count_left s.slots.items m.slots.items s.cells.items s.ends.items s.free m.free s.len s.room _ c.self.invariant c.make_free.ensures.made left)

pub invariant_of-self-2 : goal.invariant_of-self-2
invariant_of-self-2 g c =
    let s = c.self.inside in
    let m = c.make_free.new in
    let made = counted_made s.slots.items m.slots.items s.cells.items s.ends.items s.free m.free s.len s.room (vec_capacity s.slots) (vec_capacity m.slots) c.self.invariant c.make_free.ensures.made c.make_free.ensures.capacity in
    let a = c.append.new in
    let f = c.file.new in
    let size : length a.slots ≡ m.slots.len = search rules in
    let put : IsPutAt m.slots.items c.in_ok-slot.slot c.args.item a.slots = rw c.deref_mut.ensures.value at c.in_ok-slot.ensures.held in
    let slots : c.deref_mut-3.result.now ≡ a.slots = c.deref_mut-3.ensures.value ∙ back_is m.slots.len a.slots m.slots.items size in
    let same : SameLists a.slots f.slots = subst (λ (l : List (Slot g.row.J.Denot)). SameLists l f.slots) slots c.file.ensures.lists in
    let filed : length f.slots ≡ length a.slots = (search rules) ∙ ap (λ (l : List (Slot g.row.J.Denot)). length l) slots in
    let lists : lists_of f.slots a.ends ≡ set (lists_of m.slots.items s.ends.items) c.args.tenant (get_or (lists_of m.slots.items s.ends.items) c.args.tenant [] ++ c.args.item ∷ []) = mid_lists a.slots f.slots filed same a.ends a.free c.append.ensures.keeps ∙ (rw (c.deref_mut.ensures.value, c.deref_mut-2.ensures.value) at c.in_ok-slot.ensures.appended) in
    let known : c.args.tenant < length s.ends.items = known_tenant s.slots.items s.ends.items s.room c.args.self.now c.args.tenant c.self.view_is c.requires in
    let cells : length f.cells ≡ length s.cells.items = search rules in
    let kept : Kept f.slots f.cells a.ends a.free = record {
      links = mid_keeps a.slots f.slots filed same a.ends a.free c.append.ensures.keeps;
      index = c.file.ensures.keeps;
      some = omega (arith, cells, c.self.invariant.kept.some);
    } in
    let list : List (Item g.row.J.Denot) = get_or (lists_of m.slots.items s.ends.items) c.args.tenant [] in
    kept_back m.slots.len s.cells.len s.ends.len f.slots (take m.slots.len (a.slots ++ drop (length a.slots) m.slots.items)) f.cells s.cells.items a.ends s.ends.items a.free (s.len + 1) s.room _ (filed ∙ size) (search rules) (search rules)
    (counted_more m.slots.items f.slots s.cells.items f.cells s.ends.items a.ends m.free a.free s.len s.room _ c.args.tenant made kept (filed ∙ size ∙ (search rules)) known (list ++ c.args.item ∷ []) lists (length_push list c.args.item))

pub returns-clause-pushed : goal.returns-clause-pushed
returns-clause-pushed g c =
    let s = c.self.inside in
    let m = c.make_free.new in
    let a = c.append.new in
    let f = c.file.new in
    let size : length a.slots ≡ m.slots.len = search rules in
    let put : IsPutAt m.slots.items c.in_ok-slot.slot c.args.item a.slots = rw c.deref_mut.ensures.value at c.in_ok-slot.ensures.held in
    let slots : c.deref_mut-3.result.now ≡ a.slots = c.deref_mut-3.ensures.value ∙ back_is m.slots.len a.slots m.slots.items size in
    let same : SameLists a.slots f.slots = subst (λ (l : List (Slot g.row.J.Denot)). SameLists l f.slots) slots c.file.ensures.lists in
    let filed : length f.slots ≡ length a.slots = (search rules) ∙ ap (λ (l : List (Slot g.row.J.Denot)). length l) slots in
    let lists : lists_of f.slots a.ends ≡ set (lists_of m.slots.items s.ends.items) c.args.tenant (get_or (lists_of m.slots.items s.ends.items) c.args.tenant [] ++ c.args.item ∷ []) = mid_lists a.slots f.slots filed same a.ends a.free c.append.ensures.keeps ∙ (rw (c.deref_mut.ensures.value, c.deref_mut-2.ensures.value) at c.in_ok-slot.ensures.appended) in
    let now : lists_of f.slots a.ends ≡ set (lists_of s.slots.items s.ends.items) c.args.tenant (get_or (lists_of s.slots.items s.ends.items) c.args.tenant [] ++ c.args.item ∷ []) = rw (c.make_free.ensures.made.same s.ends.items c.self.invariant.kept.links) at lists in
    list_set m.slots.len s.ends.len f.slots (take m.slots.len (a.slots ++ drop (length a.slots) m.slots.items)) s.slots.items a.ends s.ends.items s.room c.args.tenant c.args.self.now (λ (l : List (Item g.row.J.Denot)). l ++ c.args.item ∷ []) (filed ∙ size) (search rules) c.self.view_is now

pub returns-clause-room : goal.returns-clause-room
returns-clause-room g c =
    let s = c.self.inside in
    let m = c.make_free.new in
    let left : count_of (lists_of m.slots.items s.ends.items) < length m.slots.items = rw (c.deref_mut.ensures.value, c.deref_mut-2.ensures.value) at c.in_ok-slot.ensures.room in
    room_left s.slots.items m.slots.items s.ends.items s.free m.free s.room c.args.self.now c.self.view_is c.self.invariant.kept.links c.make_free.ensures.made left

pub returns-clause-full : goal.returns-clause-full
returns-clause-full g c = tt
