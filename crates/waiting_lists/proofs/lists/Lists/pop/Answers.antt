use Rattle.std.proofs.Common.{◌≡◌, ◌<◌, ◌+◌, ◌-◌, [], Some, None, length, get_or, set, drop, slice_get, sym, ◌∙◌, rules, arith}
use Rattle.std.proofs.lemmas.List.{get_or_read}
use Rattle.waiting_lists.specs.declared.item.Item.{Item}
use Rattle.waiting_lists.specs.Linked.{slot_at, lists_of, IsTakenOut}
use Rattle.waiting_lists.proofs.Heads.{none_first, none_rest, first_holds, first_some, head_is, first_out}
use Rattle.waiting_lists.proofs.Counts.{known_tenant, kept_back, counted_less, length_rest, item_counts, list_set, same_whole}
use Rattle.waiting_lists.proofs.lists.Lists.pop.Goals as goal

pub index-requires : goal.index-requires
index-requires g c =
    let s = c.self.inside in
    omega (arith, known_tenant s.slots.items s.ends.items s.room c.args.self.now c.args.tenant c.self.view_is c.requires, s.ends.ok.0)

pub returns-in_err-first-clause-first : goal.returns-in_err-first-clause-first
returns-in_err-first-clause-first g c =
    let s = c.self.inside in
    let known : c.args.tenant < length s.ends.items = known_tenant s.slots.items s.ends.items s.room c.args.self.now c.args.tenant c.self.view_is c.requires in
    let none : get_or s.ends.items c.args.tenant None ≡ None = sym (get_or_read s.ends.items c.args.tenant c.index.result.now known c.index.ensures None) ∙ c.in_err-first.was in
    rw (c.from_residual.ensures, ← c.self.view_is) (none_first s.slots.items s.ends.items s.free c.self.invariant.kept.links c.args.tenant known none)

pub returns-in_err-first-clause-rest : goal.returns-in_err-first-clause-rest
returns-in_err-first-clause-rest g c =
    let s = c.self.inside in
    let known : c.args.tenant < length s.ends.items = known_tenant s.slots.items s.ends.items s.room c.args.self.now c.args.tenant c.self.view_is c.requires in
    let none : get_or s.ends.items c.args.tenant None ≡ None = sym (get_or_read s.ends.items c.args.tenant c.index.result.now known c.index.ensures None) ∙ c.in_err-first.was in
    same_whole s.slots.items s.ends.items s.room c.args.tenant c.args.self.now (drop 1) c.self.view_is (none_rest s.slots.items s.ends.items s.free c.self.invariant.kept.links c.args.tenant known none)

pub take_out-item-requires-clause-kept : goal.take_out-item-requires-clause-kept
take_out-item-requires-clause-kept g c = rw (c.deref_mut.ensures.value, c.deref_mut-2.ensures.value, c.deref_mut-3.ensures.value) c.self.invariant.kept

pub take_out-item-requires-clause-held : goal.take_out-item-requires-clause-held
take_out-item-requires-clause-held g c =
    let s = c.self.inside in
    let known : c.args.tenant < length s.ends.items = known_tenant s.slots.items s.ends.items s.room c.args.self.now c.args.tenant c.self.view_is c.requires in
    let k = c.self.invariant.kept.links in
    let e = c.in_ok-first.field-0 in
    let some : get_or s.ends.items c.args.tenant None ≡ Some e = sym (get_or_read s.ends.items c.args.tenant c.index.result.now known c.index.ensures None) ∙ c.in_ok-first.was in
    rw c.deref_mut.ensures.value (first_holds s.slots.items s.ends.items s.free k c.args.tenant known e some)

pub overflow_sub-self : goal.overflow_sub-self
overflow_sub-self g c =
    let s = c.self.inside in
    let known : c.args.tenant < length s.ends.items = known_tenant s.slots.items s.ends.items s.room c.args.self.now c.args.tenant c.self.view_is c.requires in
    let k = c.self.invariant.kept.links in
    let e = c.in_ok-first.field-0 in
    let some : get_or s.ends.items c.args.tenant None ≡ Some e = sym (get_or_read s.ends.items c.args.tenant c.index.result.now known c.index.ensures None) ∙ c.in_ok-first.was in
    let item : (item : Item g.row.J.Denot) × (slice_get (get_or (lists_of s.slots.items s.ends.items) c.args.tenant []) 0 ≡ Some item) = first_some s.slots.items s.ends.items s.free k c.args.tenant known e some in
    let shorter : length (drop 1 (get_or (lists_of s.slots.items s.ends.items) c.args.tenant [])) + 1 ≡ length (get_or (lists_of s.slots.items s.ends.items) c.args.tenant []) = length_rest (get_or (lists_of s.slots.items s.ends.items) c.args.tenant []) item.0 item.1 in
    item_counts s.slots.items s.cells.items s.ends.items s.free s.len s.room _ c.args.tenant c.self.invariant known (omega (arith, shorter))

pub invariant_of-self : goal.invariant_of-self
invariant_of-self g c =
    let s = c.self.inside in
    let known : c.args.tenant < length s.ends.items = known_tenant s.slots.items s.ends.items s.room c.args.self.now c.args.tenant c.self.view_is c.requires in
    let k = c.self.invariant.kept.links in
    let e = c.in_ok-first.field-0 in
    let some : get_or s.ends.items c.args.tenant None ≡ Some e = sym (get_or_read s.ends.items c.args.tenant c.index.result.now known c.index.ensures None) ∙ c.in_ok-first.was in
    let item : (item : Item g.row.J.Denot) × (slice_get (get_or (lists_of s.slots.items s.ends.items) c.args.tenant []) 0 ≡ Some item) = first_some s.slots.items s.ends.items s.free k c.args.tenant known e some in
    let shorter : length (drop 1 (get_or (lists_of s.slots.items s.ends.items) c.args.tenant [])) + 1 ≡ length (get_or (lists_of s.slots.items s.ends.items) c.args.tenant []) = length_rest (get_or (lists_of s.slots.items s.ends.items) c.args.tenant []) item.0 item.1 in
    let f = c.take_out-item.new in
    let out : IsTakenOut s.slots.items s.ends.items e.first f.slots f.ends = rw (c.deref_mut.ensures.value, c.deref_mut-3.ensures.value) at c.take_out-item.ensures.rest in
    let rest : lists_of f.slots f.ends ≡ set (lists_of s.slots.items s.ends.items) c.args.tenant (drop 1 (get_or (lists_of s.slots.items s.ends.items) c.args.tenant [])) = first_out s.slots.items s.ends.items s.free k c.args.tenant known e some f.slots f.ends out in
    let size : length f.slots ≡ length s.slots.items = search rules in
    kept_back s.slots.len s.cells.len s.ends.len f.slots s.slots.items f.cells s.cells.items f.ends s.ends.items f.free (s.len - 1) s.room _ (search rules) (search rules) (search rules)
    (counted_less s.slots.items f.slots s.cells.items f.cells s.ends.items f.ends s.free f.free s.len s.room _ c.args.tenant c.self.invariant c.take_out-item.ensures.keeps size known (drop 1 (get_or (lists_of s.slots.items s.ends.items) c.args.tenant [])) rest shorter)

pub returns-clause-first : goal.returns-clause-first
returns-clause-first g c =
    let s = c.self.inside in
    let known : c.args.tenant < length s.ends.items = known_tenant s.slots.items s.ends.items s.room c.args.self.now c.args.tenant c.self.view_is c.requires in
    let k = c.self.invariant.kept.links in
    let e = c.in_ok-first.field-0 in
    let some : get_or s.ends.items c.args.tenant None ≡ Some e = sym (get_or_read s.ends.items c.args.tenant c.index.result.now known c.index.ensures None) ∙ c.in_ok-first.was in
    let item : c.take_out-item.result ≡ (slot_at s.slots.items e.first).item = rw c.deref_mut.ensures.value at c.take_out-item.ensures.item in
    rw (← c.self.view_is) (item ∙ head_is s.slots.items s.ends.items s.free k c.args.tenant known e some)

pub returns-clause-rest : goal.returns-clause-rest
returns-clause-rest g c =
    let s = c.self.inside in
    let known : c.args.tenant < length s.ends.items = known_tenant s.slots.items s.ends.items s.room c.args.self.now c.args.tenant c.self.view_is c.requires in
    let k = c.self.invariant.kept.links in
    let e = c.in_ok-first.field-0 in
    let some : get_or s.ends.items c.args.tenant None ≡ Some e = sym (get_or_read s.ends.items c.args.tenant c.index.result.now known c.index.ensures None) ∙ c.in_ok-first.was in
    let f = c.take_out-item.new in
    let out : IsTakenOut s.slots.items s.ends.items e.first f.slots f.ends = rw (c.deref_mut.ensures.value, c.deref_mut-3.ensures.value) at c.take_out-item.ensures.rest in
    let rest : lists_of f.slots f.ends ≡ set (lists_of s.slots.items s.ends.items) c.args.tenant (drop 1 (get_or (lists_of s.slots.items s.ends.items) c.args.tenant [])) = first_out s.slots.items s.ends.items s.free k c.args.tenant known e some f.slots f.ends out in
    list_set s.slots.len s.ends.len f.slots s.slots.items s.slots.items f.ends s.ends.items s.room c.args.tenant c.args.self.now (drop 1) (search rules) (search rules) c.self.view_is rest
