-- The invariant of an index through a change, and through a choice.
use Rattle.std.proofs.Common.{ℕ, pos, ◌≡◌, ◌≢◌, ◌<◌, ◌≤◌, true, false, List, ◌++◌, Option, Some, None, IfSome, length, replicate, get_or, set, take, drop, arith, refl, sym, ap, ◌∙◌, subst, inl, inr, ◌⊎◌, ℤ, ◌≤ℤ◌}
use Rattle.std.proofs.lemmas.Bool.{cases_eq, cases_lt}
use Rattle.std.proofs.lemmas.Int.{ints}
use Rattle.std.proofs.lemmas.List.{get_or-set_same, get_or-set_other, length-set, get_or-replicate, get_or_past, length-replicate, take_at}
use Rattle.std.proofs.lemmas.Option.{slice_get-get_or, slice_get_within, get_or_from_slice_get}
use Rattle.fq_model.specs.declared.config.Policy.{Policy}
use Rattle.fq_model.specs.Keys.{HeadKeys, Turn}
use Rattle.fq_model.specs.declared.limits.TheConstants.{MOST_TENANTS}
use Rattle.tag_rules.specs.Tables.{Table, Has, RequestsDiffer, IsNewTo}
use Rattle.winner_tree.specs.declared.key.Key.{Key}
use Rattle.winner_tree.specs.Order.{key_of, HasNoKey}
use Rattle.winner_tree.proofs.Least.{none_not_some}
use Rattle.eligible_index.specs.Noted.{IsNoted}
use Rattle.eligible_index.specs.Trees.{TreesView, Stands, Follow, HaveNoKey, with_noted, cleared, empty_trees}
use Rattle.eligible_index.specs.Index.{KeepsIndex, trees_of, AreNoted, AreCleared}

-- a list that was written back whole
pub whole : {A : Type 0} (xs ys : List A) (len : ℕ) → len ≡ length xs → length ys ≡ length xs → take len (ys ++ drop (length ys) xs) ≡ ys
whole xs ys len e f = take_at ys (drop (length ys) xs) len (f ∙ sym e)

-- ---- one worker

-- the tenant whose keys change is noted
follow_set : (at : Turn) (table : Table) (w : TreesView) (t : ℕ) (keys : Option HeadKeys) → Follow at table w → Follow at (set table t keys) (with_noted w t)
follow_set at table w t keys h = record {
  sized = record { later = h.sized.later ∙ same; eligible = h.sized.eligible ∙ same; noted = length-set w.noted t true ∙ (h.sized.noted ∙ same) };
  stands = λ u lt fresh. elim (cases_eq u t) [
    | inl e ↦ absurd (fresh (subst (λ x. IsNoted (set w.noted t true) x) (sym e) (get_or-set_same w.noted t true false (omega (arith, h.sized.noted, same, subst (λ x. x < length (set table t keys)) e lt)))))
    | inr ne ↦ subst (λ x. Stands at x (key_of w.later u) (key_of w.eligible u)) (sym (get_or-set_other table t u keys None ne)) (h.stands u (omega (arith, same, lt)) (λ noted. fresh (get_or-set_other w.noted t u true false ne ∙ noted)))
  ];
}
  where
    same : length table ≡ length (set table t keys)
    same = sym (length-set table t keys)

-- where every tenant is noted nothing has to stand
follow_cleared : (at : Turn) (table : Table) → Follow at table (cleared (length table))
follow_cleared at table = record {
  sized = record { later = length-replicate (length table) None; eligible = length-replicate (length table) None; noted = length-replicate (length table) true };
  stands = λ t lt fresh. absurd (fresh (get_or-replicate (length table) t true false lt));
}

-- a head that is eligible stays so
stands_on : (policy : Policy) (workers i : ℕ) (v later_v : ℤ) → v ≤ℤ later_v → (keys : Option HeadKeys) (l e : Option Key) → Stands (record { policy = policy; workers = workers; worker = i; virtual_time = v }) keys l e → Stands (record { policy = policy; workers = workers; worker = i; virtual_time = later_v }) keys l e
stands_on policy workers i v later_v le None l e s = s
stands_on policy workers i v later_v le (Some k) l e (inl s) = inl s
stands_on policy workers i v later_v le (Some k) l e (inr s) = inr (s.0, (s.1.0, elim s.1.1 [ inl wfq ↦ inl wfq | inr due ↦ inr (omega (arith, ints, due, le)) ]))

follow_on : (policy : Policy) (workers i : ℕ) (v later_v : ℤ) (table : Table) (w : TreesView) → v ≤ℤ later_v → Follow (record { policy = policy; workers = workers; worker = i; virtual_time = v }) table w → Follow (record { policy = policy; workers = workers; worker = i; virtual_time = later_v }) table w
follow_on policy workers i v later_v table w le h = record { sized = h.sized; stands = λ t lt fresh. stands_on policy workers i v later_v le (get_or table t None) (key_of w.later t) (key_of w.eligible t) (h.stands t lt fresh) }

-- ---- all workers

-- nobody has keys, and the trees are empty
none_has : (tenants t : ℕ) (k : HeadKeys) → Has (replicate {A = Option HeadKeys} tenants None) t k → ⊥
none_has tenants t k has =
    let none = replicate {A = Option HeadKeys} tenants None in
    let lt : t < tenants = omega (arith, slice_get_within none t (Some k) has, length-replicate {A = Option HeadKeys} tenants None) in
    let clash : None ≡ Some k = sym (get_or-replicate tenants t None None lt) ∙ get_or_from_slice_get none t (Some k) None has in
    absurd (cc)

no_key : (n : ℕ) → HasNoKey (replicate {A = Option Key} n None)
no_key n leaf = elim (cases_lt leaf n) [ inl lt ↦ get_or-replicate n leaf None None lt | inr le ↦ get_or_past (replicate {A = Option Key} n None) leaf None (omega (arith, length-replicate {A = Option Key} n None, le)) ]

follow_empty : (at : Turn) (tenants : ℕ) → Follow at (replicate tenants None) (empty_trees tenants)
follow_empty at tenants = record {
  sized =
      let table = length-replicate {A = Option HeadKeys} tenants None in
      record { later = length-replicate tenants None ∙ sym table; eligible = length-replicate tenants None ∙ sym table; noted = length-replicate tenants false ∙ sym table };
  stands = λ t lt fresh.
      let known : t < tenants = omega (arith, lt, length-replicate {A = Option HeadKeys} tenants None) in
      subst (λ keys. Stands at keys (key_of (replicate tenants None) t) (key_of (replicate tenants None) t)) (sym (get_or-replicate tenants t None None known)) (no_key tenants t, no_key tenants t);
}

pub keeps_opened : (policy : Policy) (workers tenants : ℕ) (table : Table) (trees : List TreesView) → table ≡ replicate tenants None → trees ≡ replicate workers (empty_trees tenants) → tenants ≤ MOST_TENANTS → KeepsIndex policy workers table (pos 0) trees
keeps_opened policy workers tenants table trees none empty few = rw (none, empty) (record {
  few = omega (arith, few, length-replicate {A = Option HeadKeys} tenants None);
  differ = λ t k has. absurd (none_has tenants t k has);
  staffed = omega (arith, length-replicate workers (empty_trees tenants));
  follow = λ i lt. subst (Follow _ _) (sym (here i lt)) (follow_empty _ tenants);
  retired = λ i le lt. subst HaveNoKey (sym (here i lt)) (no_key tenants, no_key tenants);
})
  where
    here : (i : ℕ) → i < length (replicate workers (empty_trees tenants)) → trees_of (replicate workers (empty_trees tenants)) i ≡ empty_trees tenants
    here i lt = get_or-replicate workers i (empty_trees tenants) _ (omega (arith, lt, length-replicate workers (empty_trees tenants)))

-- the keys of a tenant change, and it is noted for each worker
pub keeps_set : (policy : Policy) (workers : ℕ) (table : Table) (latest : ℤ) (trees newer : List TreesView) (t : ℕ) (keys : Option HeadKeys) → KeepsIndex policy workers table latest trees → RequestsDiffer (set table t keys) → AreNoted t trees newer → KeepsIndex policy workers (set table t keys) latest newer
keeps_set policy workers table latest trees newer t keys k differ noted = record {
  few = omega (arith, length-set table t keys, k.few);
  differ = differ;
  staffed = omega (arith, noted.0, k.staffed);
  follow = λ i lt. let b : i < length trees = omega (arith, noted.0, lt) in subst (Follow _ (set table t keys)) (sym (noted.1 i b)) (follow_set _ table (trees_of trees i) t keys (k.follow i b));
  retired = λ i le lt. let b : i < length trees = omega (arith, noted.0, lt) in subst HaveNoKey (sym (noted.1 i b)) (k.retired i le b);
}

no_key_cleared : (tenants : ℕ) → HaveNoKey (cleared tenants)
no_key_cleared tenants = (no_key tenants, no_key tenants)

-- all trees are cleared, and there are `fewer` workers
pub keeps_resized : (policy : Policy) (workers fewer : ℕ) (table : Table) (latest : ℤ) (trees newer : List TreesView) → KeepsIndex policy workers table latest trees → fewer ≤ length trees → AreCleared (length table) trees newer → KeepsIndex policy fewer table latest newer
keeps_resized policy workers fewer table latest trees newer k le c = record {
  few = k.few;
  differ = k.differ;
  staffed = omega (arith, c.0, le);
  follow = λ i lt. subst (Follow _ table) (sym (c.1 i (omega (arith, c.0, lt)))) (follow_cleared _ table);
  retired = λ i over lt. subst HaveNoKey (sym (c.1 i (omega (arith, c.0, lt)))) (no_key_cleared (length table));
}

-- where a worker chooses its trees are brought up to date, and virtual time has gone on
pub keeps_chosen : (policy : Policy) (workers : ℕ) (table : Table) (latest v : ℤ) (trees : List TreesView) (i : ℕ) (w : TreesView) → KeepsIndex policy workers table latest trees → i < workers → latest ≤ℤ v → Follow (record { policy = policy; workers = workers; worker = i; virtual_time = v }) table w → KeepsIndex policy workers table v (set trees i w)
keeps_chosen policy workers table latest v trees i w k chosen le f = record {
  few = k.few;
  differ = k.differ;
  staffed = omega (arith, length-set trees i w, k.staffed);
  follow = λ j lt. elim (cases_eq j i) [
    | inl e ↦ subst (λ x. Follow (record { policy = policy; workers = workers; worker = x; virtual_time = v }) table (trees_of (set trees i w) x)) (sym e) (subst (Follow _ table) (sym (get_or-set_same trees i w _ (omega (arith, chosen, k.staffed)))) f)
    | inr ne ↦ subst (Follow _ table) (sym (get_or-set_other trees i j w _ ne)) (follow_on policy workers j latest v table (trees_of trees j) le (k.follow j (omega (arith, length-set trees i w, lt))))
  ];
  retired = λ j over lt. subst HaveNoKey (sym (get_or-set_other trees i j w _ (λ e. omega (arith, e, over, chosen)))) (k.retired j over (omega (arith, length-set trees i w, lt)));
}

-- the trees of a worker at its choice
pub follow_now : (policy : Policy) (workers : ℕ) (table : Table) (latest v : ℤ) (trees : List TreesView) (i : ℕ) → KeepsIndex policy workers table latest trees → i < workers → latest ≤ℤ v → Follow (record { policy = policy; workers = workers; worker = i; virtual_time = v }) table (trees_of trees i)
follow_now policy workers table latest v trees i k chosen le = follow_on policy workers i latest v table (trees_of trees i) le (k.follow i (omega (arith, chosen, k.staffed)))

-- ---- the table

has_in_set : (table : Table) (t u : ℕ) (keys : Option HeadKeys) (l : HeadKeys) → Has (set table t keys) u l → ((u ≡ t) × (keys ≡ Some l)) ⊎ ((u ≢ t) × Has table u l)
has_in_set table t u keys l has =
    let lt : u < length table = omega (arith, length-set table t keys, slice_get_within (set table t keys) u (Some l) has) in
    let read : get_or (set table t keys) u None ≡ Some l = get_or_from_slice_get (set table t keys) u (Some l) None has in
    elim (cases_eq u t) [
      | inl e ↦ inl (e, sym (get_or-set_same table t keys None (subst (λ x. x < length table) e lt)) ∙ (ap (λ x. get_or (set table t keys) x None) (sym e) ∙ read))
      | inr ne ↦ inr (ne, slice_get-get_or table u None lt ∙ ap Some (sym (get_or-set_other table t u keys None ne) ∙ read))
    ]

-- requests differ still where the new keys are of a new one
pub differ_set : (table : Table) (t : ℕ) (keys : Option HeadKeys) → RequestsDiffer table → IfSome keys (IsNewTo table t) → RequestsDiffer (set table t keys)
differ_set table t keys differ fresh u k has w l ne has_l = elim (has_in_set table t u keys k has) [
  | inl here ↦ elim (has_in_set table t w keys l has_l) [
    | inl both ↦ absurd (ne (both.0 ∙ sym here.0))
    | inr other ↦ if_new keys k fresh here.1 w l other.0 other.1
  ]
  | inr there ↦ elim (has_in_set table t w keys l has_l) [
    | inl here ↦ λ e. if_new keys l fresh here.1 u k there.0 there.1 (sym e)
    | inr other ↦ differ u k there.1 w l ne other.1
  ]
]
  where
    some_same : (x k : HeadKeys) → Some x ≡ Some k → x ≡ k
    some_same x k e = cc

    if_new : (o : Option HeadKeys) (k : HeadKeys) → IfSome o (IsNewTo table t) → o ≡ Some k → IsNewTo table t k
    if_new None k f e = absurd (none_not_some None k refl e)
    if_new (Some x) k f e = subst (IsNewTo table t) (some_same x k e) f
