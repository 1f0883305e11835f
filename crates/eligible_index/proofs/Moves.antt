-- Moving heads that have become eligible from the first tree to the second.
use Rattle.std.proofs.Common.{ℕ, zero, suc, ◌≡◌, ◌≢◌, ◌<◌, List, [], ◌∷◌, Option, Some, None, length, get_or, set, arith, refl, sym, ap, ◌∙◌, subst, inl, inr, ◌⊎◌, ◌↔◌, Bool, false, IsTrue, ℤ, pos, ◌<ℤ◌, ◌≤ℤ◌}
use Rattle.std.proofs.lemmas.Bool.{cases_eq}
use Rattle.std.proofs.lemmas.Int.{ints, by_lt_z}
use Rattle.std.proofs.lemmas.List.{length-set}
use Rattle.std.proofs.lemmas.Option.{slice_get-get_or, slice_get_within, get_or_from_slice_get}
use Rattle.fq_model.specs.Keys.{HeadKeys, Turn, eligible_key, IsEligible}
use Rattle.fq_model.specs.declared.config.Policy.TheVariants.{Wfq}
use Rattle.tag_rules.specs.Tables.{Table, Has}
use Rattle.tag_rules.proofs.Comparing.{not_so}
use Rattle.winner_tree.specs.declared.key.Key.{Key}
use Rattle.winner_tree.specs.Order.{key_of, HasKey, HasNoKey, IsFirst, Precedes}
use Rattle.winner_tree.proofs.Least.{none_not_some, key_within, one_key}
use Rattle.winner_tree.proofs.Orders.{some_is}
use Rattle.eligible_index.specs.Trees.{later_key, finish_key, Stands, StandsLater, StandsEligible, StandsIn, AllStand, AreExact, SameSizes, IsMovedOver}
use Rattle.eligible_index.proofs.Places.{stands_set, stands_other}

-- ---- the measure: how many leaves have keys

abbrev pub count_keys : List (Option Key) → ℕ
count_keys [] = zero
count_keys (None ∷ map) = count_keys map
count_keys (Some key ∷ map) = suc (count_keys map)

pub fewer_keys : (map : List (Option Key)) (t : ℕ) (key : Key) → HasKey map t key → count_keys (set map t None) < count_keys map
fewer_keys [] t key h = absurd (none_not_some None key refl h)
fewer_keys (None ∷ map) zero key h = absurd (none_not_some None key refl h)
fewer_keys (Some k ∷ map) zero key h = omega arith
fewer_keys (None ∷ map) (suc t) key h = fewer_keys map t key h
fewer_keys (Some k ∷ map) (suc t) key h = omega (arith, fewer_keys map t key h)

-- ---- one head

-- a key in the first tree is the `later_key` of a head
stands_later : (at : Turn) (keys : Option HeadKeys) (l e : Option Key) (key : Key) → Stands at keys l e → l ≡ Some key → (k : HeadKeys) × ((keys ≡ Some k) × ((at.policy ≢ Wfq) × (key ≡ later_key at k)))
stands_later at None l e key s is = absurd (none_not_some l key s.0 is)
stands_later at (Some k) l e key (inl s) is = (k, (refl, (s.1.1, some_is key (later_key at k) (sym is ∙ s.0))))
stands_later at (Some k) l e key (inr s) is = absurd (none_not_some l key s.0 is)

stands_eligible : (at : Turn) (keys : Option HeadKeys) (l e : Option Key) (key : Key) → Stands at keys l e → e ≡ Some key → (k : HeadKeys) × ((keys ≡ Some k) × (IsEligible at k × (key ≡ finish_key k)))
stands_eligible at None l e key s is = absurd (none_not_some e key s.1 is)
stands_eligible at (Some k) l e key (inl s) is = absurd (none_not_some e key s.1.0 is)
stands_eligible at (Some k) l e key (inr s) is = (k, (refl, (s.1.1, some_is key (finish_key k) (sym is ∙ s.1.0))))

-- ---- one step

pub move_next : (at : Turn) (table : Table) (later eligible : List (Option Key)) (t : ℕ) (key : Key) → length eligible ≡ length later → HasKey later t key → key.a ≤ℤ at.virtual_time → AllStand at table later eligible → AllStand at table (set later t None) (set eligible t (Some (record { a = key.b; b = pos 0; c = key.c })))
move_next at table later eligible t key sized has due h u lt = elim (cases_eq u t) [
  | inl e ↦
      let s : StandsIn at table later eligible t = h t (subst (λ x. x < length table) e lt) in
      let found : (k : HeadKeys) × ((get_or table t None ≡ Some k) × ((at.policy ≢ Wfq) × (key ≡ later_key at k))) = stands_later at (get_or table t None) (key_of later t) (key_of eligible t) key s has in
      let now : Stands at (Some found.0) None (Some (record { a = key.b; b = pos 0; c = key.c })) = inr (refl, (ap (λ (x : Key). Some (record { a = x.b; b = pos 0; c = x.c })) found.1.1.1, inr (subst (λ (x : Key). x.a ≤ℤ at.virtual_time) found.1.1.1 due))) in
      subst (StandsIn at table (set later t None) (set eligible t _)) (sym e) (stands_set at table later eligible t None _ (key_within later t key has) (omega (arith, sized, key_within later t key has)) (subst (λ x. Stands at x None (Some (record { a = key.b; b = pos 0; c = key.c }))) (sym found.1.0) now))
  | inr ne ↦ stands_other at table later eligible t u None _ ne (h u lt)
]

-- ---- the end

-- no key of the first tree is due at v
abbrev pub NoneIsDue : ℤ → List (Option Key) → Type 0
NoneIsDue v later = (t : ℕ) (key : Key) → HasKey later t key → v <ℤ key.a

pub none_due_after : (v : ℤ) (later : List (Option Key)) (t : ℕ) (key : Key) → IsFirst later t key → v <ℤ key.a → NoneIsDue v later
none_due_after v later t key first after u other has = elim (cases_eq u t) [
  | inl e ↦ subst (λ (x : Key). v <ℤ x.a) (one_key later t key other first.found (subst (λ x. HasKey later x other) e has)) after
  | inr ne ↦ not_less v key other t u after (first.before u other ne has)
]
  where
    not_less : (v : ℤ) (x y : Key) (leaf u : ℕ) → v <ℤ x.a → Precedes x leaf y u → v <ℤ y.a
    not_less v x y leaf u lt (inl (inl less)) = omega (arith, ints, lt, less)
    not_less v x y leaf u lt (inl (inr tie)) = omega (arith, ints, lt, tie.0)
    not_less v x y leaf u lt (inr same) = subst (λ (z : Key). v <ℤ z.a) same.0 lt

pub none_due_empty : (v : ℤ) (later : List (Option Key)) → HasNoKey later → NoneIsDue v later
none_due_empty v later none t key has = absurd (none_not_some (key_of later t) key (none t) has)

has_from : (table : Table) (t : ℕ) (k : HeadKeys) → t < length table → get_or table t None ≡ Some k → Has table t k
has_from table t k lt e = slice_get-get_or table t None lt ∙ ap Some e

module _ (at : Turn) (table : Table) (later eligible : List (Option Key)) (sized : length later ≡ length table) (sized2 : length eligible ≡ length table) (h : AllStand at table later eligible) (late : NoneIsDue at.virtual_time later) where
  -- a head in the first tree is not eligible
  not_eligible : (t : ℕ) (k : HeadKeys) → at.policy ≢ Wfq → HasKey later t (later_key at k) → ¬ IsEligible at k
  not_eligible t k other has (inl wfq) = other wfq
  not_eligible t k other has (inr due) = let after : at.virtual_time <ℤ eligible_key at k = late t (later_key at k) has in omega (arith, ints, due, after)

  of_later : (t : ℕ) (key : Key) → HasKey later t key → (k : HeadKeys) × (Has table t k × (¬ IsEligible at k × (key ≡ later_key at k)))
  of_later t key has =
      let lt : t < length table = omega (arith, sized, key_within later t key has) in
      let found : (k : HeadKeys) × ((get_or table t None ≡ Some k) × ((at.policy ≢ Wfq) × (key ≡ later_key at k))) = stands_later at (get_or table t None) (key_of later t) (key_of eligible t) key (h t lt) has in
      (found.0, (has_from table t found.0 lt found.1.0, (not_eligible t found.0 found.1.1.0 (subst (HasKey later t) found.1.1.1 has), found.1.1.1)))

  of_eligible : (t : ℕ) (key : Key) → HasKey eligible t key → (k : HeadKeys) × (Has table t k × (IsEligible at k × (key ≡ finish_key k)))
  of_eligible t key has =
      let lt : t < length table = omega (arith, sized2, key_within eligible t key has) in
      let found : (k : HeadKeys) × ((get_or table t None ≡ Some k) × (IsEligible at k × (key ≡ finish_key k))) = stands_eligible at (get_or table t None) (key_of later t) (key_of eligible t) key (h t lt) has in
      (found.0, (has_from table t found.0 lt found.1.0, found.1.1))

  -- a head is in one of the two trees
  where_it_stands : (t : ℕ) (k : HeadKeys) → Has table t k → StandsLater at k (key_of later t) (key_of eligible t) ⊎ StandsEligible at k (key_of later t) (key_of eligible t)
  where_it_stands t k has = subst (λ x. Stands at x (key_of later t) (key_of eligible t)) (get_or_from_slice_get table t (Some k) None has) (h t (slice_get_within table t (Some k) has))

  to_later : (t : ℕ) (k : HeadKeys) → Has table t k → ¬ IsEligible at k → HasKey later t (later_key at k)
  to_later t k has never = elim (where_it_stands t k has) [ inl s ↦ s.0 | inr s ↦ absurd (never s.1.1) ]

  to_eligible : (t : ℕ) (k : HeadKeys) → Has table t k → IsEligible at k → HasKey eligible t (finish_key k)
  to_eligible t k has now = elim (where_it_stands t k has) [ inl s ↦ absurd (not_eligible t k s.1.1 s.0 now) | inr s ↦ s.1.0 ]

  pub are_exact : AreExact at table later eligible
  are_exact = record {
    in_later = λ t key. (of_later t key, λ p. subst (HasKey later t) (sym p.1.1.1) (to_later t p.0 p.1.0 p.1.1.0));
    in_eligible = λ t key. (of_eligible t key, λ p. subst (HasKey eligible t) (sym p.1.1.1) (to_eligible t p.0 p.1.0 p.1.1.0));
  }

-- ---- all steps

-- as far as the moves have come: where tenants stood they stand
pub record IsMovedTo (at : Turn) (later eligible later2 eligible2 : List (Option Key)) : Type 0 where
  pub same : SameSizes later eligible later2 eligible2
  pub stand : (table : Table) → AllStand at table later eligible → AllStand at table later2 eligible2

pub moved_first : (at : Turn) (later eligible : List (Option Key)) → IsMovedTo at later eligible later eligible
moved_first at later eligible = record { same = (refl, refl); stand = λ table h. h }

pub moved_next : (at : Turn) (later eligible later2 eligible2 : List (Option Key)) (t : ℕ) (key : Key) → length eligible ≡ length later → HasKey later2 t key → key.a ≤ℤ at.virtual_time → IsMovedTo at later eligible later2 eligible2 → IsMovedTo at later eligible (set later2 t None) (set eligible2 t (Some (record { a = key.b; b = pos 0; c = key.c })))
moved_next at later eligible later2 eligible2 t key sized has due m = record {
  same = (length-set later2 t None ∙ m.same.0, length-set eligible2 t _ ∙ m.same.1);
  stand = λ table h. move_next at table later2 eligible2 t key (omega (arith, m.same.0, m.same.1, sized)) has due (m.stand table h);
}

pub moved_last : (at : Turn) (later eligible later2 eligible2 : List (Option Key)) → length eligible ≡ length later → NoneIsDue at.virtual_time later2 → IsMovedTo at later eligible later2 eligible2 → IsMovedOver at later eligible later2 eligible2
moved_last at later eligible later2 eligible2 sized late m table len h =
    let now : AllStand at table later2 eligible2 = m.stand table h in
    (now, are_exact at table later2 eligible2 (m.same.0 ∙ len) (m.same.1 ∙ (sized ∙ len)) now late)

pub late_at : (v a : ℤ) (r : Bool) → (IsTrue r ↔ (a ≤ℤ v)) → r ≡ false → v <ℤ a
late_at v a r h fails = by_lt_z v a (λ p. p) (λ p. absurd (not_so r (a ≤ℤ v) h fails (omega (arith, ints, p))))
