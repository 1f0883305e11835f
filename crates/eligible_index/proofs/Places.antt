-- Where tenants stand, as their keys are written one after another.
use Rattle.std.proofs.Common.{ℕ, ◌+◌, ◌≡◌, ◌≢◌, ◌<◌, ◌≤◌, Bool, false, List, Option, None, Contains, length, get_or, set, arith, sym, ap, ◌∙◌, subst, inl, inr, ◌⊎◌}
use Rattle.std.proofs.lemmas.Bool.{cases_eq, cases_Bool, false≢true}
use Rattle.std.proofs.lemmas.List.{get_or-set_same, get_or-set_other, get_or_default}
use Rattle.fq_model.specs.Keys.{Turn}
use Rattle.tag_rules.specs.Tables.{Table}
use Rattle.winner_tree.specs.declared.key.Key.{Key}
use Rattle.winner_tree.specs.Order.{key_of}
use Rattle.eligible_index.specs.Noted.{IsNoted}
use Rattle.eligible_index.specs.Trees.{TreesView, Stands, StandsIn, StandBut, AllStand, Follow}

-- the keys that are written for a tenant stand, and no other tenant has moved
pub stands_set : (at : Turn) (table : Table) (later eligible : List (Option Key)) (t : ℕ) (l e : Option Key) → t < length later → t < length eligible → Stands at (get_or table t None) l e → StandsIn at table (set later t l) (set eligible t e) t
stands_set at table later eligible t l e in_later in_eligible h =
    subst (λ x. Stands at (get_or table t None) x (key_of (set eligible t e) t)) (sym (get_or-set_same later t l None in_later)) (subst (λ y. Stands at (get_or table t None) l y) (sym (get_or-set_same eligible t e None in_eligible)) h)

pub stands_other : (at : Turn) (table : Table) (later eligible : List (Option Key)) (t u : ℕ) (l e : Option Key) → u ≢ t → StandsIn at table later eligible u → StandsIn at table (set later t l) (set eligible t e) u
stands_other at table later eligible t u l e ne h =
    subst (λ x. Stands at (get_or table u None) x (key_of (set eligible t e) u)) (sym (get_or-set_other later t u l None ne)) (subst (λ y. Stands at (get_or table u None) (key_of later u) y) (sym (get_or-set_other eligible t u e None ne)) h)

-- ---- one after another

-- each tenant stands, or comes in the list at place i or after
abbrev pub StandTo : Turn → Table → List ℕ → List (Option Key) → List (Option Key) → ℕ → Type 0
StandTo at table numbers later eligible i =
    (t : ℕ) → t < length table → StandsIn at table later eligible t ⊎ ((k : ℕ) × ((i ≤ k) × ((k < length numbers) × (get_or numbers k t ≡ t))))

pub stand_first : (at : Turn) (table : Table) (numbers : List ℕ) (later eligible : List (Option Key)) → StandBut at table numbers later eligible → StandTo at table numbers later eligible 0
stand_first at table numbers later eligible h t lt = elim (h t lt) [ inl s ↦ inl s | inr c ↦ inr (c.0, (omega arith, (c.1, c.2))) ]

pub stand_next : (at : Turn) (table : Table) (numbers : List ℕ) (later eligible : List (Option Key)) (i n : ℕ) (l e : Option Key) → length later ≡ length table → length eligible ≡ length table → i < length numbers → n ≡ get_or numbers i n → n < length table → Stands at (get_or table n None) l e → StandTo at table numbers later eligible i → StandTo at table numbers (set later n l) (set eligible n e) (i + 1)
stand_next at table numbers later eligible i n l e sized sized2 lt is known s h t b = elim (cases_eq t n) [
  | inl same ↦ inl (subst (StandsIn at table (set later n l) (set eligible n e)) (sym same) (stands_set at table later eligible n l e (omega (arith, sized, known)) (omega (arith, sized2, known)) s))
  | inr ne ↦ elim (h t b) [
    | inl was ↦ inl (stands_other at table later eligible n t l e ne was)
    | inr found ↦ elim (cases_eq found.0 i) [
      | inl here ↦ absurd (ne (sym found.1.1.1 ∙ (ap (λ k. get_or numbers k t) here ∙ (get_or_default numbers i t n lt ∙ sym is))))
      | inr there ↦ inr (found.0, (omega (arith, found.1.0, there), found.1.1))
    ]
  ]
]

pub stand_last : (at : Turn) (table : Table) (numbers : List ℕ) (later eligible : List (Option Key)) (i : ℕ) → length numbers ≤ i → StandTo at table numbers later eligible i → AllStand at table later eligible
stand_last at table numbers later eligible i le h t lt = elim (h t lt) [ inl s ↦ s | inr found ↦ absurd (omega (arith, found.1.0, found.1.1.0, le)) ]

-- a tenant that does not stand is noted, so it is in the list of those that are
pub stand_but : (at : Turn) (table : Table) (w : TreesView) (numbers : List ℕ) → Follow at table w → ((n : ℕ) → IsNoted w.noted n → Contains numbers n) → StandBut at table numbers w.later w.eligible
stand_but at table w numbers follow listed t lt = elim (cases_Bool (get_or w.noted t false)) [
  | inl noted ↦ inr (listed t noted)
  | inr fresh ↦ inl (follow.stands t lt (λ noted. false≢true (sym fresh ∙ noted)))
]

-- where all stand, they do whatever is noted
pub all_follow : (at : Turn) (table : Table) (later eligible : List (Option Key)) (noted : List Bool) → length later ≡ length table → length eligible ≡ length table → length noted ≡ length table → AllStand at table later eligible → Follow at table (record { later = later; eligible = eligible; noted = noted })
all_follow at table later eligible noted e f g h = record { sized = record { later = e; eligible = f; noted = g }; stands = λ t lt _. h t lt }
