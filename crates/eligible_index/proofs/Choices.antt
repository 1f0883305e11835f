-- The first of exact trees is the choice.
use Rattle.std.proofs.Common.{ℕ, ◌≡◌, ◌≢◌, Option, List, arith, refl, ap, subst, inl, inr}
use Rattle.std.proofs.lemmas.Int.{ints}
use Rattle.fq_model.specs.Keys.{HeadKeys, Turn, IsEligible, FinishBefore, EligibleBefore, IsChoice, NoneIsEligible}
use Rattle.tag_rules.specs.Tables.{Table, Has, NoneHas, RequestsDiffer}
use Rattle.winner_tree.specs.declared.key.Key.{Key}
use Rattle.winner_tree.specs.Order.{key_of, HasKey, HasNoKey, Precedes}
use Rattle.winner_tree.specs.Order as tree
use Rattle.winner_tree.proofs.Least.{none_not_some}
use Rattle.eligible_index.specs.Trees.{TreesView, AreExact, IsFirstIn, HaveNoKey, later_key, finish_key}

finishes_first : (k l : HeadKeys) (t u : ℕ) → k.request ≢ l.request → Precedes (finish_key k) t (finish_key l) u → FinishBefore k l
finishes_first k l t u differ (inl (inl less)) = inl less
finishes_first k l t u differ (inl (inr (tie, inl never))) = absurd (omega (arith, ints, never))
finishes_first k l t u differ (inl (inr (tie, inr (_, less)))) = inr (tie, less)
finishes_first k l t u differ (inr (same, _)) = absurd (differ (ap (λ (x : Key). x.c) same))

eligible_first : (at : Turn) (k l : HeadKeys) (t u : ℕ) → k.request ≢ l.request → Precedes (later_key at k) t (later_key at l) u → EligibleBefore at k l
eligible_first at k l t u differ (inl (inl less)) = inl less
eligible_first at k l t u differ (inl (inr (tie, next))) = inr (tie, next)
eligible_first at k l t u differ (inr (same, _)) = absurd (differ (ap (λ (x : Key). x.c) same))

module _ (at : Turn) (table : Table) (differ : RequestsDiffer table) (later eligible : List (Option Key)) (exact : AreExact at table later eligible) where
  choice_of_eligible : (t : ℕ) (key : Key) → tree.IsFirst eligible t key → (k : HeadKeys) × IsChoice at (Has table) t k
  choice_of_eligible t key first =
      let found : (k : HeadKeys) × (Has table t k × (IsEligible at k × (key ≡ finish_key k))) = (exact.in_eligible t key).0 first.found in (
        found.0,
        inl (record {
          has = found.1.0;
          passes = found.1.1.0;
          first = λ u l ne has now. finishes_first found.0 l t u (differ t found.0 found.1.0 u l ne has) (subst (λ x. Precedes x t (finish_key l) u) found.1.1.1 (first.before u (finish_key l) ne ((exact.in_eligible u (finish_key l)).1 (l, (has, (now, refl))))));
        }),
      )

  module _ (none : HasNoKey eligible) where
    none_eligible : NoneIsEligible at (Has table)
    none_eligible u l has now = none_not_some (key_of eligible u) (finish_key l) (none u) ((exact.in_eligible u (finish_key l)).1 (l, (has, (now, refl))))

    stands_later : (u : ℕ) (l : HeadKeys) → Has table u l → HasKey later u (later_key at l)
    stands_later u l has = (exact.in_later u (later_key at l)).1 (l, (has, (none_eligible u l has, refl)))

    choice_of_later : (t : ℕ) (key : Key) → tree.IsFirst later t key → (k : HeadKeys) × IsChoice at (Has table) t k
    choice_of_later t key first =
        let found : (k : HeadKeys) × (Has table t k × (¬ IsEligible at k × (key ≡ later_key at k))) = (exact.in_later t key).0 first.found in (
          found.0,
          inr (
            none_eligible,
            record {
              has = found.1.0;
              passes = tt;
              first = λ u l ne has _. eligible_first at found.0 l t u (differ t found.0 found.1.0 u l ne has) (subst (λ x. Precedes x t (later_key at l) u) found.1.1.1 (first.before u (later_key at l) ne (stands_later u l has)));
            },
          ),
        )

    none_has : HasNoKey later → NoneHas table
    none_has empty u l has = none_not_some (key_of later u) (later_key at l) (empty u) (stands_later u l has)

pub first_is_choice : (at : Turn) (table : Table) → RequestsDiffer table → (w : TreesView) → AreExact at table w.later w.eligible → (t : ℕ) → IsFirstIn w t → (k : HeadKeys) × IsChoice at (Has table) t k
first_is_choice at table differ w exact t (inl first) = choice_of_eligible at table differ w.later w.eligible exact t first.0 first.1
first_is_choice at table differ w exact t (inr first) = choice_of_later at table differ w.later w.eligible exact first.0 t first.1.0 first.1.1

pub no_key_no_head : (at : Turn) (table : Table) → RequestsDiffer table → (w : TreesView) → AreExact at table w.later w.eligible → HaveNoKey w → NoneHas table
no_key_no_head at table differ w exact none = none_has at table differ w.later w.eligible exact none.1 none.0
