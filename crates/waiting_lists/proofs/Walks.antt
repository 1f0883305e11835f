-- A walk along a chain comes to its end.
use Rattle.std.proofs.Common.{◌≡◌, ℕ, zero, suc, ◌<◌, ◌≤◌, List, [], ◌∷◌, Option, Some, None, true, false, eqb, length, arith, refl, sym, ap, ◌∙◌, inl, inr}
use Rattle.std.specs.List.{AllByRecursion, IsDistinct, list_any}
use Rattle.std.proofs.lemmas.Bool.{false≢true, or_cases, eqb-true, ne_eqb}
use Rattle.std.proofs.lemmas.Map.Steps.{length-le_from_distinct_below}
use Rattle.waiting_lists.specs.Linked.{StandsIn, AreChained}
use Rattle.waiting_lists.proofs.Chains.{some_is, none_not_some, first_once, linked_bound}

-- the numbers along at most this number of links
abbrev pub walk : (ℕ → Option ℕ) → ℕ → Option ℕ → List ℕ
walk next zero at = []
walk next (suc more) None = []
walk next (suc more) (Some i) = i ∷ walk next more (next i)

any_stands : (q : ℕ) (ns : List ℕ) → list_any (eqb q) ns ≡ true → StandsIn q ns
any_stands q [] e = absurd (false≢true e)
any_stands q (n ∷ ns) e = elim (or_cases (eqb q n) (list_any (eqb q) ns) e) [
  | inl here ↦ inl (eqb-true q n here)
  | inr there ↦ inr (any_stands q ns there)
]

all_apart : (x : ℕ) (ns : List ℕ) → (StandsIn x ns → ⊥) → AllByRecursion (λ y. eqb x y ≡ false) ns
all_apart x [] apart = tt
all_apart x (n ∷ ns) apart = (ne_eqb x n (λ e. apart (inl e)), all_apart x ns (λ h. apart (inr h)))

module _ (next : ℕ → Option ℕ) (bound : ℕ) where
  walk_is : (fuel : ℕ) (at : Option ℕ) (ns : List ℕ) → length ns ≤ fuel → AreChained next bound at ns → walk next fuel at ≡ ns
  walk_is zero at [] h p = refl
  walk_is zero at (n ∷ ns) h p = absurd (omega arith)
  walk_is (suc fuel) at [] h p = ap (walk next (suc fuel)) p
  walk_is (suc fuel) at (n ∷ ns) h p = ap (walk next (suc fuel)) p.0 ∙ ap (λ (l : List ℕ). n ∷ l) (walk_is fuel (next n) ns (omega arith) p.2)

  chain_distinct : (at : Option ℕ) (ns : List ℕ) → AreChained next bound at ns → IsDistinct eqb ns
  unfolding IsDistinct
  chain_distinct at [] p = tt
  chain_distinct at (n ∷ ns) p = (all_apart n ns (first_once next bound at n ns p), chain_distinct (next n) ns p.2)

  chain_short : (at : Option ℕ) (ns : List ℕ) → AreChained next bound at ns → length ns ≤ bound
  chain_short at ns p = length-le_from_distinct_below ns bound (chain_distinct at ns p) (λ q e. linked_bound next bound at ns q p (any_stands q ns e))

  -- a step along a chain is nearer its end
  pub nearer : (at : Option ℕ) (i : ℕ) (ns : List ℕ) → at ≡ Some i → AreChained next bound at ns → length (walk next bound (next i)) < length (walk next bound at)
  nearer at i [] e p = absurd (none_not_some at i p e)
  nearer at i (n ∷ ns) e p =
      let short : length (n ∷ ns) ≤ bound = chain_short at (n ∷ ns) p in
      let whole : walk next bound at ≡ n ∷ ns = walk_is bound at (n ∷ ns) short p in
      let left : walk next bound (next n) ≡ ns = walk_is bound (next n) ns (omega (arith, short)) p.2 in
      let here : walk next bound (next i) ≡ walk next bound (next n) = ap (λ v. walk next bound (next v)) (some_is i n (sym e ∙ p.0)) in
      omega (arith, ap (λ (l : List ℕ). length l) whole, ap (λ (l : List ℕ). length l) left, ap (λ (l : List ℕ). length l) here)
