-- The first row of least spread.
use Rattle.std.proofs.Common.{ℕ, ◌+◌, ◌-◌, below_more, ◌<◌, ◌≤◌, ◌≡◌, ap, sym, ◌∙◌, arith, false, true, cond, List, length, get_or, pos, ◌≤ℤ◌, int_le, nat_lt, ℤ, Some, None, unwrap_or, refl, subst, [], ◌∷◌}
use Rattle.std.specs.Prelude.{◌<ℤ◌}
use Rattle.std.specs.List.{position_or_len}
use Rattle.std.proofs.lemmas.Bool.{lt-ltb}
use Rattle.std.proofs.lemmas.Int.{ints}
use Rattle.std.proofs.lemmas.List.{get_or_default}
use Rattle.std.proofs.lemmas.List.Folds.{list_all_at}
use Rattle.std.proofs.lemmas.List.Sums.{list_all-from_AllPass, position_or_len_is}
use Rattle.fq_model.specs.declared.config.Estimator.TheVariants.{Declared}
use Rattle.fq_model.specs.declared.config.Policy.TheVariants.{Wfq}
use Rattle.program_model.specs.declared.compare.CompareRow.{CompareRow}
use Rattle.program_model.specs.Compare.{best, has_least_spread, spread}

-- the row past the end
abbrev pub no_row : CompareRow
no_row = record { policy = Wfq; estimate = Declared; end = 0; entries = 0; least = pos 0; greatest = pos 0 }

at_most : (x y : ℤ) → x ≤ℤ y → int_le x y ≡ true
at_most x y h = grind (arith, ints)

above : (x y : ℤ) → y <ℤ x → int_le x y ≡ false
above x y h = grind (arith, ints)

-- no spread is less than that at the place, and each before it is greater
pub record IsBestAt (rows : List CompareRow) (place : ℕ) : Type 0 where
  pub inside : place < length rows
  pub least : (j : ℕ) → j < length rows → spread (get_or rows place no_row) ≤ℤ spread (get_or rows j no_row)
  pub first : (j : ℕ) → j < place → spread (get_or rows place no_row) <ℤ spread (get_or rows j no_row)

module _ (rows : List CompareRow) (place : ℕ) (b : IsBestAt rows place) where
  here : has_least_spread rows (get_or rows place no_row) ≡ true
  here = list_all-from_AllPass _ rows (λ j d l. subst (λ (r : CompareRow). int_le (spread (get_or rows place no_row)) (spread r) ≡ true) (get_or_default rows j no_row d l) (at_most _ _ (b.least j l)))

  before : (k : ℕ) → k < place → has_least_spread rows (get_or rows k no_row) ≡ false
  before k l = list_all_at _ rows place no_row b.inside (above (spread (get_or rows k no_row)) (spread (get_or rows place no_row)) (b.first k l))

  there : position_or_len (has_least_spread rows) rows ≡ place
  there = position_or_len_is (has_least_spread rows) rows place no_row (omega (arith, b.inside)) before (λ l. here)

  pub best_is : place ≡ best rows
  best_is =
      sym (ap (λ n. unwrap_or (cond (nat_lt n (length rows)) (Some n) None) 0) there
      ∙ ap (λ inside. unwrap_or (cond inside (Some place) None) 0) (lt-ltb place (length rows) b.inside))

pub best_none : (rows : List CompareRow) → length rows ≡ 0 → 0 ≡ best rows
best_none [] is = refl
best_none (row ∷ rows) is = absurd (omega (arith, is))

-- the best so far, where one more is looked at: it, if it is less than the old one
pub moves_least : (f : ℕ → ℤ) (p k : ℕ) → f k <ℤ f p → ((j : ℕ) → j < k → f p ≤ℤ f j) → (j : ℕ) → j < k + 1 → f k ≤ℤ f j
moves_least f p k less least = below_more _ _ (λ j l. omega (arith, ints, less, least j l)) (omega (arith, ints))

pub moves_first : (f : ℕ → ℤ) (p k : ℕ) → f k <ℤ f p → ((j : ℕ) → j < k → f p ≤ℤ f j) → (j : ℕ) → j < k → f k <ℤ f j
moves_first f p k less least j l = omega (arith, ints, less, least j l)

-- the best of those before k is the best of all, if there are no more
pub best_from : (rows : List CompareRow) (place k : ℕ) → length rows ≤ k → place ≤ length rows - 1
    → ((j : ℕ) → j < k → spread (get_or rows place no_row) ≤ℤ spread (get_or rows j no_row)) → ((j : ℕ) → j < place → spread (get_or rows place no_row) <ℤ spread (get_or rows j no_row))
    → place ≡ best rows
best_from [] place k past inside least first = let zero : place ≡ 0 = omega (arith, inside) in zero ∙ best_none [] refl
best_from (row ∷ rows) place k past inside least first =
    best_is (row ∷ rows) place (record { inside = omega (arith, inside); least = λ j l. least j (omega (arith, l, past)); first = first })
