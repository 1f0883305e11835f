-- Comparisons of one trace.
use Rattle.std.proofs.Common.{ℕ, ◌<◌, ◌≡◌, ◌∙◌, sym, ap, subst, refl, arith, true, List, [], ◌∷◌, length, take, All, Some, Option, slice_get, ◌⊎◌, inl, inr, None, ◌≤◌, ◌==◌, nat_lt}
use Rattle.std.specs.Prelude.{IsSomeAnd}
use Rattle.std.specs.List.{AllZip}
use Rattle.std.proofs.lemmas.Bool.{both_ways, cases_Bool, ltb-true, ltb-false, eqb-true, eqb-false}
use Rattle.std.proofs.lemmas.List.{get_or-take, length-take-le}
use Rattle.std.proofs.lemmas.Option.{get_or_from_slice_get, slice_get_within}
use Rattle.fq_model.specs.declared.config.Estimator.{Estimator}
use Rattle.fq_model.specs.declared.config.Policy.{Policy}
use Rattle.fq_model.specs.History.{History}
use Rattle.fq_model.specs.Report.{cells_of}
use Rattle.program_model.specs.declared.compare.CompareOptions.{CompareOptions}
use Rattle.program_model.specs.declared.compare.CompareRow.{CompareRow}
use Rattle.program_model.specs.Answer.{Answer, Text}
use Rattle.program_model.specs.Compare.{all_pairs, run_options, row_of_history, IsCompared}
use Rattle.program_model.specs.CompareCommand.{IsShort, IsLong, IsFirstLong, IsRowsAnswer, IsLongAnswer}
use Rattle.program_model.specs.HistoryAnswer.{has_many_cells, cells_answer}
use Rattle.program_model.specs.ReportText.{compare_text}
use Rattle.program_model.specs.Simulated.{run_config, IsSimulated}
use Rattle.program_model.specs.Trace.{Trace}
use Rattle.program_model.specs.TraceText.{IsLawfulTrace}
use Rattle.trace_runner.proofs.Only.{one_simulated}

-- a property of the first n items of a list is one of the item at a place below n
at : {X : Type 0} (P : X → Type 0) (xs : List X) (n k : ℕ) (x : X) → All P (take n xs) → n ≤ length xs → k < n → slice_get xs k ≡ Some x → P x
at P xs n k x all within below there =
    subst P (get_or-take n xs k x below ∙ get_or_from_slice_get xs k x x there) (all k x (subst (λ m. k < m) (sym (length-take-le n xs within)) below))

some_of : {X : Type 0} (P : X → Type 0) (o : Option X) → IsSomeAnd o P → (x : X) × (o ≡ Some x) × P x
some_of P (Some x) p = (x, refl, p)
some_of P None p = absurd p

module _ (T : Trace) (o : CompareOptions) (lawful : IsLawfulTrace T) where
  one_history : (pair : Policy × Estimator) (H K : History) → IsSimulated T (run_options o pair) H → IsSimulated T (run_options o pair) K → H ≡ K
  one_history pair H K s t = one_simulated T (run_options o pair) H K lawful.few s t

  one_row : (pair : Policy × Estimator) (a b : CompareRow) → IsCompared T o pair a → IsCompared T o pair b → a ≡ b
  one_row pair a b x y =
      x.row_is
      ∙ (ap (λ (H : History). row_of_history pair (run_config T (run_options o pair)) H o.slot) (one_history pair x.history y.history x.simulated y.simulated)
      ∙ sym y.row_is)

  one_rows : (pairs : List (Policy × Estimator)) (xs ys : List CompareRow) → AllZip (IsCompared T o) pairs xs → AllZip (IsCompared T o) pairs ys → xs ≡ ys
  one_rows [] [] [] h k = refl
  one_rows [] [] (y ∷ ys) h k = absurd k
  one_rows [] (x ∷ xs) ys h k = absurd h
  one_rows (pair ∷ pairs) [] ys h k = absurd h
  one_rows (pair ∷ pairs) (x ∷ xs) [] h k = absurd k
  one_rows (pair ∷ pairs) (x ∷ xs) (y ∷ ys) h k =
      let first : x ≡ y = one_row pair x y h.0 k.0 in
      let rest : xs ≡ ys = one_rows pairs xs ys h.1 k.1 in
      rw (first, rest) refl

  not_both : (pair : Policy × Estimator) (cells : ℕ) → IsShort T o pair → IsLong T o cells pair → ⊥
  not_both pair cells x y =
      both_ways (has_many_cells o.slot (run_config T (run_options o pair)) x.history) x.few
      (subst (λ (H : History). has_many_cells o.slot (run_config T (run_options o pair)) H ≡ true) (sym (one_history pair x.history y.history x.simulated y.simulated)) y.many)

  one_length : (pair : Policy × Estimator) (a b : ℕ) → IsLong T o a pair → IsLong T o b pair → a ≡ b
  one_length pair a b x y =
      x.cells_are
      ∙ (ap (λ (H : History). cells_of (run_config T (run_options o pair)) H o.slot) (one_history pair x.history y.history x.simulated y.simulated)
      ∙ sym y.cells_are)

  -- the first that is too long stands before no other
  none_before : (row cells later more : ℕ) → IsFirstLong T o row cells → IsFirstLong T o later more → row < later → ⊥
  none_before row cells later more x y below =
      let one = some_of (IsLong T o cells) (slice_get all_pairs row) x.long in
      let other = some_of (IsLong T o more) (slice_get all_pairs later) y.long in
      let inside = slice_get_within all_pairs later other.0 other.1 in
      not_both one.0 cells (at (IsShort T o) all_pairs later row one.0 y.earlier (omega (arith, inside)) below one.1) one.2

  none_short : (row cells : ℕ) → IsFirstLong T o row cells → All (IsShort T o) all_pairs → ⊥
  none_short row cells x short =
      let one = some_of (IsLong T o cells) (slice_get all_pairs row) x.long in
      let inside = slice_get_within all_pairs row one.0 one.1 in
      not_both one.0 cells (subst (IsShort T o) (get_or_from_slice_get all_pairs row one.0 one.0 one.1) (short row one.0 inside)) one.2

  one_first : (row cells other more : ℕ) → IsFirstLong T o row cells → IsFirstLong T o other more → cells ≡ more
  one_first row cells other more x y = elim (cases_Bool (row == other)) [
    | inl e ↦
        let same : row ≡ other = eqb-true row other e in
        let one = some_of (IsLong T o cells) (slice_get all_pairs row) x.long in
        let long : IsSomeAnd (slice_get all_pairs row) (IsLong T o more) = subst (λ n. IsSomeAnd (slice_get all_pairs n) (IsLong T o more)) (sym same) y.long in
        one_length one.0 cells more one.2 (subst (λ x. IsSomeAnd x (IsLong T o more)) one.1 long)
    | inr e ↦
        let apart = eqb-false row other e in
        elim (cases_Bool (nat_lt row other)) [
          | inl l ↦ absurd (none_before row cells other more x y (ltb-true row other l))
          | inr l ↦ absurd (none_before other more row cells y x (omega (arith, apart, ltb-false row other l)))
        ]
  ]

  pub one_comparison : (a b : Answer) → IsRowsAnswer T o a ⊎ IsLongAnswer T o a → IsRowsAnswer T o b ⊎ IsLongAnswer T o b → a ≡ b
  one_comparison a b (inl x) (inl y) =
      x.answer_is ∙ (ap (λ (rows : List CompareRow). Text 0 (compare_text rows)) (one_rows all_pairs x.rows y.rows x.are_all.compared y.are_all.compared) ∙ sym y.answer_is)
  one_comparison a b (inl x) (inr y) = absurd (none_short y.row y.cells y.first x.are_all.short)
  one_comparison a b (inr x) (inl y) = absurd (none_short x.row x.cells x.first y.are_all.short)
  one_comparison a b (inr x) (inr y) = x.answer_is ∙ (ap cells_answer (one_first x.row x.cells y.row y.cells x.first y.first) ∙ sym y.answer_is)
