-- A trace that can be simulated has a comparison.
use Rattle.std.proofs.Common.{ℕ, suc, ◌≤◌, refl, List, [], ◌∷◌, take, slice_get, All, ◌⊎◌, inl, inr}
use Rattle.std.specs.Prelude.{IsSomeAnd}
use Rattle.std.specs.List.{AllZip}
use Rattle.std.proofs.lemmas.Bool.{cases_Bool}
use Rattle.std.proofs.lemmas.List.Elements.{All-nil, All-cons}
use Rattle.fq_model.specs.declared.config.Estimator.{Estimator}
use Rattle.fq_model.specs.declared.config.Policy.{Policy}
use Rattle.fq_model.specs.declared.limits.TheConstants.{MOST_ENTRIES}
use Rattle.fq_model.specs.Report.{cells_of}
use Rattle.program_model.specs.declared.compare.CompareOptions.{CompareOptions}
use Rattle.program_model.specs.declared.compare.CompareRow.{CompareRow}
use Rattle.program_model.specs.Answer.{Answer, Text}
use Rattle.program_model.specs.Compare.{all_pairs, run_options, row_of_history, IsCompared}
use Rattle.program_model.specs.CompareCommand.{IsShort, IsLong, IsRowsAnswer, IsLongAnswer}
use Rattle.program_model.specs.HistoryAnswer.{has_many_cells, cells_answer}
use Rattle.program_model.specs.ReportText.{compare_text}
use Rattle.program_model.specs.RunLimits.{CanCompare}
use Rattle.program_model.specs.Simulated.{run_config, needed_entries}
use Rattle.program_model.specs.Trace.{Trace}
use Rattle.program_model.specs.TraceText.{IsLawfulTrace}
use Rattle.law_book.proofs.Exists.{Simulation, simulation_exists}

module _ (T : Trace) (o : CompareOptions) (lawful : IsLawfulTrace T) (limits : CanCompare o) (few : needed_entries T.rows o.refresh ≤ MOST_ENTRIES) where
  simulated : (pair : Policy × Estimator) → Simulation T (run_options o pair)
  simulated pair = simulation_exists T (run_options o pair) (record {
    lawful = lawful;
    options = record { workers = limits.workers; initial = limits.initial; refresh = limits.refresh };
    few = few;
  })

  -- all reports of these pairs are short, or one is the first that is long
  record FirstLong (pairs : List (Policy × Estimator)) : Type 0 where
    row : ℕ
    cells : ℕ
    earlier : All (IsShort T o) (take row pairs)
    long : IsSomeAnd (slice_get pairs row) (IsLong T o cells)

  short_or_long : (pair : Policy × Estimator) → IsShort T o pair ⊎ ((cells : ℕ) × IsLong T o cells pair)
  short_or_long pair =
      let H = simulated pair in
      elim (cases_Bool (has_many_cells o.slot (run_config T (run_options o pair)) H.0)) [
        | inl many ↦ inr (cells_of (run_config T (run_options o pair)) H.0 o.slot, record { history = H.0; simulated = H.1; many = many; cells_are = refl })
        | inr few ↦ inl (record { history = H.0; simulated = H.1; few = few })
      ]

  all_or_first : (pairs : List (Policy × Estimator)) → All (IsShort T o) pairs ⊎ FirstLong pairs
  all_or_first [] = inl (All-nil (IsShort T o))
  all_or_first (pair ∷ pairs) = elim (short_or_long pair) [
    | inr x ↦ inr (record { row = 0; cells = x.0; earlier = All-nil (IsShort T o); long = x.1 })
    | inl short ↦ elim (all_or_first pairs) [
      | inl all ↦ inl (All-cons (IsShort T o) pair pairs short all)
      | inr first ↦ inr (record { row = suc first.row; cells = first.cells; earlier = All-cons (IsShort T o) pair (take first.row pairs) short first.earlier; long = first.long })
    ]
  ]

  rows_of : (pairs : List (Policy × Estimator)) → (rows : List CompareRow) × AllZip (IsCompared T o) pairs rows
  rows_of [] = ([], tt)
  rows_of (pair ∷ pairs) =
      let H = simulated pair in
      let more = rows_of pairs in
      (row_of_history pair (run_config T (run_options o pair)) H.0 o.slot ∷ more.0, (record { history = H.0; simulated = H.1; row_is = refl }, more.1))

  pub some_comparison : (answer : Answer) × (IsRowsAnswer T o answer ⊎ IsLongAnswer T o answer)
  some_comparison = elim (all_or_first all_pairs) [
    | inl short ↦
        let rows = rows_of all_pairs in
        (Text 0 (compare_text rows.0), inl (record { rows = rows.0; are_all = record { short = short; compared = rows.1 }; answer_is = refl }))
    | inr first ↦ (cells_answer first.cells, inr (record { row = first.row; cells = first.cells; first = record { earlier = first.earlier; long = first.long }; answer_is = refl }))
  ]
