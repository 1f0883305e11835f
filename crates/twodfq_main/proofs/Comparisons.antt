-- The answer for a trace that was compared.
use Rattle.std.proofs.Common.{ℕ, ◌≤◌, ◌≡◌, ap, subst, refl, arith, false, true, Bool, List, length, inl, inr, ◌⊎◌, Result, Ok, Err}
use Rattle.std.proofs.lemmas.Bool.{ltb-true}
use Rattle.std.proofs.lemmas.Slice.Zip.{AllZip-long}
use Rattle.fq_model.specs.declared.limits.TheConstants.{MOST_ENTRIES}
use Rattle.program_model.specs.declared.compare.CompareOptions.{CompareOptions}
use Rattle.program_model.specs.declared.compare.CompareRow.{CompareRow}
use Rattle.program_model.specs.declared.ending.Stop.{Stop}
use Rattle.program_model.specs.Answer.{Text}
use Rattle.program_model.specs.Compare.{all_pairs, IsCompared}
use Rattle.program_model.specs.CompareCommand.{AreAllRows, IsFirstLong, IsRowsAnswer, IsLongAnswer, IsComparisonAnswer}
use Rattle.program_model.specs.HistoryAnswer.{has_many_entries, entries_answer, cells_answer}
use Rattle.program_model.specs.ReportText.{compare_text}
use Rattle.program_model.specs.Simulated.{needed_entries}
use Rattle.program_model.specs.Trace.{Trace}
use Rattle.compare_all.specs.declared.fault.CompareFault.{CompareFault}
use Rattle.compare_all.specs.declared.fault.CompareFault.TheVariants.{TooManyEntries, TooLong}
use Rattle.compare_all.specs.Reasons.{HasManyEntries, many_entries, IsReason}
use Rattle.command_texts.specs.Making.{IsStop}
use Rattle.command_texts.proofs.Making.{stop_as, else_answers}

module _ (T : Trace) (o : CompareOptions) where
  -- where the entries needed cannot be too many
  few : (HasManyEntries T o → ⊥) → has_many_entries (needed_entries T.rows o.refresh) ≡ false
  few not_many = go (has_many_entries (needed_entries T.rows o.refresh)) refl
    where
      go : (b : Bool) → has_many_entries (needed_entries T.rows o.refresh) ≡ b → has_many_entries (needed_entries T.rows o.refresh) ≡ false
      go true e = absurd (not_many (ltb-true MOST_ENTRIES (needed_entries T.rows o.refresh) e))
      go false e = e

  pub rows_answer : {V : Type 0} (v : V) (rows : List CompareRow) (text : List ℕ) → (HasManyEntries T o → Ok v ≡ Err (many_entries T o)) → AreAllRows T o rows → text ≡ compare_text rows → IsComparisonAnswer o T (Text 0 text)
  rows_answer v rows text over all is =
      else_answers (has_many_entries (needed_entries T.rows o.refresh)) (entries_answer (needed_entries T.rows o.refresh)) (Text 0 text) (λ a. IsRowsAnswer T o a ⊎ IsLongAnswer T o a)
      (few (λ many. let clash : Ok v ≡ Err (many_entries T o) = over many in absurd (cc)))
      (inl (record { rows = rows; are_all = all; answer_is = ap (Text 0) is }))

  long_here : {V : Type 0} (row cells : ℕ) (stop : Stop) → (HasManyEntries T o → ◌≡◌ {A = Result V CompareFault} (Err (TooLong row cells)) (Err (many_entries T o))) → IsFirstLong T o row cells → IsStop (λ answer. answer ≡ cells_answer cells) stop → IsStop (IsComparisonAnswer o T) stop
  long_here {V} row cells stop over first x =
      stop_as (λ answer. answer ≡ cells_answer cells) (IsComparisonAnswer o T) stop
      (λ answer y. else_answers (has_many_entries (needed_entries T.rows o.refresh)) (entries_answer (needed_entries T.rows o.refresh)) answer (λ a. IsRowsAnswer T o a ⊎ IsLongAnswer T o a)
      (few (λ many. let clash : ◌≡◌ {A = Result V CompareFault} (Err (TooLong row cells)) (Err (many_entries T o)) = over many in absurd (cc)))
      (inr (record { row = row; cells = cells; first = first; answer_is = y }))) x

  pub long_stop : {V : Type 0} (fault : CompareFault) (row cells : ℕ) (stop : Stop) → fault ≡ TooLong row cells → (HasManyEntries T o → ◌≡◌ {A = Result V CompareFault} (Err fault) (Err (many_entries T o))) → IsReason T o fault → IsStop (λ answer. answer ≡ cells_answer cells) stop → IsStop (IsComparisonAnswer o T) stop
  long_stop {V} fault row cells stop is over reason x =
      long_here {V = V} row cells stop (subst (λ f. HasManyEntries T o → ◌≡◌ {A = Result V CompareFault} (Err f) (Err (many_entries T o))) is over) (subst (IsReason T o) is reason) x

  pub twelve_rows : (rows : List CompareRow) → AreAllRows T o rows → length rows ≤ 4294967296
  twelve_rows rows all = omega (arith, AllZip-long (IsCompared T o) all_pairs rows all.compared)

  pub many_reason : (fault : CompareFault) (needed : ℕ) → fault ≡ TooManyEntries needed → IsReason T o fault → HasManyEntries T o × (needed ≡ needed_entries T.rows o.refresh)
  many_reason fault needed is reason = subst (IsReason T o) is reason
