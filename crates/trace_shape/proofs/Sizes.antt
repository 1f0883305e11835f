-- Rows that declare more than a bucket holds, and moments that are too late: where there are none.
use Rattle.std.proofs.Common.{ℕ, ◌<◌, ◌≡◌, Bool, false, nat_lt, List, length, get_or, None, arith, refl, sym, ◌∙◌, inl, inr, lt-ltb, le-ltb}
use Rattle.std.specs.Prelude.{position}
use Rattle.std.specs.List.{position_or_len}
use Rattle.std.proofs.lemmas.Bool.{cases_lt}
use Rattle.std.proofs.lemmas.List.Sums.{position_or_len_is, fails_before_first}
use Rattle.std.proofs.lemmas.Option.{none-some}
use Rattle.program_model.specs.declared.trace.TraceRow.{TraceRow}
use Rattle.program_model.specs.Conforms.{Conforms, too_big}
use Rattle.program_model.specs.Trace.{Trace}
use Rattle.trace_shape.proofs.Windows.{no_row, each_fits}

-- where no element passes, there is no first one that does
pub none_passes : {X : Type 0} (p : X → Bool) (xs : List X) (k : ℕ) (d : X) → position p xs ≡ None → k < length xs → p (get_or xs k d) ≡ false
none_passes p xs k d none l = elim (cases_lt (position_or_len p xs) (length xs)) [
  | inl there ↦ absurd (none-some (position_or_len p xs) (sym none ∙ rw (lt-ltb _ _ there) refl))
  | inr past ↦ fails_before_first p xs k d (omega (arith, past, l))
]

-- and the other way round
pub none_found : {X : Type 0} (p : X → Bool) (xs : List X) (d : X) → ((k : ℕ) → k < length xs → p (get_or xs k d) ≡ false) → position p xs ≡ None
none_found p xs d fails =
    let place : position_or_len p xs ≡ length xs = position_or_len_is p xs (length xs) d (omega arith) fails (λ l. absurd (omega (arith, l))) in
    rw (place, le-ltb (length xs) (length xs) (omega arith)) refl

-- where there are moments that conform no row is too big
pub none_too_big : (T : Trace) (rate burst : ℕ) (moments : List ℕ) → Conforms T rate burst moments → too_big T burst ≡ None
none_too_big T rate burst moments h = none_found (λ (r : TraceRow). nat_lt burst r.declared) T.rows no_row (λ k l. le-ltb _ _ (each_fits T rate burst T.rows moments h k no_row l))
