-- A trace at other moments is lawful where these are in time.
use Rattle.std.proofs.Common.{ℕ, suc, ◌<◌, ◌≡◌, Bool, true, false, cond, List, [], ◌∷◌, length, map, All, None, nat_lt, arith, refl, ap, ◌∙◌, ltb-false}
use Rattle.std.specs.Prelude.{nat_le}
use Rattle.std.specs.List.Sorted.{IsNonDecreasing}
use Rattle.std.proofs.lemmas.List.{length-map, get_or-map}
use Rattle.std.proofs.lemmas.List.Elements.{All-nil, All-cons, All-head, All-tail}
use Rattle.fq_model.specs.declared.limits.TheConstants.{GREATEST_TRACE_MOMENT}
use Rattle.program_model.specs.declared.trace.TraceRow.{TraceRow}
use Rattle.program_model.specs.Conforms.{too_late}
use Rattle.program_model.specs.Trace.{Trace}
use Rattle.program_model.specs.TraceText.{IsLawfulRow, IsLawfulTrace}
use Rattle.program_model.specs.Shaped.{rows_at, with_earlier_row, by_moment, at_moments}
use Rattle.trace_shape.proofs.Order.{moment_of, Rises, all_by_moment, by_moment_rises}
use Rattle.trace_shape.proofs.Runs.{IsInTime, all_in_time}
use Rattle.trace_shape.proofs.Sizes.{none_passes}
use Rattle.trace_shape.proofs.Windows.{no_row}

pub each_in_time : (moments : List ℕ) → too_late moments ≡ None → All IsInTime moments
each_in_time moments none k d l = ltb-false _ _ (none_passes (nat_lt GREATEST_TRACE_MOMENT) moments k d none l)

-- a property of a row that comes at a moment in time holds of all moved rows
all_moved : (P Q : TraceRow → Type 0) → ((row : TraceRow) (m : ℕ) → P row → IsInTime m → Q (record row { moment = m })) → (rows : List TraceRow) (moments : List ℕ) → All P rows → All IsInTime moments → All Q (rows_at rows moments)
all_moved P Q move [] moments all early = All-nil Q
all_moved P Q move (row ∷ rows) [] all early = All-nil Q
all_moved P Q move (row ∷ rows) (m ∷ moments) all early = All-cons Q (record row { moment = m }) (rows_at rows moments)
    (move row m (All-head P row rows all) (All-head IsInTime m moments early)) (all_moved P Q move rows moments (All-tail P row rows all) (All-tail IsInTime m moments early))

pub length_moved : (rows : List TraceRow) (moments : List ℕ) → length moments ≡ length rows → length (rows_at rows moments) ≡ length rows
length_moved [] moments same = refl
length_moved (row ∷ rows) [] same = absurd (omega (arith, same))
length_moved (row ∷ rows) (m ∷ moments) same = ap suc (length_moved rows moments (omega (arith, same)))

one_longer : (row : TraceRow) (rows : List TraceRow) → length (with_earlier_row row rows) ≡ suc (length rows)
one_longer row [] = refl
one_longer row (next ∷ rows) = either (nat_le row.moment next.moment) (one_longer row rows)
  where
    either : (b : Bool) → length (with_earlier_row row rows) ≡ suc (length rows) → length (cond b (row ∷ next ∷ rows) (next ∷ with_earlier_row row rows)) ≡ suc (suc (length rows))
    either true more = refl
    either false more = ap suc more

pub length_by_moment : (rows : List TraceRow) → length (by_moment rows) ≡ length rows
length_by_moment [] = refl
length_by_moment (row ∷ rows) = one_longer row (by_moment rows) ∙ ap suc (length_by_moment rows)

pub moments_rise : (rows : List TraceRow) → Rises rows → IsNonDecreasing (map (λ (row : TraceRow). row.moment) rows)
moments_rise rows rise i j d le l =
    let within : j < length rows = omega (arith, l, length-map rows moment_of) in
    rw (get_or-map moment_of rows i no_row d (omega (arith, le, within)), get_or-map moment_of rows j no_row d within) (rise i j no_row le within)

pub lawful_at : (T : Trace) (moments : List ℕ) → IsLawfulTrace T → length moments ≡ length T.rows → too_late moments ≡ None → IsLawfulTrace (at_moments T moments)
lawful_at T moments lawful one_each in_time = record {
  some_tenant = lawful.some_tenant;
  some_kind = lawful.some_kind;
  tenants = lawful.tenants;
  kinds = lawful.kinds;
  pairs = lawful.pairs;
  weighed = lawful.weighed;
  weights = lawful.weights;
  few = omega (arith, length_by_moment (rows_at T.rows moments), length_moved T.rows moments one_each, lawful.few);
  rows = all_by_moment (IsLawfulRow (length T.tenants) (length T.kinds)) (rows_at T.rows moments)
      (all_moved (IsLawfulRow (length T.tenants) (length T.kinds)) (IsLawfulRow (length T.tenants) (length T.kinds)) (λ row m is early. record { moment = early; submitter = is.submitter; tenant = is.tenant; kind = is.kind; declared = is.declared; cost = is.cost })
      T.rows moments lawful.rows (each_in_time moments in_time));
  in_order = moments_rise (by_moment (rows_at T.rows moments)) (by_moment_rises (rows_at T.rows moments));
}

-- rows at moments in time come in time
pub own_in_time : (rows : List TraceRow) (moments : List ℕ) → too_late moments ≡ None → too_late (map moment_of (by_moment (rows_at rows moments))) ≡ None
own_in_time rows moments in_time =
    let early = all_moved (λ row. Unit {0}) (λ (row : TraceRow). IsInTime row.moment) (λ row m all late. late) rows moments (λ k d l. tt) (each_in_time moments in_time) in
    let sorted = all_by_moment (λ (row : TraceRow). IsInTime row.moment) (rows_at rows moments) early in
    all_in_time (map moment_of (by_moment (rows_at rows moments))) (λ k d l.
    let within : k < length (by_moment (rows_at rows moments)) = omega (arith, l, length-map (by_moment (rows_at rows moments)) moment_of) in
    rw (get_or-map moment_of (by_moment (rows_at rows moments)) k no_row d within) (sorted k no_row within))
