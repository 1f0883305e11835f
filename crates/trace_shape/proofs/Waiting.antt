-- The moments that buckets give one by one are the least that conform.
use Rattle.std.proofs.Common.{ℕ, zero, suc, ◌+◌, ◌-◌, ◌*◌, ◌<◌, ◌≤◌, ◌≡◌, ◌≢◌, List, [], ◌∷◌, length, get_or, set, All, Some, arith, refl, sym, subst, inl, inr}
use Rattle.std.specs.Prelude.{slice_get}
use Rattle.std.proofs.lemmas.Bool.{cases_eq}
use Rattle.std.proofs.lemmas.List.{get_or-set_same, get_or-set_other, length-set}
use Rattle.std.proofs.lemmas.List.Elements.{All-head, All-tail}
use Rattle.std.proofs.lemmas.Option.{same_Some, none-some}
use Rattle.program_model.specs.declared.trace.TraceRow.{TraceRow}
use Rattle.program_model.specs.Conforms.{gain, Conforms}
use Rattle.program_model.specs.Trace.{Trace}
use Rattle.trace_shape.specs.declared.bucket.Bucket.{Bucket}
use Rattle.trace_shape.specs.Buckets.{taken}
use Rattle.trace_shape.proofs.Filling.{gained_between, gained_more, Takes, takes}
use Rattle.trace_shape.proofs.Windows.{with_rows, Affords, nothing_affords, tail_same, tail_other, cons_same, cons_other, head_late, head_enough, opens, closes, window_of, none_conform}

-- the bucket of tenant t
abbrev pub bucket_of : List Bucket → ℕ → Bucket
bucket_of buckets t = get_or buckets t (record { level = 0; moment = 0 })

-- the bucket of its tenant once the row has taken its tokens
abbrev pub taken_by : Trace → ℕ → ℕ → List Bucket → TraceRow → Bucket
taken_by T rate burst buckets row = taken (gain T rate row.tenant) (1000 * burst) (bucket_of buckets row.tenant) row

-- the buckets then
abbrev pub buckets_after : Trace → ℕ → ℕ → List Bucket → TraceRow → List Bucket
buckets_after T rate burst buckets row = set buckets row.tenant (taken_by T rate burst buckets row)

-- the moments of the rows, from buckets as they are at first
unfoldable pub moments_from : Trace → ℕ → ℕ → List Bucket → List TraceRow → List ℕ
moments_from T rate burst buckets [] = []
moments_from T rate burst buckets (row ∷ rows) =
    (taken_by T rate burst buckets row).moment ∷ moments_from T rate burst (buckets_after T rate burst buckets row) rows

-- a row of one of the first tenants, which gains tokens and whose bucket can hold enough of them
pub record IsAffordable (T : Trace) (rate burst tenants : ℕ) (row : TraceRow) : Type 0 where
  pub tenant : row.tenant < tenants
  pub gains : 1 ≤ gain T rate row.tenant
  pub fits : row.declared ≤ burst

-- the row is of tenant t, and takes its tokens from the bucket of t
record IsStep (T : Trace) (rate burst t : ℕ) (buckets : List Bucket) (row : TraceRow) : Type 0 where
  after_is : bucket_of (buckets_after T rate burst buckets row) t ≡ taken_by T rate burst buckets row
  takes : Takes (gain T rate t) (1000 * burst) (bucket_of buckets t) row (taken_by T rate burst buckets row)

step_of : (T : Trace) (rate burst t : ℕ) (buckets : List Bucket) (row : TraceRow) → IsAffordable T rate burst (length buckets) row → row.tenant ≡ t → IsStep T rate burst t buckets row
step_of T rate burst t buckets row served same = subst (λ z. IsStep T rate burst z buckets row) same (record {
  after_is = get_or-set_same buckets row.tenant (taken_by T rate burst buckets row) _ served.tenant;
  takes = takes (gain T rate row.tenant) (1000 * burst) (bucket_of buckets row.tenant) row served.gains;
})

other_stays : (T : Trace) (rate burst t : ℕ) (buckets : List Bucket) (row : TraceRow) → row.tenant ≢ t → bucket_of (buckets_after T rate burst buckets row) t ≡ bucket_of buckets t
other_stays T rate burst t buckets row other = get_or-set_other buckets row.tenant t _ _ (λ same. other (sym same))

served_on : (T : Trace) (rate burst : ℕ) (buckets : List Bucket) (row : TraceRow) (rows : List TraceRow) → All (IsAffordable T rate burst (length buckets)) (row ∷ rows)
    → All (IsAffordable T rate burst (length (buckets_after T rate burst buckets row))) rows
served_on T rate burst buckets row rows served = subst (λ n. All (IsAffordable T rate burst n) rows) (sym (length-set buckets row.tenant (taken_by T rate burst buckets row))) (All-tail (IsAffordable T rate burst (length buckets)) row rows served)

-- ---- they conform

-- the tokens that a row took, and those that it left, against the tokens since an earlier moment
after_taking : (g capacity before level a : ℕ) (b : Bucket) (row : TraceRow) (after : Bucket) → Takes g capacity b row after → a ≤ b.moment → b.level + before ≤ level + g * (b.moment - a)
    → (before + 1000 * row.declared ≤ level + g * (after.moment - a)) × (after.level + (before + 1000 * row.declared) ≤ level + g * (after.moment - a))
after_taking g capacity before level a b row after h late there =
    let split = gained_between g a b.moment after.moment late h.in_order in
    (omega (arith, split, there, h.enough), omega (arith, split, there, h.enough, h.level))

pub affords : (T : Trace) (rate burst t before level a : ℕ) (buckets : List Bucket) (rows : List TraceRow) → All (IsAffordable T rate burst (length buckets)) rows
    → a ≤ (bucket_of buckets t).moment → (bucket_of buckets t).level + before ≤ level + gain T rate t * ((bucket_of buckets t).moment - a)
    → Affords (gain T rate t) t before level a rows (moments_from T rate burst buckets rows)
unfolding moments_from
affords T rate burst t before level a buckets [] served late there = nothing_affords (gain T rate t) t before level a []
affords T rate burst t before level a buckets (row ∷ rows) served late there = elim (cases_eq row.tenant t) [
  | inl same ↦
      let after = taken_by T rate burst buckets row in
      let step = step_of T rate burst t buckets row (All-head (IsAffordable T rate burst (length buckets)) row rows served) same in
      let left = after_taking (gain T rate t) (1000 * burst) before level a (bucket_of buckets t) row after step.takes late there in
      let in_order : a ≤ after.moment = omega (arith, late, step.takes.in_order) in
      cons_same (gain T rate t) t before level a row rows _ _ same in_order left.0
      (affords T rate burst t (before + 1000 * row.declared) level a (buckets_after T rate burst buckets row) rows (served_on T rate burst buckets row rows served)
      (subst (λ (b : Bucket). a ≤ b.moment) (sym step.after_is) in_order)
      (subst (λ (b : Bucket). b.level + (before + 1000 * row.declared) ≤ level + gain T rate t * (b.moment - a)) (sym step.after_is) left.1))
  | inr other ↦
      let stays = other_stays T rate burst t buckets row other in
      cons_other (gain T rate t) t before level a row rows _ _ other
      (affords T rate burst t before level a (buckets_after T rate burst buckets row) rows (served_on T rate burst buckets row rows served)
      (subst (λ (b : Bucket). a ≤ b.moment) (sym stays) late)
      (subst (λ (b : Bucket). b.level + before ≤ level + gain T rate t * (b.moment - a)) (sym stays) there))
]

-- a bucket after a row, with the tokens that the row took, holds no more than a full bucket
within_full : (g capacity : ℕ) (b : Bucket) (row : TraceRow) (after : Bucket) → Takes g capacity b row after → 1000 * row.declared ≤ capacity → after.level + 1000 * row.declared ≤ capacity + g * (after.moment - after.moment)
within_full g capacity b row after h fits = omega (arith, h.level, fits)

pub conform : (T : Trace) (rate burst : ℕ) (buckets : List Bucket) (rows : List TraceRow) → All (IsAffordable T rate burst (length buckets)) rows
    → Conforms (with_rows T rows) rate burst (moments_from T rate burst buckets rows)
unfolding moments_from
conform T rate burst buckets [] served = none_conform T rate burst
conform T rate burst buckets (row ∷ rows) served =
    let after = taken_by T rate burst buckets row in
    let here = All-head (IsAffordable T rate burst (length buckets)) row rows served in
    let step = step_of T rate burst row.tenant buckets row here refl in
    let on = served_on T rate burst buckets row rows served in
    let fits : 1000 * row.declared ≤ 1000 * burst = omega (arith, here.fits) in
    let full = within_full (gain T rate row.tenant) (1000 * burst) (bucket_of buckets row.tenant) row after step.takes fits in
    closes T rate burst row rows after.moment _ (record {
      not_early = step.takes.not_early;
      fits = fits;
      window = affords T rate burst row.tenant (1000 * row.declared) (1000 * burst) after.moment (buckets_after T rate burst buckets row) rows on
          (subst (λ (b : Bucket). after.moment ≤ b.moment) (sym step.after_is) (omega arith))
          (subst (λ (b : Bucket). b.level + 1000 * row.declared ≤ 1000 * burst + gain T rate row.tenant * (b.moment - after.moment)) (sym step.after_is) full);
      rest = conform T rate burst (buckets_after T rate burst buckets row) rows on;
    })

-- ---- none that conform come earlier

-- the later rows that a bucket and a full one afford with a row's tokens, the bucket affords after that row
left_over : (g capacity t o : ℕ) (b : Bucket) (row : TraceRow) (after : Bucket) (rows : List TraceRow) (moments : List ℕ) → Takes g capacity b row after → after.moment ≤ o
    → Affords g t (1000 * row.declared) b.level b.moment rows moments → Affords g t (1000 * row.declared) capacity o rows moments → Affords g t 0 after.level after.moment rows moments
left_over g capacity t o b row after rows moments h early from_bucket from_full = record {
  not_before = λ k n c. omega (arith, early, from_full.not_before k n c);
  enough = λ k n c.
      let late : after.moment ≤ n = omega (arith, early, from_full.not_before k n c) in
      omega (arith, gained_between g b.moment after.moment n h.in_order late, gained_more g after.moment o n early, from_bucket.enough k n c, from_full.enough k n c, h.level);
}

nothing_before : {g t before level a : ℕ} {rows : List TraceRow} {moments : List ℕ} → Affords g t (0 + before) level a rows moments → Affords g t before level a rows moments
nothing_before h = record { not_before = h.not_before; enough = λ k n c. omega (arith, h.enough k n c) }

pub none_earlier : (T : Trace) (rate burst : ℕ) (buckets : List Bucket) (rows : List TraceRow) (others : List ℕ) → All (IsAffordable T rate burst (length buckets)) rows
    → Conforms (with_rows T rows) rate burst others
    → ((t : ℕ) → Affords (gain T rate t) t 0 (bucket_of buckets t).level (bucket_of buckets t).moment rows others)
    → (k m n : ℕ) → slice_get (moments_from T rate burst buckets rows) k ≡ Some m → slice_get others k ≡ Some n → m ≤ n
unfolding moments_from
none_earlier T rate burst buckets [] others served h afford k m n is that = absurd (none-some m is)
none_earlier T rate burst buckets (row ∷ rows) [] served h afford k m n is that = absurd (none-some n that)
none_earlier T rate burst buckets (row ∷ rows) (o ∷ others) served h afford k m n is that =
    let after = taken_by T rate burst buckets row in
    let step = step_of T rate burst row.tenant buckets row (All-head (IsAffordable T rate burst (length buckets)) row rows served) refl in
    let first = opens T rate burst row rows o others h in
    let early : after.moment ≤ o = step.takes.least o first.not_early
    (head_late _ row.tenant 0 _ _ row rows o others refl (afford row.tenant))
    (omega (arith, head_enough _ row.tenant 0 _ _ row rows o others refl (afford row.tenant))) in
    here after.moment o _ others k is that early
    (λ j js jo. none_earlier T rate burst (buckets_after T rate burst buckets row) rows others (served_on T rate burst buckets row rows served) first.rest
    (λ t. elim (cases_eq row.tenant t) [
      | inl same ↦
          let there = step_of T rate burst t buckets row (All-head (IsAffordable T rate burst (length buckets)) row rows served) same in
          subst (λ (b : Bucket). Affords (gain T rate t) t 0 b.level b.moment rows others) (sym there.after_is)
          (left_over (gain T rate t) (1000 * burst) t o (bucket_of buckets t) row after rows others there.takes early
          (nothing_before (tail_same (gain T rate t) t 0 _ _ row rows o others same (afford t)))
          (window_of T rate burst t row rows o others same first))
      | inr other ↦
          subst (λ (b : Bucket). Affords (gain T rate t) t 0 b.level b.moment rows others) (sym (other_stays T rate burst t buckets row other))
          (tail_other (gain T rate t) t 0 _ _ row rows o others other (afford t))
    ]) j m n js jo)
  where
    here : (x y : ℕ) (xs ys : List ℕ) (k : ℕ) → slice_get (x ∷ xs) k ≡ Some m → slice_get (y ∷ ys) k ≡ Some n → x ≤ y → ((j : ℕ) → slice_get xs j ≡ Some m → slice_get ys j ≡ Some n → m ≤ n) → m ≤ n
    here x y xs ys zero is that le rest = omega (arith, same_Some _ m is, same_Some _ n that, le)
    here x y xs ys (suc j) is that le rest = rest j is that

-- a full bucket at the beginning of time affords each tenant moments that conform
pub full_affords : (T : Trace) (rate burst t : ℕ) (rows : List TraceRow) (others : List ℕ) → Conforms (with_rows T rows) rate burst others
    → Affords (gain T rate t) t 0 (1000 * burst) 0 rows others
full_affords T rate burst t [] others h = nothing_affords (gain T rate t) t 0 (1000 * burst) 0 others
full_affords T rate burst t (row ∷ rows) [] h = absurd (omega (arith, h.one_each))
full_affords T rate burst t (row ∷ rows) (o ∷ others) h =
    let first = opens T rate burst row rows o others h in
    elim (cases_eq row.tenant t) [
      | inl same ↦
          let window = window_of T rate burst t row rows o others same first in
          cons_same (gain T rate t) t 0 (1000 * burst) 0 row rows o others same (omega arith) (omega (arith, first.fits))
          (record {
            not_before = λ k n c. omega arith;
            enough = λ k n c. omega (arith, window.enough k n c, gained_more (gain T rate t) 0 o n (omega arith));
          })
      | inr other ↦ cons_other (gain T rate t) t 0 (1000 * burst) 0 row rows o others other (full_affords T rate burst t rows others first.rest)
    ]
