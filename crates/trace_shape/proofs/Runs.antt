-- The moments of the rows of a trace, row by row.
use Rattle.std.proofs.Common.{ℕ, ◌+◌, ◌*◌, ◌<◌, ◌≤◌, ◌≡◌, nat_lt, List, [], ◌∷◌, ◌++◌, length, get_or, set, drop, replicate, All, None, Some, arith, refl, ap, sym, ◌∙◌, subst, inl, inr, append_assoc, length-append, ltb-false, lt-ltb, le-ltb}
use Rattle.std.specs.Prelude.{slice_index}
use Rattle.std.specs.List.{position_or_len}
use Rattle.std.proofs.lemmas.Bool.{cases_lt}
use Rattle.std.proofs.lemmas.List.{drop_more, drop_all, append-nil, length-set, length-replicate, get_or-replicate, get_or_at, get_or_append_left, get_or_read}
use Rattle.std.proofs.lemmas.List.Elements.{All-set, All-push, All-replicate}
use Rattle.std.proofs.lemmas.List.Sums.{position_or_len_is}
use Rattle.std.proofs.lemmas.Nat.{mul-le}
use Rattle.std.proofs.lemmas.Option.{slice_get_within, get_or_from_slice_get}
use Rattle.fq_model.specs.declared.limits.TheConstants.{GREATEST_TRACE_MOMENT}
use Rattle.program_model.specs.declared.trace.TraceRow.{TraceRow}
use Rattle.program_model.specs.Conforms.{gain, IsLeastConforming, too_big, too_late}
use Rattle.program_model.specs.Trace.{Trace}
use Rattle.program_model.specs.TraceText.{IsLawfulTrace}
use Rattle.fq_model.specs.Limits.{IsTextWeight}
use Rattle.trace_shape.specs.declared.bucket.Bucket.{Bucket}
use Rattle.trace_shape.specs.Buckets.{full, taken, IsBucket}
use Rattle.trace_shape.specs.Reasons.{IsFirstLate}
use Rattle.trace_shape.proofs.Sizes.{none_passes, none_found, none_too_big}
use Rattle.trace_shape.proofs.Windows.{no_row, Comes, Affords}
use Rattle.trace_shape.proofs.Waiting.{bucket_of, taken_by, moments_from, IsAffordable, conform, none_earlier, full_affords}

-- ---- which rows are served
pub all_served : (T : Trace) (rate burst : ℕ) → IsLawfulTrace T → 1 ≤ rate → too_big T burst ≡ None → All (IsAffordable T rate burst (length T.tenants)) T.rows
all_served T rate burst lawful some small k d l =
    let row = get_or T.rows k d in
    let tenant : row.tenant < length T.tenants = (lawful.rows k d l).tenant in
    let weight : IsTextWeight (slice_index T.weights row.tenant) = lawful.weights row.tenant 0 (omega (arith, tenant, lawful.weighed)) in
    record {
      tenant = tenant;
      gains = omega (arith, mul-le 1 1 rate (slice_index T.weights row.tenant) some weight.0);
      fits = ltb-false burst row.declared (none_passes (λ (r : TraceRow). nat_lt burst r.declared) T.rows k d small l);
    }

pub row_served : (T : Trace) (rate burst : ℕ) (rows : List TraceRow) (r : ℕ) → IsLawfulTrace T → 1 ≤ rate → too_big T burst ≡ None → rows ≡ T.rows → r < length rows → IsAffordable T rate burst (length T.tenants) (get_or rows r no_row)
row_served T rate burst rows r lawful some small rows_are l =
    subst (λ xs. IsAffordable T rate burst (length T.tenants) (get_or xs r no_row)) (sym rows_are) (all_served T rate burst lawful some small r no_row (omega (arith, l, ap length rows_are)))

-- buckets that are all full
abbrev pub full_buckets : Trace → ℕ → List Bucket
full_buckets T burst = replicate (length T.tenants) (full (1000 * burst))

-- the moments of the rows, from buckets that are full at first
abbrev pub told_moments : Trace → ℕ → ℕ → List ℕ
told_moments T rate burst = moments_from T rate burst (full_buckets T burst) T.rows

all_afford : (T : Trace) (rate burst : ℕ) (others : List ℕ) → All (IsAffordable T rate burst (length T.tenants)) T.rows → ((t : ℕ) → Affords (gain T rate t) t 0 (1000 * burst) 0 T.rows others)
    → (t : ℕ) → Affords (gain T rate t) t 0 (bucket_of (full_buckets T burst) t).level (bucket_of (full_buckets T burst) t).moment T.rows others
all_afford T rate burst others served afford t = elim (cases_lt t (length T.tenants)) [
  | inl there ↦ subst (λ (b : Bucket). Affords (gain T rate t) t 0 b.level b.moment T.rows others) (sym (get_or-replicate (length T.tenants) t (full (1000 * burst)) _ there)) (afford t)
  | inr past ↦ record { not_before = λ k n c. absurd (gone past k n c); enough = λ k n c. absurd (gone past k n c) }
]
  where
    gone : length T.tenants ≤ t → (k n : ℕ) → Comes t T.rows others k n → ⊥
    gone past k n c =
        let within : k < length T.rows = slice_get_within T.rows k c.row c.row_at in
        let here : get_or T.rows k no_row ≡ c.row = get_or_from_slice_get T.rows k c.row no_row c.row_at in
        omega (arith, past, (served k no_row within).tenant, ap (λ (r : TraceRow). r.tenant) here, c.tenant)

pub told_are_least : (T : Trace) (rate burst : ℕ) → All (IsAffordable T rate burst (length T.tenants)) T.rows → IsLeastConforming T rate burst (told_moments T rate burst)
told_are_least T rate burst served =
    let as_many : All (IsAffordable T rate burst (length (full_buckets T burst))) T.rows = subst (λ n. All (IsAffordable T rate burst n) T.rows) (sym (length-replicate (length T.tenants) (full (1000 * burst)))) served in
    record {
      conforms = conform T rate burst (full_buckets T burst) T.rows as_many;
      least = λ others k m n h is that. none_earlier T rate burst (full_buckets T burst) T.rows others as_many h
          (all_afford T rate burst others served (λ t. full_affords T rate burst t T.rows others h)) k m n is that;
    }

-- ---- the first that is too late
abbrev pub IsInTime : ℕ → Type 0
IsInTime m = m ≤ GREATEST_TRACE_MOMENT

pub all_in_time : (moments : List ℕ) → All IsInTime moments → too_late moments ≡ None
all_in_time moments early = none_found (nat_lt GREATEST_TRACE_MOMENT) moments 0 (λ k l. le-ltb _ _ (early k 0 l))

first_late : (moments rest : List ℕ) (m : ℕ) → All IsInTime moments → GREATEST_TRACE_MOMENT < m → too_late (moments ++ m ∷ rest) ≡ Some (length moments)
first_late moments rest m early late =
    let all = moments ++ m ∷ rest in
    let longer : length moments < length all = omega (arith, length-append moments (m ∷ rest)) in
    let place : position_or_len (nat_lt GREATEST_TRACE_MOMENT) all ≡ length moments = position_or_len_is (nat_lt GREATEST_TRACE_MOMENT) all (length moments) 0 (omega (arith, longer))
    (λ k l. rw (get_or_append_left moments (m ∷ rest) 0 k l) (le-ltb _ _ (early k 0 l)))
    (λ l. rw (get_or_at moments m rest 0 (length moments) refl) (lt-ltb _ _ late)) in
    rw (place, lt-ltb (length moments) (length all) longer) refl

-- ---- row by row

-- these are the moments of the rows before r, and the buckets are as the first r rows left them
pub record Tells (T : Trace) (rate burst : ℕ) (buckets : List Bucket) (moments : List ℕ) (r : ℕ) : Type 0 where
  pub one_each : length buckets ≡ length T.tenants
  pub in_range : All (IsBucket (1000 * burst)) buckets
  pub so_far : length moments ≡ r
  pub in_time : All IsInTime moments
  pub rest : moments ++ moments_from T rate burst buckets (drop r T.rows) ≡ told_moments T rate burst

pub none_told : (T : Trace) (rate burst : ℕ) (buckets : List Bucket) (moments : List ℕ) → buckets ≡ full_buckets T burst → moments ≡ [] → Tells T rate burst buckets moments 0
none_told T rate burst buckets moments at_first none = record {
  one_each = ap length at_first ∙ length-replicate (length T.tenants) (full (1000 * burst));
  in_range = subst (All (IsBucket (1000 * burst))) (sym at_first) (All-replicate (IsBucket (1000 * burst)) (length T.tenants) (full (1000 * burst)) (record { level = omega arith; moment = omega arith }));
  so_far = ap length none;
  in_time = subst (All IsInTime) (sym none) (λ k d l. absurd (omega (arith, l)));
  rest = ap (λ ms. ms ++ moments_from T rate burst buckets T.rows) none ∙ ap (λ bs. moments_from T rate burst bs T.rows) at_first;
}

-- a bucket is never above its capacity
low_level : (gain capacity : ℕ) (bucket : Bucket) (row : TraceRow) → (taken gain capacity bucket row).level ≤ capacity
unfolding taken
low_level gain capacity bucket row = omega arith

-- row r comes next, and its bucket is `bucket` once it has taken its tokens
pub record IsNext (T : Trace) (rate burst : ℕ) (buckets : List Bucket) (moments : List ℕ) (r : ℕ) (row : TraceRow) (bucket : Bucket) : Type 0 where
  pub tells : Tells T rate burst buckets moments r
  pub within : r < length T.rows
  pub row_is : row ≡ get_or T.rows r no_row
  pub bucket_is : bucket ≡ taken_by T rate burst buckets row

next_moments : (T : Trace) (rate burst : ℕ) (buckets : List Bucket) (moments : List ℕ) (r : ℕ) (row : TraceRow) (bucket : Bucket) → IsNext T rate burst buckets moments r row bucket
    → moments_from T rate burst buckets (drop r T.rows) ≡ bucket.moment ∷ moments_from T rate burst (set buckets row.tenant bucket) (drop (r + 1) T.rows)
unfolding moments_from
next_moments T rate burst buckets moments r row bucket h =
    subst (λ (b : Bucket). moments_from T rate burst buckets (drop r T.rows) ≡ b.moment ∷ moments_from T rate burst (set buckets row.tenant b) (drop (r + 1) T.rows)) (sym h.bucket_is)
    (subst (λ (x : TraceRow). moments_from T rate burst buckets (drop r T.rows) ≡ moments_from T rate burst buckets (x ∷ drop (r + 1) T.rows)) (sym h.row_is) (ap (moments_from T rate burst buckets) (drop_more T.rows r no_row h.within)))

pub told_more : (T : Trace) (rate burst : ℕ) (buckets : List Bucket) (moments : List ℕ) (r : ℕ) (row : TraceRow) (bucket : Bucket) (more : List ℕ) → IsNext T rate burst buckets moments r row bucket
    → bucket.moment ≤ GREATEST_TRACE_MOMENT → more ≡ moments ++ bucket.moment ∷ [] → Tells T rate burst (set buckets row.tenant bucket) more (r + 1)
told_more T rate burst buckets moments r row bucket more h early pushed = subst (λ ms. Tells T rate burst (set buckets row.tenant bucket) ms (r + 1)) (sym pushed) (record {
  one_each = length-set buckets row.tenant bucket ∙ h.tells.one_each;
  in_range = All-set (IsBucket (1000 * burst)) buckets row.tenant bucket (record {
    level = subst (λ (b : Bucket). b.level ≤ 1000 * burst) (sym h.bucket_is) (low_level _ _ _ _);
    moment = early;
  }) h.tells.in_range;
  so_far = length-append moments (bucket.moment ∷ []) ∙ ap (λ n. n + 1) h.tells.so_far;
  in_time = All-push IsInTime moments bucket.moment h.tells.in_time early;
  rest = append_assoc moments (bucket.moment ∷ []) _ ∙ ap (λ ms. moments ++ ms) (sym (next_moments T rate burst buckets moments r row bucket h)) ∙ h.tells.rest;
})

-- where the next one is too late it is the first
pub told_late : (T : Trace) (rate burst : ℕ) (buckets : List Bucket) (moments : List ℕ) (r : ℕ) (row : TraceRow) (bucket : Bucket) → IsNext T rate burst buckets moments r row bucket
    → All (IsAffordable T rate burst (length T.tenants)) T.rows → GREATEST_TRACE_MOMENT < bucket.moment → IsFirstLate T rate burst r
told_late T rate burst buckets moments r row bucket h served late = record {
  none_big = none_too_big T rate burst (told_moments T rate burst) (told_are_least T rate burst served).conforms;
  moments = told_moments T rate burst;
  least = told_are_least T rate burst served;
  late = subst (λ ms. too_late ms ≡ Some r) h.tells.rest (rw (next_moments T rate burst buckets moments r row bucket h)
      (first_late moments _ _ h.tells.in_time late ∙ ap Some h.tells.so_far));
}

-- the bucket after the row, by the weight and the bucket of the row's tenant
pub taken_from : (T : Trace) (rate burst : ℕ) (buckets : List Bucket) (row : TraceRow) (weights : List ℕ) (weight : ℕ) (before after : Bucket) → row.tenant < length buckets → weights ≡ T.weights
    → weight ≡ slice_index weights row.tenant → before ≡ get_or buckets row.tenant before → after ≡ taken (rate * weight) (1000 * burst) before row → after ≡ taken_by T rate burst buckets row
taken_from T rate burst buckets row weights weight before after there weights_are weight_is before_is after_is =
    let own : before ≡ bucket_of buckets row.tenant = get_or_read buckets row.tenant before there before_is _ in
    let heavy : weight ≡ slice_index T.weights row.tenant = weight_is ∙ ap (λ ws. slice_index ws row.tenant) weights_are in
    after_is ∙ ap (λ w. taken (rate * w) (1000 * burst) before row) heavy ∙ ap (λ b. taken (gain T rate row.tenant) (1000 * burst) b row) own

-- the moments of all rows are those from full buckets
pub all_told : (T : Trace) (rate burst : ℕ) (buckets : List Bucket) (moments : List ℕ) (r : ℕ) → Tells T rate burst buckets moments r → length T.rows ≤ r → moments ≡ told_moments T rate burst
unfolding moments_from
all_told T rate burst buckets moments r h past =
    let none : drop r T.rows ≡ [] = drop_all r T.rows past in
    sym (append-nil moments) ∙ ap (λ rows. moments ++ moments_from T rate burst buckets rows) (sym none) ∙ h.rest
