-- Rows by moment.
use Rattle.std.proofs.Common.{ℕ, zero, suc, ◌<◌, ◌≤◌, ◌≡◌, Bool, true, false, cond, List, [], ◌∷◌, filter, All, arith, refl, ap, sym, ◌∙◌, subst, inl, inr, eq-eqb, ne_eqb, leb-true, leb-false, eqb-true, ap₂, ◌⊎◌}
use Rattle.std.specs.Prelude.{◌==◌, nat_le}
use Rattle.std.specs.List.Sorted.{IsNonDecreasingBy, IsStableByKey, ties}
use Rattle.std.specs.Ordering.{is_lt, nat_cmp}
use Rattle.std.proofs.lemmas.Bool.{cases_lt, cases_eq}
use Rattle.std.proofs.lemmas.Bool.Decides.{nat_tests}
use Rattle.std.proofs.lemmas.List.Elements.{All-cons, All-head, All-tail, filter_agree}
use Rattle.program_model.specs.declared.trace.TraceRow.{TraceRow}
use Rattle.program_model.specs.Trace.{Trace}
use Rattle.tenant_table.specs.Names.{names_of, weights_of}
use Rattle.trace_reader.specs.Reading.{trace_in}
use Rattle.program_model.specs.Shaped.{rows_at, with_earlier_row, by_moment, at_moments}
use Rattle.trace_shape.proofs.Windows.{no_row}

-- when a row comes, and whether it comes at this moment
abbrev pub moment_of : TraceRow → ℕ
moment_of row = row.moment

abbrev pub comes_at : ℕ → TraceRow → Bool
comes_at n row = row.moment == n

-- the rows come at n or later
abbrev pub From : ℕ → List TraceRow → Type 0
From n rows = All (λ (row : TraceRow). n ≤ row.moment) rows

abbrev pub Rises : List TraceRow → Type 0
Rises rows = IsNonDecreasingBy moment_of rows

-- ---- rows that rise, by the first and the others
pub rises_cons : (row : TraceRow) (rows : List TraceRow) → From row.moment rows → Rises rows → Rises (row ∷ rows)
rises_cons row rows low rise zero zero d le l = omega arith
rises_cons row rows low rise zero (suc j) d le l = low j d (omega (arith, l))
rises_cons row rows low rise (suc i) zero d le l = absurd (omega (arith, le))
rises_cons row rows low rise (suc i) (suc j) d le l = rise i j d (omega (arith, le)) (omega (arith, l))

pub rises_from : (row : TraceRow) (rows : List TraceRow) → Rises (row ∷ rows) → From row.moment rows
rises_from row rows rise k d l = rise 0 (suc k) d (omega arith) (omega (arith, l))

pub rises_on : (row : TraceRow) (rows : List TraceRow) → Rises (row ∷ rows) → Rises rows
rises_on row rows rise i j d le l = rise (suc i) (suc j) d (omega (arith, le)) (omega (arith, l))

-- ---- rows that are put in order
pub all_with_earlier_row : (P : TraceRow → Type 0) (row : TraceRow) (rows : List TraceRow) → P row → All P rows → All P (with_earlier_row row rows)
all_with_earlier_row P row [] here all = All-cons P row [] here all
all_with_earlier_row P row (next ∷ rows) here all =
    either (nat_le row.moment next.moment) (All-cons P row (next ∷ rows) here all) (All-cons P next (with_earlier_row row rows) (All-head P next rows all) (all_with_earlier_row P row rows here (All-tail P next rows all)))
  where
    either : (b : Bool) → All P (row ∷ next ∷ rows) → All P (next ∷ with_earlier_row row rows) → All P (cond b (row ∷ next ∷ rows) (next ∷ with_earlier_row row rows))
    either true before after = before
    either false before after = after

pub all_by_moment : (P : TraceRow → Type 0) (rows : List TraceRow) → All P rows → All P (by_moment rows)
all_by_moment P [] all = all
all_by_moment P (row ∷ rows) all = all_with_earlier_row P row (by_moment rows) (All-head P row rows all) (all_by_moment P rows (All-tail P row rows all))

rises_with : (row : TraceRow) (rows : List TraceRow) → Rises rows → Rises (with_earlier_row row rows)
rises_with row [] rise = rises_cons row [] (λ k d l. absurd (omega (arith, l))) rise
rises_with row (next ∷ rows) rise = either (nat_le row.moment next.moment) refl (rises_with row rows (rises_on next rows rise))
  where
    either : (b : Bool) → nat_le row.moment next.moment ≡ b → Rises (with_earlier_row row rows) → Rises (cond b (row ∷ next ∷ rows) (next ∷ with_earlier_row row rows))
    either true is more =
        let low : row.moment ≤ next.moment = leb-true _ _ is in
        rises_cons row (next ∷ rows) (All-cons (λ (r : TraceRow). row.moment ≤ r.moment) next rows low (λ k d l. omega (arith, low, rises_from next rows rise k d l))) rise
    either false is more =
        let high : next.moment < row.moment = leb-false _ _ is in
        rises_cons next (with_earlier_row row rows) (all_with_earlier_row (λ (r : TraceRow). next.moment ≤ r.moment) row rows (omega (arith, high)) (rises_from next rows rise)) more

pub by_moment_rises : (rows : List TraceRow) → Rises (by_moment rows)
by_moment_rises [] = λ i j d le l. absurd (omega (arith, l))
by_moment_rises (row ∷ rows) = rises_with row (by_moment rows) (by_moment_rises rows)

-- ---- those of one moment stay in their order
kept_with : (n : ℕ) (row : TraceRow) (rows : List TraceRow) → filter (comes_at n) (with_earlier_row row rows) ≡ filter (comes_at n) (row ∷ rows)
kept_with n row [] = refl
kept_with n row (next ∷ rows) = either (nat_le row.moment next.moment) refl (kept_with n row rows)
  where
    first : (a b : Bool) (xs ys : List TraceRow) → (a ≡ true → b ≡ true → ⊥) → xs ≡ cond b (row ∷ ys) ys → cond a (next ∷ xs) xs ≡ cond b (row ∷ cond a (next ∷ ys) ys) (cond a (next ∷ ys) ys)
    first true true xs ys apart is = absurd (apart refl refl)
    first true false xs ys apart is = ap (λ zs. next ∷ zs) is
    first false true xs ys apart is = is
    first false false xs ys apart is = is

    either : (b : Bool) → nat_le row.moment next.moment ≡ b → filter (comes_at n) (with_earlier_row row rows) ≡ filter (comes_at n) (row ∷ rows)
        → filter (comes_at n) (cond b (row ∷ next ∷ rows) (next ∷ with_earlier_row row rows)) ≡ filter (comes_at n) (row ∷ next ∷ rows)
    either true is more = refl
    either false is more = first (comes_at n next) (comes_at n row) (filter (comes_at n) (with_earlier_row row rows)) (filter (comes_at n) rows)
        (λ one other. let high : next.moment < row.moment = leb-false _ _ is in omega (arith, high, eqb-true _ _ one, eqb-true _ _ other)) more

pub by_moment_keeps : (n : ℕ) (rows : List TraceRow) → filter (comes_at n) (by_moment rows) ≡ filter (comes_at n) rows
by_moment_keeps n [] = refl
by_moment_keeps n (row ∷ rows) = kept_with n row (by_moment rows) ∙ ap (λ xs. cond (comes_at n row) (row ∷ xs) xs) (by_moment_keeps n rows)

-- ---- rows that rise are known by those of each moment
none_later : (n : ℕ) (rows : List TraceRow) → From (suc n) rows → filter (comes_at n) rows ≡ []
none_later n [] low = refl
none_later n (row ∷ rows) low =
    let other : comes_at n row ≡ false = ne_eqb row.moment n (λ same. omega (arith, same, All-head (λ (r : TraceRow). suc n ≤ r.moment) row rows low)) in
    rw other (none_later n rows (All-tail (λ (r : TraceRow). suc n ≤ r.moment) row rows low))

at_own : (row : TraceRow) (rows : List TraceRow) → filter (comes_at row.moment) (row ∷ rows) ≡ row ∷ filter (comes_at row.moment) rows
at_own row rows = rw (eq-eqb row.moment row.moment refl) refl

-- of two lists that rise, and have the same rows at each moment, neither begins before the other
not_before : (x y : TraceRow) (xs ys : List TraceRow) → Rises (y ∷ ys) → filter (comes_at x.moment) (x ∷ xs) ≡ filter (comes_at x.moment) (y ∷ ys) → y.moment ≤ x.moment
not_before x y xs ys rise same = elim (cases_lt x.moment y.moment) [
  | inl before ↦
      let none : filter (comes_at x.moment) (y ∷ ys) ≡ [] = none_later x.moment (y ∷ ys) (All-cons (λ (r : TraceRow). suc x.moment ≤ r.moment) y ys (omega (arith, before)) (λ k d l. omega (arith, before, rises_from y ys rise k d l))) in
      let some : x ∷ filter (comes_at x.moment) xs ≡ [] = sym (at_own x xs) ∙ same ∙ none in
      absurd (cc)
  | inr le ↦ le
]

head_of : (x y : TraceRow) (xs ys : List TraceRow) → x ∷ xs ≡ y ∷ ys → (x ≡ y) × (xs ≡ ys)
head_of x y xs ys e = (cc, cc)

pub same_rows : (xs ys : List TraceRow) → Rises xs → Rises ys → ((n : ℕ) → filter (comes_at n) xs ≡ filter (comes_at n) ys) → xs ≡ ys
same_rows [] [] up vp same = refl
same_rows [] (y ∷ ys) up vp same = let none : [] ≡ y ∷ filter (comes_at y.moment) ys = same y.moment ∙ at_own y ys in absurd (cc)
same_rows (x ∷ xs) [] up vp same = let none : x ∷ filter (comes_at x.moment) xs ≡ [] = sym (at_own x xs) ∙ same x.moment in absurd (cc)
same_rows (x ∷ xs) (y ∷ ys) up vp same =
    let together : x.moment ≡ y.moment = omega (arith, not_before x y xs ys vp (same x.moment), not_before y x ys xs up (sym (same y.moment))) in
    let own : x ∷ filter (comes_at x.moment) xs ≡ y ∷ filter (comes_at x.moment) ys = sym (at_own x xs) ∙ same x.moment ∙ subst (λ n. filter (comes_at n) (y ∷ ys) ≡ y ∷ filter (comes_at n) ys) (sym together) (at_own y ys) in
    let both = head_of x y _ _ own in
    ap₂ (λ a b. a ∷ b) both.0 (same_rows xs ys (rises_on x xs up) (rises_on y ys vp) (λ n. rest n both.1))
  where
    rest : (n : ℕ) → filter (comes_at x.moment) xs ≡ filter (comes_at x.moment) ys → filter (comes_at n) xs ≡ filter (comes_at n) ys
    rest n own = elim (cases_eq x.moment n) [
      | inl here ↦ subst (λ m. filter (comes_at m) xs ≡ filter (comes_at m) ys) here own
      | inr other ↦
          let together : x.moment ≡ y.moment = omega (arith, not_before x y xs ys vp (same x.moment), not_before y x ys xs up (sym (same y.moment))) in
          let skips_x : comes_at n x ≡ false = ne_eqb x.moment n other in
          let skips_y : comes_at n y ≡ false = ne_eqb y.moment n (λ here. other (together ∙ here)) in
          let both : cond (comes_at n x) (x ∷ filter (comes_at n) xs) (filter (comes_at n) xs) ≡ cond (comes_at n y) (y ∷ filter (comes_at n) ys) (filter (comes_at n) ys) = same n in
          rw (skips_x, skips_y) at both
    ]

-- rows that rise stay as they are
pub risen_stay : (rows : List TraceRow) → Rises rows → by_moment rows ≡ rows
risen_stay rows rise = same_rows (by_moment rows) rows (by_moment_rises rows) rise (λ n. by_moment_keeps n rows)

-- the rows after a stable sort by moment
tie_together : (x y : TraceRow) → ties (λ (a b : TraceRow). is_lt (nat_cmp a.moment b.moment)) x y ≡ comes_at x.moment y
tie_together x y = go (cases_lt x.moment y.moment) (cases_lt y.moment x.moment)
  where
    go : (x.moment < y.moment) ⊎ (y.moment ≤ x.moment) → (y.moment < x.moment) ⊎ (x.moment ≤ y.moment) → ties (λ (a b : TraceRow). is_lt (nat_cmp a.moment b.moment)) x y ≡ comes_at x.moment y
    go one other = grind (arith, nat_tests)

pub sorted_rows : (rows sorted : List TraceRow) → Rises sorted → IsStableByKey moment_of nat_cmp rows sorted → sorted ≡ by_moment rows
sorted_rows rows sorted rise stable = same_rows sorted (by_moment rows) rise (by_moment_rises rows) (λ n.
    let at_n : TraceRow = record no_row { moment = n } in
    sym (filter_agree _ _ (tie_together at_n) sorted) ∙ stable at_n ∙ filter_agree _ _ (tie_together at_n) rows ∙ sym (by_moment_keeps n rows))

-- the trace of these parts
pub trace_of_parts : (T : Trace) (moments : List ℕ) (tenants : List (List ℕ × ℕ)) (kinds : List (List ℕ)) (rows : List TraceRow) → names_of tenants ≡ T.tenants → weights_of tenants ≡ T.weights → kinds ≡ T.kinds
    → rows ≡ by_moment (rows_at T.rows moments) → trace_in tenants kinds rows ≡ at_moments T moments
trace_of_parts T moments tenants kinds rows names weights kinds_are rows_are =
    ap₂ (λ (a : List (List ℕ)) (b : List ℕ). let t : Trace = record { tenants = a; weights = b; kinds = kinds; rows = rows } in t) names weights
    ∙ ap₂ (λ (a : List (List ℕ)) (b : List TraceRow). let t : Trace = record { tenants = T.tenants; weights = T.weights; kinds = a; rows = b } in t) kinds_are rows_are
