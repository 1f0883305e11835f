-- A shaped trace conforms as it is.
use Rattle.std.proofs.Common.{ℕ, ◌+◌, ◌*◌, ◌<◌, ◌≡◌, ◌≢◌, Bool, true, false, cond, List, [], ◌∷◌, length, get_or, map, filter, All, arith, refl, ap, sym, ◌∙◌, subst, inl, inr, eq-eqb, ne_eqb, eqb-true, option_map}
use Rattle.std.specs.Prelude.{◌==◌}
use Rattle.std.proofs.lemmas.Bool.{cases_eq}
use Rattle.std.proofs.lemmas.List.{length-map}
use Rattle.std.proofs.lemmas.List.Elements.{All-head, All-tail, All-weaker, filter_passes}
use Rattle.std.proofs.lemmas.List.Kept.{IsNonDecreasingBy-filter}
use Rattle.std.proofs.lemmas.Option.{slice_get-get_or, slice_get-map, slice_get_within, same_Some}
use Rattle.program_model.specs.declared.trace.TraceRow.{TraceRow}
use Rattle.program_model.specs.Conforms.{gain, Conforms, IsLeastConforming}
use Rattle.program_model.specs.Trace.{Trace}
use Rattle.program_model.specs.Shaped.{rows_at, by_moment, at_moments}
use Rattle.trace_shape.proofs.Order.{moment_of, comes_at, Rises, rises_cons, by_moment_rises, by_moment_keeps, same_rows}
use Rattle.trace_shape.proofs.Windows.{no_row, with_rows, Affords, nothing_affords, tail_same, tail_other, cons_same, cons_other, head_late, head_enough, opens, closes, none_conform}

-- whether a row is of tenant t
abbrev pub is_of : ℕ → TraceRow → Bool
is_of t row = row.tenant == t

-- the moments of rows
abbrev pub moments_of : List TraceRow → List ℕ
moments_of rows = map moment_of rows

-- the rows of tenant t at these moments
abbrev pub own : ℕ → List TraceRow → List ℕ → List TraceRow
own t rows moments = filter (is_of t) (rows_at rows moments)

-- ---- the rows of one tenant by themselves

own_here : (t : ℕ) (row : TraceRow) (rows : List TraceRow) → row.tenant ≡ t → filter (is_of t) (row ∷ rows) ≡ row ∷ filter (is_of t) rows
own_here t row rows same = rw (eq-eqb row.tenant t same) refl

own_there : (t : ℕ) (row : TraceRow) (rows : List TraceRow) → row.tenant ≢ t → filter (is_of t) (row ∷ rows) ≡ filter (is_of t) rows
own_there t row rows other = rw (ne_eqb row.tenant t other) refl

affords_own : (g t before level a : ℕ) (rows : List TraceRow) (moments : List ℕ) → length moments ≡ length rows → Affords g t before level a rows moments
    → Affords g t before level a (own t rows moments) (moments_of (own t rows moments))
affords_own g t before level a [] moments one_each h = nothing_affords g t before level a []
affords_own g t before level a (row ∷ rows) [] one_each h = absurd (omega (arith, one_each))
affords_own g t before level a (row ∷ rows) (m ∷ moments) one_each h = elim (cases_eq row.tenant t) [
  | inl same ↦
      subst (λ xs. Affords g t before level a xs (moments_of xs)) (sym (own_here t (record row { moment = m }) (rows_at rows moments) same))
      (cons_same g t before level a (record row { moment = m }) (own t rows moments) m (moments_of (own t rows moments)) same
      (head_late g t before level a row rows m moments same h) (head_enough g t before level a row rows m moments same h)
      (affords_own g t (before + 1000 * row.declared) level a rows moments (omega (arith, one_each)) (tail_same g t before level a row rows m moments same h)))
  | inr other ↦
      subst (λ xs. Affords g t before level a xs (moments_of xs)) (sym (own_there t (record row { moment = m }) (rows_at rows moments) other))
      (affords_own g t before level a rows moments (omega (arith, one_each)) (tail_other g t before level a row rows m moments other h))
]

own_conform : (T : Trace) (rate burst t : ℕ) (rows : List TraceRow) (moments : List ℕ) → Conforms (with_rows T rows) rate burst moments → Conforms (with_rows T (own t rows moments)) rate burst (moments_of (own t rows moments))
own_conform T rate burst t [] moments h = none_conform T rate burst
own_conform T rate burst t (row ∷ rows) [] h = absurd (omega (arith, h.one_each))
own_conform T rate burst t (row ∷ rows) (m ∷ moments) h =
    let first = opens T rate burst row rows m moments h in
    elim (cases_eq row.tenant t) [
      | inl same ↦
          subst (λ xs. Conforms (with_rows T xs) rate burst (moments_of xs)) (sym (own_here t (record row { moment = m }) (rows_at rows moments) same))
          (closes T rate burst (record row { moment = m }) (own t rows moments) m (moments_of (own t rows moments)) (record {
            not_early = omega arith;
            fits = first.fits;
            window = subst (λ z. Affords (gain T rate row.tenant) row.tenant (1000 * row.declared) (1000 * burst) m (own z rows moments) (moments_of (own z rows moments))) same
                (affords_own (gain T rate row.tenant) row.tenant (1000 * row.declared) (1000 * burst) m rows moments first.rest.one_each first.window);
            rest = own_conform T rate burst t rows moments first.rest;
          }))
      | inr other ↦
          subst (λ xs. Conforms (with_rows T xs) rate burst (moments_of xs)) (sym (own_there t (record row { moment = m }) (rows_at rows moments) other))
          (own_conform T rate burst t rows moments first.rest)
    ]

-- ---- the rows of all tenants together

affords_all : (g t before level a : ℕ) (rows : List TraceRow) → Affords g t before level a (filter (is_of t) rows) (moments_of (filter (is_of t) rows)) → Affords g t before level a rows (moments_of rows)
affords_all g t before level a [] h = nothing_affords g t before level a []
affords_all g t before level a (row ∷ rows) h = elim (cases_eq row.tenant t) [
  | inl same ↦
      let here : Affords g t before level a (row ∷ filter (is_of t) rows) (row.moment ∷ moments_of (filter (is_of t) rows)) = subst (λ xs. Affords g t before level a xs (moments_of xs)) (own_here t row rows same) h in
      cons_same g t before level a row rows row.moment (moments_of rows) same
      (head_late g t before level a row (filter (is_of t) rows) row.moment _ same here) (head_enough g t before level a row (filter (is_of t) rows) row.moment _ same here)
      (affords_all g t (before + 1000 * row.declared) level a rows (tail_same g t before level a row (filter (is_of t) rows) row.moment _ same here))
  | inr other ↦
      cons_other g t before level a row rows row.moment (moments_of rows) other
      (affords_all g t before level a rows (subst (λ xs. Affords g t before level a xs (moments_of xs)) (own_there t row rows other) h))
]

all_conform : (T : Trace) (rate burst : ℕ) (rows : List TraceRow) → ((t : ℕ) → Conforms (with_rows T (filter (is_of t) rows)) rate burst (moments_of (filter (is_of t) rows))) → Conforms (with_rows T rows) rate burst (moments_of rows)
all_conform T rate burst [] each = none_conform T rate burst
all_conform T rate burst (row ∷ rows) each =
    let t = row.tenant in
    let here : Conforms (with_rows T (row ∷ filter (is_of t) rows)) rate burst (row.moment ∷ moments_of (filter (is_of t) rows)) =
    subst (λ xs. Conforms (with_rows T xs) rate burst (moments_of xs)) (own_here t row rows refl) (each t) in
    let first = opens T rate burst row (filter (is_of t) rows) row.moment (moments_of (filter (is_of t) rows)) here in
    closes T rate burst row rows row.moment (moments_of rows) (record {
      not_early = omega arith;
      fits = first.fits;
      window = affords_all (gain T rate t) t (1000 * row.declared) (1000 * burst) row.moment rows first.window;
      rest = all_conform T rate burst rows (λ s. elim (cases_eq row.tenant s) [
        | inl same ↦ subst (λ z. Conforms (with_rows T (filter (is_of z) rows)) rate burst (moments_of (filter (is_of z) rows))) same first.rest
        | inr other ↦ subst (λ xs. Conforms (with_rows T xs) rate burst (moments_of xs)) (own_there s row rows other) (each s)
      ]);
    })

-- ---- the rows of a tenant are in order already

-- rows of one tenant that conform rise
own_rise : (T : Trace) (rate burst t : ℕ) (rows : List TraceRow) → All (λ (row : TraceRow). row.tenant ≡ t) rows → Conforms (with_rows T rows) rate burst (moments_of rows) → Rises rows
own_rise T rate burst t [] all h = λ i j d le l. absurd (omega (arith, l))
own_rise T rate burst t (row ∷ rows) all h =
    let first = opens T rate burst row rows row.moment (moments_of rows) h in
    rises_cons row rows
    (λ k d l. first.window.not_before k (get_or rows k d).moment (record {
      row = get_or rows k d;
      row_at = slice_get-get_or rows k d l;
      moment_at = slice_get-map moment_of rows k ∙ ap (option_map moment_of) (slice_get-get_or rows k d l);
      tenant = All-tail (λ (r : TraceRow). r.tenant ≡ t) row rows all k d l ∙ sym (All-head (λ (r : TraceRow). r.tenant ≡ t) row rows all);
    }))
    (own_rise T rate burst t rows (All-tail (λ (r : TraceRow). r.tenant ≡ t) row rows all) first.rest)

-- two tests, in either order
filter_twice : (p q : TraceRow → Bool) (rows : List TraceRow) → filter p (filter q rows) ≡ filter q (filter p rows)
filter_twice p q [] = refl
filter_twice p q (row ∷ rows) = either (p row) (q row) refl refl (filter_twice p q rows)
  where
    either : (a b : Bool) → p row ≡ a → q row ≡ b → filter p (filter q rows) ≡ filter q (filter p rows)
        → filter p (cond b (row ∷ filter q rows) (filter q rows)) ≡ filter q (cond a (row ∷ filter p rows) (filter p rows))
    either true true pa qb more = rw (pa, qb) (ap (λ xs. row ∷ xs) more)
    either true false pa qb more = rw qb more
    either false true pa qb more = rw pa more
    either false false pa qb more = more

all_own : (t : ℕ) (rows : List TraceRow) → All (λ (row : TraceRow). row.tenant ≡ t) (filter (is_of t) rows)
all_own t rows = All-weaker (λ (row : TraceRow). is_of t row ≡ true) (λ (row : TraceRow). row.tenant ≡ t) (λ row is. eqb-true row.tenant t is) (filter (is_of t) rows) (filter_passes (is_of t) rows)

own_in_order : (t : ℕ) (rows : List TraceRow) → Rises (filter (is_of t) rows) → filter (is_of t) (by_moment rows) ≡ filter (is_of t) rows
own_in_order t rows rise = same_rows (filter (is_of t) (by_moment rows)) (filter (is_of t) rows) (IsNonDecreasingBy-filter moment_of (is_of t) (by_moment rows) (by_moment_rises rows)) rise
    (λ n. filter_twice (comes_at n) (is_of t) (by_moment rows) ∙ ap (filter (is_of t)) (by_moment_keeps n rows) ∙ filter_twice (is_of t) (comes_at n) rows)

-- the moments of a shaped trace conform
pub shaped_conform : (T : Trace) (rate burst : ℕ) (moments : List ℕ) → Conforms T rate burst moments → Conforms (at_moments T moments) rate burst (moments_of (by_moment (rows_at T.rows moments)))
shaped_conform T rate burst moments h = all_conform T rate burst (by_moment (rows_at T.rows moments)) (λ t.
    let alone = own_conform T rate burst t T.rows moments h in
    subst (λ xs. Conforms (with_rows T xs) rate burst (moments_of xs)) (sym (own_in_order t (rows_at T.rows moments) (own_rise T rate burst t (own t T.rows moments) (all_own t (rows_at T.rows moments)) alone))) alone)

-- rows at their own moments are as they were
pub moved_to_own : (rows : List TraceRow) → rows_at rows (moments_of rows) ≡ rows
moved_to_own [] = refl
moved_to_own (row ∷ rows) = ap (λ xs. row ∷ xs) (moved_to_own rows)

-- where the moments of rows conform, they are the least
pub own_is_least : (S : Trace) (rate burst : ℕ) → Conforms S rate burst (moments_of S.rows) → IsLeastConforming S rate burst (moments_of S.rows)
own_is_least S rate burst h = record {
  conforms = h;
  least = λ others k m n conform is that.
      let within : k < length S.rows = omega (arith, slice_get_within (moments_of S.rows) k m is, length-map S.rows moment_of) in
      let row = get_or S.rows k no_row in
      let own_moment : row.moment ≡ m = same_Some row.moment m (sym (slice_get-map moment_of S.rows k ∙ ap (option_map moment_of) (slice_get-get_or S.rows k no_row within)) ∙ is) in
      omega (arith, own_moment, conform.not_early k row n (record { row_is = slice_get-get_or S.rows k no_row within; moment_is = that }));
}
