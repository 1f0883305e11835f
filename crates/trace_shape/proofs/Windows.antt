-- The tokens that the requests of a tenant take from one of them on.
use Rattle.std.proofs.Common.{ℕ, zero, suc, ◌+◌, ◌-◌, ◌*◌, ◌<◌, ◌≤◌, ◌≡◌, ◌≢◌, List, [], ◌∷◌, length, take, get_or, Some, arith, refl, ap, ◌∙◌, subst}
use Rattle.std.specs.Prelude.{slice_get}
use Rattle.std.proofs.lemmas.Bool.{eq-eqb, ne_eqb}
use Rattle.std.proofs.lemmas.Option.{same_Some, none-some}
use Rattle.program_model.specs.declared.trace.TraceRow.{TraceRow}
use Rattle.program_model.specs.Conforms.{gain, declared_by, rows_between, IsMoved, IsPair, Conforms}
use Rattle.program_model.specs.Trace.{Trace}

-- a row of zeros, which stands past the end
abbrev pub no_row : TraceRow
no_row = record { moment = 0; submitter = 0; tenant = 0; kind = 0; declared = 0; cost = 0 }

-- the trace with other rows
abbrev pub with_rows : Trace → List TraceRow → Trace
with_rows T rows = record T { rows = rows }

-- row k is of tenant t, and its moment is n
pub record Comes (t : ℕ) (rows : List TraceRow) (moments : List ℕ) (k n : ℕ) : Type 0 where
  pub row : TraceRow
  pub row_at : slice_get rows k ≡ Some row
  pub moment_at : slice_get moments k ≡ Some n
  pub tenant : row.tenant ≡ t

-- the rows of tenant t come at moment a or later and, with `before` tokens more, take no more than the tokens at a and
-- the gain from there on
pub record Affords (g t before level a : ℕ) (rows : List TraceRow) (moments : List ℕ) : Type 0 where
  pub not_before : (k n : ℕ) → Comes t rows moments k n → a ≤ n
  pub enough : (k n : ℕ) → Comes t rows moments k n → before + 1000 * declared_by t (take (suc k) rows) ≤ level + g * (n - a)

pub later : {t : ℕ} {rows : List TraceRow} {moments : List ℕ} {k n : ℕ} (row : TraceRow) (m : ℕ) → Comes t rows moments k n → Comes t (row ∷ rows) (m ∷ moments) (suc k) n
later row m c = record { row = c.row; row_at = c.row_at; moment_at = c.moment_at; tenant = c.tenant }

earlier : {t : ℕ} {row : TraceRow} {rows : List TraceRow} {m : ℕ} {moments : List ℕ} {k n : ℕ} → Comes t (row ∷ rows) (m ∷ moments) (suc k) n → Comes t rows moments k n
earlier c = record { row = c.row; row_at = c.row_at; moment_at = c.moment_at; tenant = c.tenant }

-- the first row itself
first_comes : (t : ℕ) (row : TraceRow) (rows : List TraceRow) (m : ℕ) (moments : List ℕ) → row.tenant ≡ t → Comes t (row ∷ rows) (m ∷ moments) 0 m
first_comes t row rows m moments same = record { row = row; row_at = refl; moment_at = refl; tenant = same }

first_moment : (t : ℕ) (row : TraceRow) (rows : List TraceRow) (m : ℕ) (moments : List ℕ) (n : ℕ) → Comes t (row ∷ rows) (m ∷ moments) 0 n → m ≡ n
first_moment t row rows m moments n c = same_Some m n c.moment_at

first_row : (t : ℕ) (row : TraceRow) (rows : List TraceRow) (m : ℕ) (moments : List ℕ) (n : ℕ) → Comes t (row ∷ rows) (m ∷ moments) 0 n → row.tenant ≡ t
first_row t row rows m moments n c = ap (λ (r : TraceRow). r.tenant) (same_Some row c.row c.row_at) ∙ c.tenant

pub declared_same : (t : ℕ) (row : TraceRow) (rows : List TraceRow) → row.tenant ≡ t → declared_by t (row ∷ rows) ≡ row.declared + declared_by t rows
declared_same t row rows same = rw (eq-eqb row.tenant t same) refl

pub declared_other : (t : ℕ) (row : TraceRow) (rows : List TraceRow) → row.tenant ≢ t → declared_by t (row ∷ rows) ≡ declared_by t rows
declared_other t row rows other = rw (ne_eqb row.tenant t other) (omega arith)

-- ---- from a row to those after it
pub tail_same : (g t before level a : ℕ) (row : TraceRow) (rows : List TraceRow) (m : ℕ) (moments : List ℕ) → row.tenant ≡ t
    → Affords g t before level a (row ∷ rows) (m ∷ moments) → Affords g t (before + 1000 * row.declared) level a rows moments
tail_same g t before level a row rows m moments same h = record {
  not_before = λ k n c. h.not_before (suc k) n (later row m c);
  enough = λ k n c. omega (arith, h.enough (suc k) n (later row m c), declared_same t row (take (suc k) rows) same);
}

pub tail_other : (g t before level a : ℕ) (row : TraceRow) (rows : List TraceRow) (m : ℕ) (moments : List ℕ) → row.tenant ≢ t
    → Affords g t before level a (row ∷ rows) (m ∷ moments) → Affords g t before level a rows moments
tail_other g t before level a row rows m moments other h = record {
  not_before = λ k n c. h.not_before (suc k) n (later row m c);
  enough = λ k n c. omega (arith, h.enough (suc k) n (later row m c), declared_other t row (take (suc k) rows) other);
}

-- ---- and back
pub cons_same : (g t before level a : ℕ) (row : TraceRow) (rows : List TraceRow) (m : ℕ) (moments : List ℕ) → row.tenant ≡ t → a ≤ m → before + 1000 * row.declared ≤ level + g * (m - a)
    → Affords g t (before + 1000 * row.declared) level a rows moments → Affords g t before level a (row ∷ rows) (m ∷ moments)
cons_same g t before level a row rows m moments same late there h = record { not_before = not_before; enough = enough }
  where
    not_before : (k n : ℕ) → Comes t (row ∷ rows) (m ∷ moments) k n → a ≤ n
    not_before zero n c = omega (arith, first_moment t row rows m moments n c, late)
    not_before (suc k) n c = h.not_before k n (earlier c)

    enough : (k n : ℕ) → Comes t (row ∷ rows) (m ∷ moments) k n → before + 1000 * declared_by t (take (suc k) (row ∷ rows)) ≤ level + g * (n - a)
    enough zero n c =
        subst (λ z. before + 1000 * declared_by t (take 1 (row ∷ rows)) ≤ level + g * (z - a)) (first_moment t row rows m moments n c) (omega (arith, there, declared_same t row [] same))
    enough (suc k) n c = omega (arith, declared_same t row (take (suc k) rows) same, h.enough k n (earlier c))

pub cons_other : (g t before level a : ℕ) (row : TraceRow) (rows : List TraceRow) (m : ℕ) (moments : List ℕ) → row.tenant ≢ t
    → Affords g t before level a rows moments → Affords g t before level a (row ∷ rows) (m ∷ moments)
cons_other g t before level a row rows m moments other h = record { not_before = not_before; enough = enough }
  where
    not_before : (k n : ℕ) → Comes t (row ∷ rows) (m ∷ moments) k n → a ≤ n
    not_before zero n c = absurd (other (first_row t row rows m moments n c))
    not_before (suc k) n c = h.not_before k n (earlier c)

    enough : (k n : ℕ) → Comes t (row ∷ rows) (m ∷ moments) k n → before + 1000 * declared_by t (take (suc k) (row ∷ rows)) ≤ level + g * (n - a)
    enough zero n c = absurd (other (first_row t row rows m moments n c))
    enough (suc k) n c = omega (arith, declared_other t row (take (suc k) rows) other, h.enough k n (earlier c))

pub head_late : (g t before level a : ℕ) (row : TraceRow) (rows : List TraceRow) (m : ℕ) (moments : List ℕ) → row.tenant ≡ t
    → Affords g t before level a (row ∷ rows) (m ∷ moments) → a ≤ m
head_late g t before level a row rows m moments same h = h.not_before 0 m (first_comes t row rows m moments same)

pub head_enough : (g t before level a : ℕ) (row : TraceRow) (rows : List TraceRow) (m : ℕ) (moments : List ℕ) → row.tenant ≡ t
    → Affords g t before level a (row ∷ rows) (m ∷ moments) → before + 1000 * row.declared ≤ level + g * (m - a)
head_enough g t before level a row rows m moments same h = omega (arith, h.enough 0 m (first_comes t row rows m moments same), declared_same t row [] same)

-- ---- moments that conform, by the first row and the others
pub record Opens (T : Trace) (rate burst : ℕ) (row : TraceRow) (rows : List TraceRow) (m : ℕ) (moments : List ℕ) : Type 0 where
  pub not_early : row.moment ≤ m
  pub fits : 1000 * row.declared ≤ 1000 * burst
  pub window : Affords (gain T rate row.tenant) row.tenant (1000 * row.declared) (1000 * burst) m rows moments
  pub rest : Conforms (with_rows T rows) rate burst moments

pair_later : (T : Trace) {rows : List TraceRow} {moments : List ℕ} {t j k m n : ℕ} (row : TraceRow) (o : ℕ) → IsPair (with_rows T rows) moments t j k m n → IsPair (with_rows T (row ∷ rows)) (o ∷ moments) t (suc j) (suc k) m n
pair_later T row o p = record {
  first = p.first;
  last = p.last;
  first_at = record { row_is = p.first_at.row_is; moment_is = p.first_at.moment_is };
  last_at = record { row_is = p.last_at.row_is; moment_is = p.last_at.moment_is };
  first_tenant = p.first_tenant;
  last_tenant = p.last_tenant;
  in_order = omega (arith, p.in_order);
}

pair_first : (T : Trace) {rows : List TraceRow} {moments : List ℕ} {k n : ℕ} (row : TraceRow) (o : ℕ) → Comes row.tenant rows moments k n → IsPair (with_rows T (row ∷ rows)) (o ∷ moments) row.tenant 0 (suc k) o n
pair_first T row o c = record {
  first = row;
  last = c.row;
  first_at = record { row_is = refl; moment_is = refl };
  last_at = record { row_is = c.row_at; moment_is = c.moment_at };
  first_tenant = refl;
  last_tenant = c.tenant;
  in_order = omega arith;
}

pair_alone : (T : Trace) (rows : List TraceRow) (moments : List ℕ) (row : TraceRow) (o : ℕ) → IsPair (with_rows T (row ∷ rows)) (o ∷ moments) row.tenant 0 0 o o
pair_alone T rows moments row o = record {
  first = row;
  last = row;
  first_at = record { row_is = refl; moment_is = refl };
  last_at = record { row_is = refl; moment_is = refl };
  first_tenant = refl;
  last_tenant = refl;
  in_order = omega arith;
}

pub opens : (T : Trace) (rate burst : ℕ) (row : TraceRow) (rows : List TraceRow) (o : ℕ) (moments : List ℕ) → Conforms (with_rows T (row ∷ rows)) rate burst (o ∷ moments) → Opens T rate burst row rows o moments
opens T rate burst row rows o moments h = record {
  not_early = h.not_early 0 row o (record { row_is = refl; moment_is = refl });
  fits =
      let here : 1000 * declared_by row.tenant (row ∷ []) ≤ 1000 * burst + gain T rate row.tenant * (o - o) = h.in_bucket row.tenant 0 0 o o (pair_alone T rows moments row o) in
      let none : gain T rate row.tenant * (o - o) ≡ 0 = nothing (gain T rate row.tenant) o in
      omega (arith, here, none, declared_same row.tenant row [] refl);
  window = record {
    not_before = λ k n c. h.rising row.tenant 0 (suc k) o n (pair_first T row o c);
    enough = λ k n c. omega (arith, h.in_bucket row.tenant 0 (suc k) o n (pair_first T row o c), declared_same row.tenant row (take (suc k) rows) refl);
  };
  rest = record {
    one_each = omega (arith, h.one_each);
    not_early = λ k next m at. h.not_early (suc k) next m (record { row_is = at.row_is; moment_is = at.moment_is });
    rising = λ t j k m n p. h.rising t (suc j) (suc k) m n (pair_later T row o p);
    in_bucket = λ t j k m n p. h.in_bucket t (suc j) (suc k) m n (pair_later T row o p);
  };
}
  where
    nothing : (g o : ℕ) → g * (o - o) ≡ 0
    nothing g o = let none : o - o ≡ 0 = omega arith in rw none (omega arith)

-- no row comes of none
pub none_comes : {t : ℕ} {moments : List ℕ} {k n : ℕ} → Comes t [] moments k n → ⊥
none_comes c = none-some c.row c.row_at

-- and no tenant takes anything
pub nothing_affords : (g t before level a : ℕ) (moments : List ℕ) → Affords g t before level a [] moments
nothing_affords g t before level a moments = record { not_before = λ k n c. absurd (none_comes c); enough = λ k n c. absurd (none_comes c) }

-- the window that the first row opens, for its tenant by any name
pub window_of : (T : Trace) (rate burst t : ℕ) (row : TraceRow) (rows : List TraceRow) (o : ℕ) (moments : List ℕ) → row.tenant ≡ t → Opens T rate burst row rows o moments
    → Affords (gain T rate t) t (1000 * row.declared) (1000 * burst) o rows moments
window_of T rate burst t row rows o moments same h = subst (λ z. Affords (gain T rate z) z (1000 * row.declared) (1000 * burst) o rows moments) same h.window

pair_earlier : (T : Trace) {row : TraceRow} {rows : List TraceRow} {o : ℕ} {moments : List ℕ} {t j k m n : ℕ} → IsPair (with_rows T (row ∷ rows)) (o ∷ moments) t (suc j) (suc k) m n → IsPair (with_rows T rows) moments t j k m n
pair_earlier T p = record {
  first = p.first;
  last = p.last;
  first_at = record { row_is = p.first_at.row_is; moment_is = p.first_at.moment_is };
  last_at = record { row_is = p.last_at.row_is; moment_is = p.last_at.moment_is };
  first_tenant = p.first_tenant;
  last_tenant = p.last_tenant;
  in_order = omega (arith, p.in_order);
}

pub closes : (T : Trace) (rate burst : ℕ) (row : TraceRow) (rows : List TraceRow) (o : ℕ) (moments : List ℕ) → Opens T rate burst row rows o moments → Conforms (with_rows T (row ∷ rows)) rate burst (o ∷ moments)
closes T rate burst row rows o moments h = record { one_each = omega (arith, h.rest.one_each); not_early = not_early; rising = rising; in_bucket = in_bucket }
  where
    moment_here : (t k m n : ℕ) → IsPair (with_rows T (row ∷ rows)) (o ∷ moments) t 0 k m n → o ≡ m
    moment_here t k m n p = same_Some o m p.first_at.moment_is

    tenant_here : (t k m n : ℕ) → IsPair (with_rows T (row ∷ rows)) (o ∷ moments) t 0 k m n → row.tenant ≡ t
    tenant_here t k m n p = ap (λ (r : TraceRow). r.tenant) (same_Some row p.first p.first_at.row_is) ∙ p.first_tenant

    last_comes : (t k m n : ℕ) → IsPair (with_rows T (row ∷ rows)) (o ∷ moments) t 0 (suc k) m n → Comes t rows moments k n
    last_comes t k m n p = record { row = p.last; row_at = p.last_at.row_is; moment_at = p.last_at.moment_is; tenant = p.last_tenant }

    not_early : (k : ℕ) (next : TraceRow) (m : ℕ) → IsMoved (with_rows T (row ∷ rows)) (o ∷ moments) k next m → next.moment ≤ m
    not_early zero next m at = subst (λ (r : TraceRow). r.moment ≤ m) (same_Some row next at.row_is) (subst (λ z. row.moment ≤ z) (same_Some o m at.moment_is) h.not_early)
    not_early (suc k) next m at = h.rest.not_early k next m (record { row_is = at.row_is; moment_is = at.moment_is })

    rising : (t j k m n : ℕ) → IsPair (with_rows T (row ∷ rows)) (o ∷ moments) t j k m n → m ≤ n
    rising t zero zero m n p = omega (arith, same_Some o m p.first_at.moment_is, same_Some o n p.last_at.moment_is)
    rising t zero (suc k) m n p = omega (arith, moment_here t (suc k) m n p, (window_of T rate burst t row rows o moments (tenant_here t (suc k) m n p) h).not_before k n (last_comes t k m n p))
    rising t (suc j) zero m n p = absurd (omega (arith, p.in_order))
    rising t (suc j) (suc k) m n p = h.rest.rising t j k m n (pair_earlier T p)

    in_bucket : (t j k m n : ℕ) → IsPair (with_rows T (row ∷ rows)) (o ∷ moments) t j k m n → 1000 * declared_by t (rows_between (row ∷ rows) j k) ≤ 1000 * burst + gain T rate t * (n - m)
    in_bucket t zero zero m n p = omega (arith, declared_same t row [] (tenant_here t 0 m n p), h.fits)
    in_bucket t zero (suc k) m n p =
        subst (λ z. 1000 * declared_by t (rows_between (row ∷ rows) 0 (suc k)) ≤ 1000 * burst + gain T rate t * (n - z)) (moment_here t (suc k) m n p)
        (omega (arith, declared_same t row (take (suc k) rows) (tenant_here t (suc k) m n p), (window_of T rate burst t row rows o moments (tenant_here t (suc k) m n p) h).enough k n (last_comes t k m n p)))
    in_bucket t (suc j) zero m n p = absurd (omega (arith, p.in_order))
    in_bucket t (suc j) (suc k) m n p = h.rest.in_bucket t j k m n (pair_earlier T p)

-- no rows conform at no moments
pub none_conform : (T : Trace) (rate burst : ℕ) → Conforms (with_rows T []) rate burst []
none_conform T rate burst = record {
  one_each = refl;
  not_early = λ k row m at. absurd (none-some row at.row_is);
  rising = λ t j k m n p. absurd (none-some p.first p.first_at.row_is);
  in_bucket = λ t j k m n p. absurd (none-some p.first p.first_at.row_is);
}

-- no row of moments that conform declares more than a bucket holds
pub each_fits : (T : Trace) (rate burst : ℕ) (rows : List TraceRow) (moments : List ℕ) → Conforms (with_rows T rows) rate burst moments → (k : ℕ) (d : TraceRow) → k < length rows → (get_or rows k d).declared ≤ burst
each_fits T rate burst [] moments h k d l = absurd (omega (arith, l))
each_fits T rate burst (row ∷ rows) [] h k d l = absurd (omega (arith, h.one_each))
each_fits T rate burst (row ∷ rows) (o ∷ moments) h zero d l = omega (arith, (opens T rate burst row rows o moments h).fits)
each_fits T rate burst (row ∷ rows) (o ∷ moments) h (suc k) d l = each_fits T rate burst rows moments (opens T rate burst row rows o moments h).rest k d (omega (arith, l))
