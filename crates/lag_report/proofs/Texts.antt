-- Texts that are added to, and the least and the greatest of rows.
use Rattle.std.proofs.Common.{ℕ, zero, suc, ◌+◌, ◌<◌, ◌≤◌, ◌≡◌, List, [], ◌∷◌, ◌++◌, length, drop, map, get_or, Some, slice_get, refl, sym, ap, ◌∙◌, arith, append_assoc, All, add-one, ℤ, pos, ◌≤ℤ◌, below_more}
use Rattle.std.proofs.lemmas.Int.{ints}
use Rattle.std.proofs.lemmas.List.{get_or-map, length-map}
use Rattle.std.proofs.lemmas.List.Elements.{All-map}
use Rattle.std.proofs.Math.ListN.{drop_of_length-le}
use Rattle.fq_model.specs.declared.lag.TenantLag.{TenantLag}
use Rattle.program_model.specs.ReportText.{tenant_lag_line, tenant_lag_lines}
use Rattle.std.specs.Prelude.{codes}
use Rattle.std.specs.Fmt.{decimal, signed_decimal}
use Rattle.fq_model.specs.Report.{LagReport, least_lag, greatest_lag}
use Rattle.lag_report.specs.Reports.{requests_of}
use Rattle.lag_report.specs.Texts.{with_counts, with_totals, with_range}
use Rattle.lag_report.proofs.Ranks.{least_at, greatest_at}

-- the row past the end
abbrev pub no_row : TenantLag
no_row = record { weight = 0; requests = 0; charged = 0; fluid = 0; least = pos 0; p50 = pos 0; p90 = pos 0; p99 = pos 0; greatest = pos 0 }

-- ---- texts

-- one piece more, and two
pub longer : (old x y now next : List ℕ) → now ≡ old ++ x → next ≡ now ++ y → next ≡ old ++ (x ++ y)
longer old x y now next is then = then ∙ ap (λ l. l ++ y) is ∙ append_assoc old x y

pub longer_by_two : (old x y z now next : List ℕ) → now ≡ old ++ x → next ≡ now ++ y ++ z → next ≡ old ++ (x ++ y ++ z)
longer_by_two old x y z now next is then = longer old (x ++ y) z (now ++ y) next (longer old x y now (now ++ y) is refl) then

-- the lines from tenant t on begin with its line
line_at : (names : List (List ℕ)) (rows : List TenantLag) (t : ℕ) (name : List ℕ) (d : TenantLag) → t < length rows → slice_get names t ≡ Some name → tenant_lag_lines (drop t names) (drop t rows) ≡ tenant_lag_line name (get_or rows t d) ++ tenant_lag_lines (drop (suc t) names) (drop (suc t) rows)
line_at [] rows t name d below named = absurd (cc)
line_at (other ∷ names) [] t name d below named = absurd (omega arith)
line_at (other ∷ names) (row ∷ rows) zero name d below named =
    let same : other ≡ name = cc in
    rw same refl
line_at (other ∷ names) (row ∷ rows) (suc t) name d below named = line_at names rows t name d (omega arith) named

pub next_line : (names : List (List ℕ)) (rows : List TenantLag) (t : ℕ) (name : List ℕ) (d : TenantLag) (now next all : List ℕ) → t < length rows → slice_get names t ≡ Some name → next ≡ now ++ tenant_lag_line name (get_or rows t d) →
    now ++ tenant_lag_lines (drop t names) (drop t rows) ≡ all → next ++ tenant_lag_lines (drop (t + 1) names) (drop (t + 1) rows) ≡ all
next_line names rows t name d now next all below named then is =
    ap (λ n. next ++ tenant_lag_lines (drop n names) (drop n rows)) (add-one t)
    ∙ ap (λ l. l ++ tenant_lag_lines (drop (suc t) names) (drop (suc t) rows)) then
    ∙ append_assoc now (tenant_lag_line name (get_or rows t d)) (tenant_lag_lines (drop (suc t) names) (drop (suc t) rows))
    ∙ ap (λ l. now ++ l) (sym (line_at names rows t name d below named)) ∙ is

pub no_line_left : (names : List (List ℕ)) (rows : List TenantLag) (t : ℕ) → length rows ≤ t → tenant_lag_lines (drop t names) (drop t rows) ≡ []
no_line_left names rows t past = ap (tenant_lag_lines (drop t names)) (drop_of_length-le rows past) ∙ no_rows (drop t names)
  where
    no_rows : (names : List (List ℕ)) → tenant_lag_lines names [] ≡ []
    no_rows [] = refl
    no_rows (name ∷ names) = refl

-- ---- the least and the greatest of rows

pub least_of : (rows : List TenantLag) (m : ℤ) (k : ℕ) → k < length rows → (get_or rows k no_row).least ≡ m → All (λ (r : TenantLag). m ≤ℤ r.least) rows → m ≡ least_lag rows
least_of rows m k inside is low = least_at (map (λ (r : TenantLag). r.least) rows) m k (pos 0)
    (omega (arith, inside, length-map rows (λ (r : TenantLag). r.least)))
    (get_or-map (λ (r : TenantLag). r.least) rows k no_row (pos 0) inside ∙ is)
    (All-map (λ x. m ≤ℤ x) (λ (r : TenantLag). r.least) rows low)

pub greatest_of : (rows : List TenantLag) (m : ℤ) (k : ℕ) → k < length rows → (get_or rows k no_row).greatest ≡ m → All (λ (r : TenantLag). r.greatest ≤ℤ m) rows → m ≡ greatest_lag rows
greatest_of rows m k inside is high = greatest_at (map (λ (r : TenantLag). r.greatest) rows) m k (pos 0)
    (omega (arith, inside, length-map rows (λ (r : TenantLag). r.greatest)))
    (get_or-map (λ (r : TenantLag). r.greatest) rows k no_row (pos 0) inside ∙ is)
    (All-map (λ x. x ≤ℤ m) (λ (r : TenantLag). r.greatest) rows high)

-- no rows have none
pub least_none : (rows : List TenantLag) → length rows ≡ 0 → pos 0 ≡ least_lag rows
least_none [] is = refl
least_none (row ∷ rows) is = absurd (omega (arith, is))

pub greatest_none : (rows : List TenantLag) → length rows ≡ 0 → pos 0 ≡ greatest_lag rows
greatest_none [] is = refl
greatest_none (row ∷ rows) is = absurd (omega (arith, is))

-- the best so far, where one more is looked at: it, or the old one
pub moves_down : (f : ℕ → ℤ) (p k : ℕ) → f k ≤ℤ f p → ((j : ℕ) → j < k → f p ≤ℤ f j) → (j : ℕ) → j < k + 1 → f k ≤ℤ f j
moves_down f p k less best = below_more _ _ (λ j l. omega (arith, ints, less, best j l)) (omega (arith, ints))

pub moves_up : (f : ℕ → ℤ) (p k : ℕ) → f p ≤ℤ f k → ((j : ℕ) → j < k → f j ≤ℤ f p) → (j : ℕ) → j < k + 1 → f j ≤ℤ f k
moves_up f p k more best = below_more _ _ (λ j l. omega (arith, ints, more, best j l)) (omega (arith, ints))

-- a line feed and two pieces more
pub longer_by_line : (old x y z now next : List ℕ) → now ≡ old ++ x → next ≡ now ++ (10 ∷ y) ++ z → next ≡ old ++ (x ++ 10 ∷ [] ++ y ++ z)
longer_by_line old x y z now next is then = longer_by_two old x (10 ∷ y) z now next is then ∙ ap (λ l. old ++ (l ++ z)) (sym (append_assoc x (10 ∷ []) y))

-- ---- parts of a line, and of a summary

-- a summary up to its lags
abbrev pub summary_totals : LagReport → List ℕ
summary_totals report =
    codes "summary 1\n" ++ codes "requests " ++ decimal (requests_of report.rows) ++ 10 ∷ [] ++ codes "entries " ++ decimal report.entries
    ++ 10 ∷ [] ++ codes "end " ++ decimal report.end

pub all_counts : (row : TenantLag) (old x now next : List ℕ) → now ≡ old ++ x → next ≡ with_counts now row → next ≡ old ++ with_counts x row
all_counts row old x now next is then =
    let weight = longer_by_two old x (codes " weight ") (decimal row.weight) now _ is refl in
    let requests = longer_by_two old _ (codes " requests ") (decimal row.requests) _ _ weight refl in
    let charged = longer_by_two old _ (codes " charged ") (decimal row.charged) _ _ requests refl in
    longer_by_two old _ (codes " fluid ") (decimal row.fluid) _ next charged then

pub all_totals : (report : LagReport) (now next : List ℕ) → now ≡ [] ++ codes "summary 1\n" → next ≡ with_totals now report → next ≡ [] ++ summary_totals report
all_totals report now next is then =
    let requests = longer_by_two [] _ (codes "requests ") (decimal (requests_of report.rows)) now _ is refl in
    let entries = longer_by_line [] _ (codes "entries ") (decimal report.entries) _ _ requests refl in
    longer_by_line [] _ (codes "end ") (decimal report.end) _ next entries then

pub all_range : (rows : List TenantLag) (x now next : List ℕ) → now ≡ [] ++ x → next ≡ with_range now rows → next ≡ [] ++ (x ++ 10 ∷ [] ++ codes "lag " ++ signed_decimal (least_lag rows) ++ codes " " ++ signed_decimal (greatest_lag rows) ++ codes "\n")
all_range rows x now next is then =
    let least = longer_by_line [] x (codes "lag ") (signed_decimal (least_lag rows)) now _ is refl in
    let greatest = longer_by_two [] _ (codes " ") (signed_decimal (greatest_lag rows)) _ _ least refl in
    longer [] _ (codes "\n") _ next greatest then
