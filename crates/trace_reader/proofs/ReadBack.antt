-- The records of a trace are read back as that trace.
use Rattle.std.proofs.Common.{ℕ, suc, ◌+◌, ◌*◌, ◌^◌, ◌<◌, ◌≤◌, ◌≡◌, ◌≢◌, ◌==◌, true, false, nat_lt, inl, inr, List, [], ◌∷◌, ◌++◌, length, get_or, take, map, max, All, Some, None, bytes_eq, Ok, refl, sym, ap, ◌∙◌, subst, arith, append_assoc, length-append}
use Rattle.std.specs.Prelude.{codes}
use Rattle.std.specs.Fmt.{decimal}
use Rattle.std.proofs.lemmas.Bool.{eqb-true, false_from_ne_true, cases_lt}
use borrow.Author.Tests.{ltb-true}
use Rattle.std.specs.List.{position_or_len}
use Rattle.std.specs.List.Sorted.{IsNonDecreasing}
use Rattle.tenant_table.proofs.Tables.{finds}
use Rattle.program_model.specs.TraceText.{AreKindsOf, HasKindsInOrder, IsLawfulRow, IsLawfulTrace, KindsAppear, tenant_records, request_records, trace_text}
use Rattle.trace_reader.proofs.Lawful.{last-moment}
use Rattle.std.proofs.Math.Seq.{get_or-append_seam}
use Rattle.std.proofs.lemmas.List.{append-nil, length-map, map-append, get_or-take, get_or_append_left, length-take-le, take_all, take_more}
use Rattle.std.proofs.lemmas.Nat.{mul-le}
use Rattle.std.proofs.lemmas.List.Sums.{position_or_len_is}
use Rattle.std.proofs.lemmas.Slice.Eq.{bytes_eq-Decides}
use Rattle.vt_fixed.specs.declared.limits.TheConstants.{GREATEST_COST}
use Rattle.fq_model.specs.declared.limits.TheConstants.{TEXT_WEIGHT, TEXT_TENANTS, MOST_KINDS, TEXT_PAIRS, MOST_ROWS, GREATEST_TRACE_MOMENT, GREATEST_SUBMITTER}
use Rattle.program_model.specs.declared.trace.TraceRow.{TraceRow}
use Rattle.fq_model.specs.Limits.{IsWithin, IsTextWeight, is_outside}
use Rattle.fq_model.specs.Names.{AreNames, number_among, number_by_appearance, with_appearance}
use Rattle.fq_model.specs.Spelling.{is_name}
use Rattle.program_model.specs.Trace.{Trace, last_row_moment, with_row}
use Rattle.program_model.specs.TraceGrammar.{Record, field, number_at, ranged_at, moment_at, name_at, new_name_at, tenant_at, not_too_many, with_tenant, with_request, with_record, with_records, trace_of, trace_of_records}
use Rattle.csv.proofs.RoundTrip.{rows_text}
use Rattle.csv.specs.Reading.{default_config, records, strip_bom}
use Rattle.trace_reader.proofs.Plain.{rows-read, name-plain, decimal-plain, plain-utf8}
use Rattle.trace_reader.proofs.Numerals.{number-decimal}
use Rattle.trace_reader.proofs.Texts.{IsPrintable, have_fields, tenants-text, requests-text, tenant_fields, request_fields, tenant_rows, request_rows}

not_above : (a b : ℕ) → b ≤ a → nat_lt a b ≡ false
not_above a b le = false_from_ne_true (nat_lt a b) (λ lt. omega (arith, ltb-true a b lt, le))

inside : (low high n : ℕ) → IsWithin low high n → is_outside low high n ≡ false
inside low high n is = rw (not_above n low is.0, not_above high n is.1) refl

-- a printed number in its range
ranged : (fields : Record) (k low high n : ℕ) → field fields k ≡ decimal n → n < 2 ^ 64 → IsWithin low high n → ranged_at fields k low high ≡ Ok n
unfolding ranged_at number_at
ranged fields k low high n is small limits = rw (is, number-decimal n small, inside low high n limits) refl

named : (fields : Record) (k : ℕ) (name : List ℕ) → field fields k ≡ name → is_name name ≡ true → name_at fields k ≡ Ok name
unfolding name_at
named fields k name is spelled = rw (is, spelled) refl

new_named : (names : List (List ℕ)) (fields : Record) (k : ℕ) (name : List ℕ) → field fields k ≡ name → is_name name ≡ true → number_among names name ≡ None → new_name_at names fields k ≡ Ok name
unfolding new_name_at
new_named names fields k name is spelled none = rw (named fields k name is spelled, none) refl

few : (t : Trace) → length t.tenants ≤ TEXT_TENANTS → length t.kinds ≤ MOST_KINDS → length t.rows ≤ MOST_ROWS → length t.tenants * length t.kinds ≤ TEXT_PAIRS → not_too_many t ≡ Ok t
few t tenants kinds rows pairs = rw (
  not_above TEXT_TENANTS (length t.tenants) tenants,
  not_above MOST_KINDS (length t.kinds) kinds,
  not_above MOST_ROWS (length t.rows) rows,
  not_above TEXT_PAIRS (length t.tenants * length t.kinds) pairs,
) refl

-- a trace with one tenant more
abbrev more_tenant : Trace → List ℕ → ℕ → Trace
more_tenant t name weight = record t { tenants = t.tenants ++ name ∷ []; weights = t.weights ++ weight ∷ [] }

tenant_read : (t : Trace) (name : List ℕ) (weight : ℕ) → is_name name ≡ true → number_among t.tenants name ≡ None → IsTextWeight weight
    → not_too_many (more_tenant t name weight) ≡ Ok (more_tenant t name weight)
    → with_tenant t (tenant_fields name weight) ≡ Ok (more_tenant t name weight)
unfolding with_tenant
tenant_read t name weight spelled none limits fits =
    rw (
      new_named t.tenants (tenant_fields name weight) 1 name refl spelled none,
      ranged (tenant_fields name weight) 2 1 TEXT_WEIGHT weight refl (omega (arith, limits.1)) limits,
    ) fits

tenant_recorded : (t : Trace) (name : List ℕ) (weight : ℕ) → is_name name ≡ true → number_among t.tenants name ≡ None → IsTextWeight weight
    → not_too_many (more_tenant t name weight) ≡ Ok (more_tenant t name weight)
    → with_record t (tenant_fields name weight) ≡ Ok (more_tenant t name weight)
unfolding with_record
tenant_recorded t name weight spelled none limits fits =
    rw (
      plain-utf8 name (name-plain name spelled),
      plain-utf8 (decimal weight) (decimal-plain weight (omega (arith, limits.1))),
      plain-utf8 (codes "tenant") refl,
    ) (tenant_read t name weight spelled none limits fits)

-- ---- names

pub none_among : (names : List (List ℕ)) (name : List ℕ) → ((k : ℕ) → k < length names → get_or names k [] ≢ name) → number_among names name ≡ None
none_among names name other =
    let place : position_or_len (bytes_eq name) names ≡ length names = position_or_len_is (bytes_eq name) names (length names) [] (omega arith)
    (λ k b. false_from_ne_true (bytes_eq name (get_or names k [])) (λ same. other k b (sym ((bytes_eq-Decides name (get_or names k [])).0 same))))
    (λ b. absurd (omega arith)) in
    rw (place, not_above (length names) (length names) (omega arith)) refl

-- the first n names
first_names : (limit n : ℕ) (names : List (List ℕ)) → n ≤ length names → AreNames limit names → AreNames limit (take n names)
first_names limit n names le are =
    let size : length (take n names) ≡ n = length-take-le n names le in
    record {
      few = omega (arith, size, are.few);
      spelled = λ k d b. let below : k < n = omega (arith, size, b) in rw (get_or-take n names k d below) (are.spelled k d (omega (arith, below)));
      distinct = λ i j d a b.
          let below : j < n = omega (arith, size, b) in
          rw (get_or-take n names i d (omega (arith, a, below)), get_or-take n names j d below) (are.distinct i j d a (omega (arith, below)));
    }

-- ---- tenants

abbrev base : List (List ℕ) → List ℕ → Trace
base tenants weights = record { tenants = tenants; weights = weights; kinds = []; rows = [] }

tenants_read : (names : List (List ℕ)) (weights : List ℕ) (place : ℕ) (done : List (List ℕ)) (weighed : List ℕ) (more : List Record) (u : Trace)
    → AreNames TEXT_TENANTS (done ++ names) → length weights ≡ length names → All IsTextWeight weights
    → ((place : ℕ) → with_records place (base (done ++ names) (weighed ++ weights)) more ≡ Ok u)
    → with_records place (base done weighed) (tenant_rows names weights ++ more) ≡ Ok u
tenants_read [] [] place done weighed more u are same limits rest_reads = rw (append-nil done, append-nil weighed) at (rest_reads place)
tenants_read [] (weight ∷ weights) place done weighed more u are same limits rest_reads = absurd (omega (arith, same))
tenants_read (name ∷ names) [] place done weighed more u are same limits rest_reads = absurd (omega (arith, same))
tenants_read (name ∷ names) (weight ∷ weights) place done weighed more u are same limits rest_reads =
    let size : length (done ++ name ∷ names) ≡ length done + suc (length names) = length-append done (name ∷ names) in
    let here : (d : List ℕ) → get_or (done ++ name ∷ names) (length done) d ≡ name = λ d. get_or-append_seam done name names d in
    let spelled : is_name name ≡ true = subst (λ n. is_name n ≡ true) (here []) (are.spelled (length done) [] (omega (arith, size))) in
    let none : number_among done name ≡ None = none_among done name (λ k b e. are.distinct k (length done) [] b (omega (arith, size)) (get_or_append_left done (name ∷ names) [] k b ∙ e ∙ sym (here []))) in
    let longer : length (done ++ name ∷ []) ≡ length done + 1 = length-append done (name ∷ []) in
    let t = base done weighed in
    let fits = few (more_tenant t name weight) (omega (arith, longer, size, are.few)) (omega arith) (omega arith) (omega arith) in
    let first = tenant_recorded t name weight spelled none (limits 0 weight (omega arith)) fits in
    let names_same : (done ++ name ∷ []) ++ names ≡ done ++ name ∷ names = append_assoc done (name ∷ []) names in
    let weights_same : (weighed ++ weight ∷ []) ++ weights ≡ weighed ++ weight ∷ weights = append_assoc weighed (weight ∷ []) weights in
    let rest = tenants_read names weights (place + 1) (done ++ name ∷ []) (weighed ++ weight ∷ []) more u (rw names_same are) (omega (arith, same)) (λ k d b. limits (suc k) d (omega arith))
    (λ p. rw (names_same, weights_same) (rest_reads p)) in
    rw first rest

-- ---- requests

moment_read : (rows : List TraceRow) (fields : Record) (k n : ℕ) → field fields k ≡ decimal n → n < 2 ^ 64 → IsWithin 0 GREATEST_TRACE_MOMENT n → last_row_moment rows ≤ n
    → moment_at rows fields k ≡ Ok n
unfolding moment_at
moment_read rows fields k n is small limits last = rw (ranged fields k 0 GREATEST_TRACE_MOMENT n is small limits, not_above n (last_row_moment rows) last) refl

tenant_is : (names : List (List ℕ)) (fields : Record) (k : ℕ) (name : List ℕ) (t : ℕ) → field fields k ≡ name → is_name name ≡ true → number_among names name ≡ Some t → tenant_at names fields k ≡ Ok t
unfolding tenant_at
tenant_is names fields k name t is spelled some = rw (named fields k name is spelled, some) refl

abbrev next_of : Trace → List (List ℕ) → TraceRow → Trace
next_of t kinds row = with_row t row.moment row.submitter row.tenant (get_or kinds row.kind []) row.declared row.cost

request_read : (t : Trace) (kinds : List (List ℕ)) (row : TraceRow) → AreNames TEXT_TENANTS t.tenants → AreNames MOST_KINDS kinds → IsLawfulRow (length t.tenants) (length kinds) row
    → last_row_moment t.rows ≤ row.moment → not_too_many (next_of t kinds row) ≡ Ok (next_of t kinds row)
    → with_request t (request_fields t.tenants kinds row) ≡ Ok (next_of t kinds row)
unfolding with_request
request_read t kinds row tenants are is last fits =
    let fields = request_fields t.tenants kinds row in
    rw (
      moment_read t.rows fields 1 row.moment refl (omega (arith, is.moment)) (omega arith, is.moment) last,
      ranged fields 2 0 GREATEST_SUBMITTER row.submitter refl (omega (arith, is.submitter)) (omega arith, is.submitter),
      tenant_is t.tenants fields 3 (get_or t.tenants row.tenant []) row.tenant refl (tenants.spelled row.tenant [] is.tenant) (finds TEXT_TENANTS t.tenants row.tenant tenants is.tenant),
      named fields 4 (get_or kinds row.kind []) refl (are.spelled row.kind [] is.kind),
      ranged fields 5 1 GREATEST_COST row.declared refl (omega (arith, is.declared.1)) is.declared,
      ranged fields 6 1 GREATEST_COST row.cost refl (omega (arith, is.cost.1)) is.cost,
    ) fits

request_recorded : (t : Trace) (kinds : List (List ℕ)) (row : TraceRow) → AreNames TEXT_TENANTS t.tenants → AreNames MOST_KINDS kinds → IsLawfulRow (length t.tenants) (length kinds) row
    → last_row_moment t.rows ≤ row.moment → not_too_many (next_of t kinds row) ≡ Ok (next_of t kinds row)
    → with_record t (request_fields t.tenants kinds row) ≡ Ok (next_of t kinds row)
unfolding with_record
request_recorded t kinds row tenants are is last fits =
    rw (
      plain-utf8 (codes "request") refl,
      plain-utf8 (decimal row.moment) (decimal-plain row.moment (omega (arith, is.moment))),
      plain-utf8 (decimal row.submitter) (decimal-plain row.submitter (omega (arith, is.submitter))),
      plain-utf8 (get_or t.tenants row.tenant []) (name-plain (get_or t.tenants row.tenant []) (tenants.spelled row.tenant [] is.tenant)),
      plain-utf8 (get_or kinds row.kind []) (name-plain (get_or kinds row.kind []) (are.spelled row.kind [] is.kind)),
      plain-utf8 (decimal row.declared) (decimal-plain row.declared (omega (arith, is.declared.1))),
      plain-utf8 (decimal row.cost) (decimal-plain row.cost (omega (arith, is.cost.1))),
    ) (request_read t kinds row tenants are is last fits)

-- a kind that has appeared, or is the next one
record Appears (kinds : List (List ℕ)) (seen kind : ℕ) : Type 0 where
  kinds_then : with_appearance (take seen kinds) (get_or kinds kind []) ≡ take (max seen (kind + 1)) kinds
  number : number_by_appearance (take seen kinds) (get_or kinds kind []) ≡ kind

appears : (kinds : List (List ℕ)) (seen kind : ℕ) → AreNames MOST_KINDS kinds → kind < length kinds → seen ≤ length kinds → kind ≤ seen → Appears kinds seen kind
appears kinds seen kind are below some next =
    let size : length (take seen kinds) ≡ seen = length-take-le seen kinds some in
    elim (cases_lt kind seen) [
      | inl old ↦
          let found = finds MOST_KINDS (take seen kinds) kind (first_names MOST_KINDS seen kinds some are) (omega (arith, size, old)) in
          let number : number_among (take seen kinds) (get_or kinds kind []) ≡ Some kind = rw (get_or-take seen kinds kind [] old) at found in
          let top : max seen (kind + 1) ≡ seen = omega (arith, old) in
          record { kinds_then = rw (number, top) refl; number = rw number refl }
      | inr new ↦
          let same : seen ≡ kind = omega (arith, new, next) in
          let none : number_among (take seen kinds) (get_or kinds kind []) ≡ None = none_among (take seen kinds) (get_or kinds kind [])
          (λ k b e. let before : k < seen = omega (arith, size, b) in are.distinct k kind [] (omega (arith, before, same)) below (sym (get_or-take seen kinds k [] before) ∙ e)) in
          let top : max seen (kind + 1) ≡ seen + 1 = omega (arith, same) in
          let more : take (seen + 1) kinds ≡ take seen kinds ++ get_or kinds kind [] ∷ [] = take_more kinds seen [] (omega (arith, same, below)) ∙ ap (λ i. take seen kinds ++ get_or kinds i [] ∷ []) same in
          record { kinds_then = rw (none, top) (sym more); number = rw none (size ∙ same) }
    ]

last_before : (done : List TraceRow) (row : TraceRow) (rows : List TraceRow) → IsNonDecreasing (map (λ r. r.moment) (done ++ row ∷ rows)) → last_row_moment done ≤ row.moment
last_before [] row rows order = omega arith
last_before (d ∷ ds) row rows order =
    let xs = map (λ r. r.moment) (d ∷ ds) in
    let ys = row.moment ∷ map (λ r. r.moment) rows in
    let whole : IsNonDecreasing (xs ++ ys) = subst IsNonDecreasing (map-append (λ r. r.moment) (d ∷ ds) (row ∷ rows)) order in
    let size : length xs ≡ suc (length ds) = omega (arith, length-map ds (λ r. r.moment)) in
    let le : get_or (xs ++ ys) (length ds) 0 ≤ get_or (xs ++ ys) (length xs) 0 = whole (length ds) (length xs) 0 (omega (arith, size)) (omega (arith, length-append xs ys)) in
    let a : get_or (xs ++ ys) (length ds) 0 ≡ last_row_moment (d ∷ ds) = get_or_append_left xs ys 0 (length ds) (omega (arith, size)) ∙ last-moment d ds 0 in
    let b : get_or (xs ++ ys) (length xs) 0 ≡ row.moment = get_or-append_seam xs row.moment (map (λ r. r.moment) rows) 0 in
    omega (arith, le, a, b)

abbrev part : Trace → ℕ → List TraceRow → Trace
part t seen done = record t { kinds = take seen t.kinds; rows = done }

requests_read : (t : Trace) (rows : List TraceRow) (place : ℕ) (done : List TraceRow) (seen : ℕ) → IsLawfulTrace t → All (IsLawfulRow (length t.tenants) (length t.kinds)) rows
    → KindsAppear seen rows (length t.kinds) → seen ≤ length t.kinds → 0 < length done + length rows → done ++ rows ≡ t.rows
    → with_records place (part t seen done) (request_rows t.tenants t.kinds rows) ≡ Ok t
requests_read t [] place done seen is all appear some any same =
    let tenants : (length t.tenants == 0) ≡ false = false_from_ne_true (length t.tenants == 0) (λ e. omega (arith, eqb-true (length t.tenants) 0 e, is.some_tenant)) in
    let requests : (length done == 0) ≡ false = false_from_ne_true (length done == 0) (λ e. omega (arith, eqb-true (length done) 0 e, any)) in
    let all_kinds : take seen t.kinds ≡ t.kinds = take_all seen t.kinds (omega (arith, appear)) in
    let all_rows : done ≡ t.rows = sym (append-nil done) ∙ same in
    rw (tenants, requests, all_kinds, all_rows) refl
requests_read t (row ∷ rows) place done seen is all appear some any same =
    let lawful = all 0 row (omega arith) in
    let kind = appears t.kinds seen row.kind is.kinds lawful.kind some appear.0 in
    let now = part t seen done in
    let next = part t (max seen (row.kind + 1)) (done ++ row ∷ []) in
    let after : next_of now t.kinds row ≡ next = rw (kind.kinds_then, kind.number) refl in
    let whole : (done ++ row ∷ []) ++ rows ≡ t.rows = append_assoc done (row ∷ []) rows ∙ same in
    let counted : length t.rows ≡ length done + suc (length rows) = sym (ap length same) ∙ length-append done (row ∷ rows) in
    let longer : length (done ++ row ∷ []) ≡ length done + 1 = length-append done (row ∷ []) in
    let most : max seen (row.kind + 1) ≤ length t.kinds = omega (arith, lawful.kind, some) in
    let size : length (take (max seen (row.kind + 1)) t.kinds) ≡ max seen (row.kind + 1) = length-take-le (max seen (row.kind + 1)) t.kinds most in
    let pairs : length t.tenants * length (take (max seen (row.kind + 1)) t.kinds) ≤ TEXT_PAIRS =
    rw size (omega (arith, mul-le (length t.tenants) (max seen (row.kind + 1)) (length t.tenants) (length t.kinds) (omega arith) most, is.pairs)) in
    let fits : not_too_many next ≡ Ok next = few next is.tenants.few (omega (arith, size, most, is.kinds.few)) (omega (arith, longer, counted, is.few)) pairs in
    let first : with_record now (request_fields t.tenants t.kinds row) ≡ Ok (next_of now t.kinds row) =
    request_recorded now t.kinds row is.tenants is.kinds lawful (last_before done row rows (rw same is.in_order)) (subst (λ n. not_too_many n ≡ Ok n) (sym after) fits) in
    let rest = requests_read t rows (place + 1) (done ++ row ∷ []) (max seen (row.kind + 1)) is (λ k d b. all (suc k) d (omega arith)) appear.1 most (omega (arith, longer)) whole in
    rw (first, after) rest

-- ---- the whole text

take_none : {A : Type 0} (xs : List A) → take 0 xs ≡ []
take_none [] = refl
take_none (x ∷ xs) = refl

printable : (t : Trace) (row : TraceRow) → IsLawfulTrace t → IsLawfulRow (length t.tenants) (length t.kinds) row → IsPrintable t.tenants t.kinds row
printable t row is lawful = record {
  tenant = name-plain (get_or t.tenants row.tenant []) (is.tenants.spelled row.tenant [] lawful.tenant);
  kind = name-plain (get_or t.kinds row.kind []) (is.kinds.spelled row.kind [] lawful.kind);
  moment = omega (arith, lawful.moment);
  submitter = omega (arith, lawful.submitter);
  declared = omega (arith, lawful.declared.1);
  cost = omega (arith, lawful.cost.1);
}

text_of : (t : Trace) → IsLawfulTrace t → rows_text (tenant_rows t.tenants t.weights ++ request_rows t.tenants t.kinds t.rows) ≡ trace_text t
unfolding trace_text
text_of t is =
    tenants-text t.tenants t.weights (request_rows t.tenants t.kinds t.rows)
    (λ k d b. name-plain (get_or t.tenants k d) (is.tenants.spelled k d b))
    (λ k d b. omega (arith, (is.weights k d b).1))
    ∙ ap (λ l. tenant_records t.tenants t.weights ++ l) (requests-text t.tenants t.kinds t.rows (λ k d b. printable t (get_or t.rows k d) is (is.rows k d b)))

no_mark : (names : List (List ℕ)) (weights : List ℕ) (more : List ℕ) → 0 < length names → length weights ≡ length names
    → strip_bom (tenant_records names weights ++ more) ≡ tenant_records names weights ++ more
unfolding strip_bom
no_mark [] weights more some same = absurd (omega arith)
no_mark (name ∷ names) [] more some same = absurd (omega (arith, same))
no_mark (name ∷ names) (weight ∷ weights) more some same = refl

stripped_text : (t : Trace) → IsLawfulTrace t → strip_bom (trace_text t) ≡ trace_text t
unfolding trace_text
stripped_text t is = no_mark t.tenants t.weights (request_records t.tenants t.kinds t.rows) is.some_tenant is.weighed

abbrev of_parts : List (List ℕ) → List ℕ → List (List ℕ) → List TraceRow → Trace
of_parts tenants weights kinds rows = record { tenants = tenants; weights = weights; kinds = kinds; rows = rows }

from_tenants : (t : Trace) (rows : List TraceRow) (place : ℕ) → IsLawfulTrace t → rows ≡ t.rows → AreKindsOf rows t.kinds
    → with_records place (base t.tenants t.weights) (request_rows t.tenants t.kinds rows) ≡ Ok t
from_tenants t [] place is same kinds =
    let tenants : (length t.tenants == 0) ≡ false = false_from_ne_true (length t.tenants == 0) (λ e. omega (arith, eqb-true (length t.tenants) 0 e, is.some_tenant)) in
    let whole : of_parts t.tenants t.weights (codes "-" ∷ []) [] ≡ t = ap (λ ks. of_parts t.tenants t.weights ks []) (sym kinds) ∙ ap (λ rs. of_parts t.tenants t.weights t.kinds rs) same in
    rw tenants (ap (λ u. Ok u) whole)
from_tenants t (row ∷ rows) place is same kinds =
    let none : take 0 t.kinds ≡ [] = take_none t.kinds in
    let read = requests_read t (row ∷ rows) place [] 0 is (subst (λ rs. All (IsLawfulRow (length t.tenants) (length t.kinds)) rs) (sym same) is.rows) kinds (omega arith) (omega arith) same in
    rw none at read

pub reads_back : (t : Trace) → IsLawfulTrace t → HasKindsInOrder t → trace_of (trace_text t) ≡ Ok t
unfolding trace_of
reads_back t is kinds =
    let rows = tenant_rows t.tenants t.weights ++ request_rows t.tenants t.kinds t.rows in
    let text : strip_bom (trace_text t) ≡ rows_text rows = stripped_text t is ∙ sym (text_of t is) in
    let read : records default_config (rows_text rows) ≡ rows = rows-read rows (have_fields t.tenants t.kinds t.tenants t.weights t.rows) in
    ap (λ x. trace_of_records (records default_config x)) text
    ∙ ap trace_of_records read
    ∙ tenants_read t.tenants t.weights 1 [] [] (request_rows t.tenants t.kinds t.rows) t is.tenants is.weighed is.weights (λ place. from_tenants t t.rows place is refl kinds)
