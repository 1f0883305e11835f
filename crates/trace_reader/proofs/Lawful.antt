-- The trace that a text spells is lawful.
use Rattle.std.proofs.Common.{ℕ, ◌+◌, ◌-◌, ◌*◌, ◌<◌, ◌≤◌, ◌≡◌, Bool, true, false, not, ◌||◌, nat_lt, if◌then◌else◌, ◌⊎◌, inl, inr, List, [], ◌∷◌, ◌++◌, length, get_or, map, All, Option, Some, None, is_some, bytes_eq, Result, Ok, Err, IfOk, refl, ap, subst, arith, length-append}
use borrow.Author.Tests.{ltb-false}
use Rattle.std.specs.Prelude.{codes}
use Rattle.std.specs.List.{list_all}
use Rattle.std.specs.List.Sorted.{IsNonDecreasing}
use Rattle.std.specs.Str.{is_utf8}
use Rattle.std.proofs.lemmas.Bool.{eqb-true, eqb-false}
use Rattle.std.proofs.lemmas.List.{length-map, map-append}
use Rattle.std.proofs.lemmas.List.Elements.{All-push}
use Rattle.std.proofs.lemmas.List.Quantifiers.{position-Some}
use Rattle.std.proofs.lemmas.List.Sorted.{IsNonDecreasingBy-push}
use Rattle.csv.specs.Reading.{default_config, records, strip_bom}
use Rattle.vt_fixed.specs.declared.limits.TheConstants.{GREATEST_COST}
use Rattle.fq_model.specs.declared.limits.TheConstants.{TEXT_WEIGHT, TEXT_TENANTS, MOST_KINDS, TEXT_PAIRS, MOST_ROWS, GREATEST_TRACE_MOMENT, GREATEST_SUBMITTER}
use Rattle.program_model.specs.declared.fault.TraceKind.TheVariants.{Word, Range, UnknownTenant, Twice, Backward, TooMany, NoTenants}
use Rattle.program_model.specs.declared.trace.TraceRow.{TraceRow}
use Rattle.fq_model.specs.Limits.{IsWithin, IsTextWeight, is_outside}
use Rattle.fq_model.specs.Names.{AreNames, number_among, number_by_appearance, with_appearance}
use Rattle.fq_model.specs.Spelling.{is_name}
use Rattle.program_model.specs.Reading.{◌>>=◌, at_line, begins_with, is_empty, or_fault}
use Rattle.program_model.specs.Trace.{Trace, last_row_moment, with_row, with_some_kind}
use Rattle.program_model.specs.TraceGrammar.{Record, field, with_count, number_at, ranged_at, moment_at, name_at, new_name_at, tenant_at, not_too_many, with_tenant, with_request, with_record, with_records, no_records, trace_of}
use Rattle.program_model.specs.TraceText.{IsLawfulRow, IsLawfulTrace}
use Rattle.tenant_table.proofs.Tables.{names_push}

-- ---- steps that gave something

bind_ok : {A B F : Type 0} (r : Result A F) (f : A → Result B F) (y : B) → (r >>= f) ≡ Ok y → (x : A) × (r ≡ Ok x) × (f x ≡ Ok y)
bind_ok (Ok x) f y h = (x, refl, h)
bind_ok (Err e) f y h = absurd (cc)

Ok-injective : {A F : Type 0} {x y : A} → ◌≡◌ {A = Result A F} (Ok x) (Ok y) → x ≡ y
Ok-injective h = cc

unless : {A F : Type 0} (test : Bool) (e : F) (x y : A) → (if test then Err e else Ok x) ≡ Ok y → (test ≡ false) × (x ≡ y)
unless true e x y h = absurd (cc)
unless false e x y h = (refl, Ok-injective h)

where_true : {A F : Type 0} (test : Bool) (e : F) (x y : A) → (if test then Ok x else Err e) ≡ Ok y → (test ≡ true) × (x ≡ y)
where_true true e x y h = (refl, Ok-injective h)
where_true false e x y h = absurd (cc)

or_fault-ok : {A F : Type 0} (e : F) (o : Option A) (x : A) → or_fault e o ≡ Ok x → o ≡ Some x
or_fault-ok e None x h = absurd (cc)
or_fault-ok e (Some y) x h = ap Some (Ok-injective h)

at_line-ok : {A F : Type 0} (place : ℕ) (r : Result A F) (x : A) → at_line place r ≡ Ok x → r ≡ Ok x
at_line-ok place (Ok y) x h = cc
at_line-ok place (Err k) x h = absurd (cc)

-- ---- fields

within : (low high n : ℕ) (a b : Bool) → nat_lt n low ≡ a → nat_lt high n ≡ b → (a || b) ≡ false → IsWithin low high n
within low high n true b is_a is_b h = absurd (cc)
within low high n false true is_a is_b h = absurd (cc)
within low high n false false is_a is_b h = (ltb-false n low is_a, ltb-false high n is_b)

ranged-within : (fields : Record) (k low high n : ℕ) → ranged_at fields k low high ≡ Ok n → IsWithin low high n
unfolding ranged_at
ranged-within fields k low high n h =
    let b = bind_ok (number_at fields k) _ n h in
    let u = unless (is_outside low high b.0) (Range (k + 1)) b.0 n b.2 in
    subst (IsWithin low high) u.1 (within low high b.0 _ _ refl refl u.0)

moment-after : (rows : List TraceRow) (fields : Record) (k n : ℕ) → moment_at rows fields k ≡ Ok n → (n ≤ GREATEST_TRACE_MOMENT) × (last_row_moment rows ≤ n)
unfolding moment_at
moment-after rows fields k n h =
    let b = bind_ok (ranged_at fields k 0 GREATEST_TRACE_MOMENT) _ n h in
    let u = unless (nat_lt b.0 (last_row_moment rows)) Backward b.0 n b.2 in
    let limits = ranged-within fields k 0 GREATEST_TRACE_MOMENT b.0 b.1 in
    subst (λ m. (m ≤ GREATEST_TRACE_MOMENT) × (last_row_moment rows ≤ m)) u.1 (limits.1, ltb-false b.0 (last_row_moment rows) u.0)

named : (fields : Record) (k : ℕ) (name : List ℕ) → name_at fields k ≡ Ok name → is_name name ≡ true
unfolding name_at
named fields k name h =
    let u = where_true (is_name (field fields k)) Word (field fields k) name h in
    subst (λ n. is_name n ≡ true) u.1 u.0

none_if : {A : Type 0} (o : Option A) → is_some o ≡ false → o ≡ None
none_if None h = refl
none_if (Some x) h = absurd (cc)

new_named : (names : List (List ℕ)) (fields : Record) (k : ℕ) (name : List ℕ) → new_name_at names fields k ≡ Ok name
    → (is_name name ≡ true) × (number_among names name ≡ None)
unfolding new_name_at
new_named names fields k name h =
    let b = bind_ok (name_at fields k) _ name h in
    let u = unless (is_some (number_among names b.0)) Twice b.0 name b.2 in
    subst (λ n. (is_name n ≡ true) × (number_among names n ≡ None)) u.1 (named fields k b.0 b.1, none_if (number_among names b.0) u.0)

tenant-below : (names : List (List ℕ)) (fields : Record) (k t : ℕ) → tenant_at names fields k ≡ Ok t → t < length names
unfolding tenant_at
tenant-below names fields k t h =
    let b = bind_ok (name_at fields k) _ t h in
    (position-Some (bytes_eq b.0) names t [] (or_fault-ok UnknownTenant (number_among names b.0) t b.2)).0

-- ---- one record more

-- the properties of a trace that is being read
pub record IsKept (t : Trace) : Type 0 where
  pub tenants : AreNames TEXT_TENANTS t.tenants
  pub kinds : AreNames MOST_KINDS t.kinds
  pub pairs : length t.tenants * length t.kinds ≤ TEXT_PAIRS
  pub weighed : length t.weights ≡ length t.tenants
  pub weights : All IsTextWeight t.weights
  pub few : length t.rows ≤ MOST_ROWS
  pub rows : All (IsLawfulRow (length t.tenants) (length t.kinds)) t.rows
  pub in_order : IsNonDecreasing (map (λ row. row.moment) t.rows)

pub record IsFew (t u : Trace) : Type 0 where
  pub tenants : length t.tenants ≤ TEXT_TENANTS
  pub kinds : length t.kinds ≤ MOST_KINDS
  pub rows : length t.rows ≤ MOST_ROWS
  pub pairs : length t.tenants * length t.kinds ≤ TEXT_PAIRS
  pub same : t ≡ u

few : (a b c d : Bool) (t u : Trace) → (if a || (b || (c || d)) then Err TooMany else Ok t) ≡ Ok u → (a ≡ false) × (b ≡ false) × (c ≡ false) × (d ≡ false) × (t ≡ u)
few true b c d t u h = absurd (cc)
few false true c d t u h = absurd (cc)
few false false true d t u h = absurd (cc)
few false false false true t u h = absurd (cc)
few false false false false t u h = (refl, refl, refl, refl, Ok-injective h)

not_too_many-few : (t u : Trace) → not_too_many t ≡ Ok u → IsFew t u
not_too_many-few t u h =
    let f = few (nat_lt TEXT_TENANTS (length t.tenants)) (nat_lt MOST_KINDS (length t.kinds)) (nat_lt MOST_ROWS (length t.rows)) (nat_lt TEXT_PAIRS (length t.tenants * length t.kinds)) t u h in
    record {
      tenants = ltb-false TEXT_TENANTS (length t.tenants) f.0;
      kinds = ltb-false MOST_KINDS (length t.kinds) f.1;
      rows = ltb-false MOST_ROWS (length t.rows) f.2;
      pairs = ltb-false TEXT_PAIRS (length t.tenants * length t.kinds) f.3;
      same = f.4;
    }

widen : (tenants tenants2 kinds kinds2 : ℕ) (row : TraceRow) → tenants ≤ tenants2 → kinds ≤ kinds2 → IsLawfulRow tenants kinds row → IsLawfulRow tenants2 kinds2 row
widen tenants tenants2 kinds kinds2 row more_tenants more_kinds is = record {
  moment = is.moment;
  submitter = is.submitter;
  tenant = omega (arith, is.tenant, more_tenants);
  kind = omega (arith, is.kind, more_kinds);
  declared = is.declared;
  cost = is.cost;
}

with_tenant-kept : (t u : Trace) (whole : Record) → IsKept t → with_tenant t whole ≡ Ok u → IsKept u
unfolding with_tenant
with_tenant-kept t u whole kept h =
    let fields = bind_ok (with_count 3 whole) _ u h in
    let name = bind_ok (new_name_at t.tenants fields.0 1) _ u fields.2 in
    let weight = bind_ok (ranged_at fields.0 2 1 TEXT_WEIGHT) _ u name.2 in
    let more : Trace = record t { tenants = t.tenants ++ name.0 ∷ []; weights = t.weights ++ weight.0 ∷ [] } in
    let is_few = not_too_many-few more u weight.2 in
    let new = new_named t.tenants fields.0 1 name.0 name.1 in
    let tenants : length (t.tenants ++ name.0 ∷ []) ≡ length t.tenants + 1 = omega (arith, length-append t.tenants (name.0 ∷ [])) in
    let weights : length (t.weights ++ weight.0 ∷ []) ≡ length t.weights + 1 = omega (arith, length-append t.weights (weight.0 ∷ [])) in
    subst IsKept is_few.same (record {
      tenants = names_push TEXT_TENANTS t.tenants name.0 kept.tenants new.0 new.1 (omega (arith, is_few.tenants, tenants));
      kinds = kept.kinds;
      pairs = is_few.pairs;
      weighed = omega (arith, kept.weighed, tenants, weights);
      weights = All-push IsTextWeight t.weights weight.0 kept.weights (ranged-within fields.0 2 1 TEXT_WEIGHT weight.0 weight.1);
      few = kept.few;
      rows = λ k d b. widen (length t.tenants) (length (t.tenants ++ name.0 ∷ [])) (length t.kinds) (length t.kinds) (get_or t.rows k d) (omega (arith, tenants)) (omega arith) (kept.rows k d b);
      in_order = kept.in_order;
    })

-- the kinds with one that may be new, and its number
record AreKindsAfter (kinds : List (List ℕ)) (name : List ℕ) : Type 0 where
  names : AreNames MOST_KINDS (with_appearance kinds name)
  number : number_by_appearance kinds name < length (with_appearance kinds name)
  more : length kinds ≤ length (with_appearance kinds name)

kinds_after : (kinds : List (List ℕ)) (name : List ℕ) (o : Option ℕ) → number_among kinds name ≡ o → AreNames MOST_KINDS kinds → is_name name ≡ true
    → length (with_appearance kinds name) ≤ MOST_KINDS → AreKindsAfter kinds name
kinds_after kinds name None is are spelled few =
    let same : with_appearance kinds name ≡ kinds ++ name ∷ [] = rw is refl in
    let number : number_by_appearance kinds name ≡ length kinds = rw is refl in
    let longer : length (kinds ++ name ∷ []) ≡ length kinds + 1 = omega (arith, length-append kinds (name ∷ [])) in
    let room : length (kinds ++ name ∷ []) ≤ MOST_KINDS = rw same at few in
    record {
      names = rw same (names_push MOST_KINDS kinds name are spelled is (omega (arith, room, longer)));
      number = rw (number, same) (omega (arith, longer));
      more = rw same (omega (arith, longer));
    }
kinds_after kinds name (Some k) is are spelled few =
    let same : with_appearance kinds name ≡ kinds = rw is refl in
    let number : number_by_appearance kinds name ≡ k = rw is refl in
    record {
      names = rw same are;
      number = rw (number, same) ((position-Some (bytes_eq name) kinds k [] is).0);
      more = rw same (omega arith);
    }

pub last-moment : (row : TraceRow) (rows : List TraceRow) (d : ℕ) → get_or (map (λ r. r.moment) (row ∷ rows)) (length rows) d ≡ last_row_moment (row ∷ rows)
last-moment row [] d = refl
last-moment row (next ∷ rows) d = last-moment next rows d

in_order-push : (rows : List TraceRow) (row : TraceRow) → IsNonDecreasing (map (λ r. r.moment) rows) → last_row_moment rows ≤ row.moment
    → IsNonDecreasing (map (λ r. r.moment) (rows ++ row ∷ []))
in_order-push rows row order last = rw (map-append (λ r. r.moment) rows (row ∷ [])) (IsNonDecreasingBy-push (λ n. n) (map (λ r. r.moment) rows) row.moment order (go rows last))
  where
    go : (rows : List TraceRow) → last_row_moment rows ≤ row.moment → (d : ℕ) → 0 < length (map (λ r. r.moment) rows) → get_or (map (λ r. r.moment) rows) (length (map (λ r. r.moment) rows) - 1) d ≤ row.moment
    go [] last d some = absurd (omega arith)
    go (r ∷ rs) last d some =
        let place : length (map (λ r. r.moment) (r ∷ rs)) - 1 ≡ length rs = omega (arith, length-map rs (λ r. r.moment)) in
        rw (place, last-moment r rs d) last

-- one request more, whose numbers are within their limits
pub with_row-kept : (t u : Trace) (moment submitter tenant : ℕ) (kind : List ℕ) (declared cost : ℕ) → IsKept t → IsFew (with_row t moment submitter tenant kind declared cost) u
    → (moment ≤ GREATEST_TRACE_MOMENT) × (last_row_moment t.rows ≤ moment) → submitter ≤ GREATEST_SUBMITTER → tenant < length t.tenants → is_name kind ≡ true
    → IsWithin 1 GREATEST_COST declared → IsWithin 1 GREATEST_COST cost → IsKept u
with_row-kept t u moment submitter tenant kind declared cost kept is_few after caller known spelled declared_within cost_within =
    let kinds = kinds_after t.kinds kind (number_among t.kinds kind) refl kept.kinds spelled is_few.kinds in
    let row : TraceRow = record { moment = moment; submitter = submitter; tenant = tenant; kind = number_by_appearance t.kinds kind; declared = declared; cost = cost } in
    subst IsKept {x = with_row t moment submitter tenant kind declared cost} is_few.same (record {
      tenants = kept.tenants;
      kinds = kinds.names;
      pairs = is_few.pairs;
      weighed = kept.weighed;
      weights = kept.weights;
      few = is_few.rows;
      rows = All-push (IsLawfulRow (length t.tenants) (length (with_appearance t.kinds kind))) t.rows row
          (λ k d b. widen (length t.tenants) (length t.tenants) (length t.kinds) (length (with_appearance t.kinds kind)) (get_or t.rows k d) (omega arith) kinds.more (kept.rows k d b))
          (record { moment = after.0; submitter = caller; tenant = known; kind = kinds.number; declared = declared_within; cost = cost_within });
      in_order = in_order-push t.rows row kept.in_order after.1;
    })

with_request-kept : (t u : Trace) (whole : Record) → IsKept t → with_request t whole ≡ Ok u → IsKept u
unfolding with_request
with_request-kept t u whole kept h =
    let fields = bind_ok (with_count 7 whole) _ u h in
    let moment = bind_ok (moment_at t.rows fields.0 1) _ u fields.2 in
    let submitter = bind_ok (ranged_at fields.0 2 0 GREATEST_SUBMITTER) _ u moment.2 in
    let tenant = bind_ok (tenant_at t.tenants fields.0 3) _ u submitter.2 in
    let kind = bind_ok (name_at fields.0 4) _ u tenant.2 in
    let declared = bind_ok (ranged_at fields.0 5 1 GREATEST_COST) _ u kind.2 in
    let cost = bind_ok (ranged_at fields.0 6 1 GREATEST_COST) _ u declared.2 in
    with_row-kept t u moment.0 submitter.0 tenant.0 kind.0 declared.0 cost.0 kept
    (not_too_many-few (with_row t moment.0 submitter.0 tenant.0 kind.0 declared.0 cost.0) u cost.2)
    (moment-after t.rows fields.0 1 moment.0 moment.1)
    (ranged-within fields.0 2 0 GREATEST_SUBMITTER submitter.0 submitter.1).1
    (tenant-below t.tenants fields.0 3 tenant.0 tenant.1)
    (named fields.0 4 kind.0 kind.1)
    (ranged-within fields.0 5 1 GREATEST_COST declared.0 declared.1)
    (ranged-within fields.0 6 1 GREATEST_COST cost.0 cost.1)

which : {A : Type 0} (test : Bool) (x y r : A) → (if test then x else y) ≡ r → (x ≡ r) ⊎ (y ≡ r)
which true x y r h = inl h
which false x y r h = inr h

with_record-kept : (t u : Trace) (fields : Record) → IsKept t → with_record t fields ≡ Ok u → IsKept u
unfolding with_record
with_record-kept t u fields kept h =
    elim (which (not (list_all is_utf8 fields)) _ _ (Ok u) h) [
      | inl a ↦ absurd (cc)
      | inr a ↦ elim (which (begins_with fields (codes "tenant")) _ _ (Ok u) a) [
        | inl b ↦ with_tenant-kept t u fields kept b
        | inr b ↦ elim (which (begins_with fields (codes "request")) _ _ (Ok u) b) [
          | inl c ↦ with_request-kept t u fields kept c
          | inr c ↦ absurd (cc)
        ]
      ]
    ]

-- ---- all records

pub no_names : (limit : ℕ) → AreNames limit []
no_names limit = record { few = omega arith; spelled = λ k d b. absurd (omega arith); distinct = λ i j d a b. absurd (omega arith) }

none_kept : IsKept no_records
none_kept = record {
  tenants = no_names TEXT_TENANTS;
  kinds = no_names MOST_KINDS;
  pairs = omega arith;
  weighed = refl;
  weights = λ k d b. absurd (omega arith);
  few = omega arith;
  rows = λ k d b. absurd (omega arith);
  in_order = λ i j d a b. absurd (omega arith);
}

a_row : TraceRow
a_row = record { moment = 0; submitter = 0; tenant = 0; kind = 0; declared = 0; cost = 0 }

pub lawful_at_end : (t : Trace) (none : Bool) → is_empty t.rows ≡ none → is_empty t.tenants ≡ false → IsKept t → IsLawfulTrace (with_some_kind t)
lawful_at_end t true none some kept =
    let no_rows : length t.rows ≡ 0 = eqb-true (length t.rows) 0 none in
    rw none (record {
      some_tenant = omega (arith, eqb-false (length t.tenants) 0 some);
      some_kind = omega arith;
      tenants = kept.tenants;
      kinds = names_push MOST_KINDS [] (codes "-") (no_names MOST_KINDS) refl refl (omega arith);
      pairs = omega (arith, kept.tenants.few);
      weighed = kept.weighed;
      weights = kept.weights;
      few = kept.few;
      rows = λ k d b. absurd (omega (arith, no_rows));
      in_order = kept.in_order;
    })
lawful_at_end t false none some kept =
    let first : 0 < length t.rows = omega (arith, eqb-false (length t.rows) 0 none) in
    let row = kept.rows 0 a_row first in
    rw none (record {
      some_tenant = omega (arith, eqb-false (length t.tenants) 0 some);
      some_kind = omega (arith, row.kind);
      tenants = kept.tenants;
      kinds = kept.kinds;
      pairs = kept.pairs;
      weighed = kept.weighed;
      weights = kept.weights;
      few = kept.few;
      rows = kept.rows;
      in_order = kept.in_order;
    })

with_records-lawful : (more : List Record) (place : ℕ) (t u : Trace) → IsKept t → with_records place t more ≡ Ok u → IsLawfulTrace u
with_records-lawful [] place t u kept h =
    let w = unless (is_empty t.tenants) (place, NoTenants) (with_some_kind t) u h in
    subst IsLawfulTrace w.1 (lawful_at_end t (is_empty t.rows) refl w.0 kept)
with_records-lawful (fields ∷ more) place t u kept h =
    let longer = bind_ok (at_line place (with_record t fields)) _ u h in
    with_records-lawful more (place + 1) longer.0 u (with_record-kept t longer.0 fields kept (at_line-ok place (with_record t fields) longer.0 longer.1)) longer.2

pub lawful : (bytes : List ℕ) (t : Trace) → trace_of bytes ≡ Ok t → IsLawfulTrace t
unfolding trace_of
lawful bytes t h = with_records-lawful (records default_config (strip_bom bytes)) 1 no_records t none_kept h

pub lawful_answer : {F : Type 0} (bytes : List ℕ) (answer : Result Trace F) → IfOk answer (λ t. trace_of bytes ≡ Ok t) → IfOk answer IsLawfulTrace
lawful_answer bytes (Ok t) h = lawful bytes t h
lawful_answer bytes (Err f) h = tt
