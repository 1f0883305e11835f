-- The records of a trace, and their text.
use Rattle.std.proofs.Common.{ℕ, suc, ◌^◌, ◌<◌, ◌≡◌, List, [], ◌∷◌, ◌++◌, get_or, refl, sym, ap, ◌∙◌, arith, append_assoc, All}
use Rattle.std.specs.Prelude.{codes}
use Rattle.std.specs.Fmt.{decimal}
use Rattle.csv.proofs.RoundTrip.{rows_text}
use Rattle.csv.specs.Writing.{default_writer, field_text, fields_text, is_blank, row_text}
use Rattle.program_model.specs.declared.trace.TraceRow.{TraceRow}
use Rattle.program_model.specs.TraceGrammar.{Record}
use Rattle.program_model.specs.TraceText.{tenant_record, tenant_records, request_record, request_records}
use Rattle.trace_reader.proofs.Plain.{IsPlain, HaveFields, decimal-plain, plain-text}

abbrev pub tenant_fields : List ℕ → ℕ → Record
tenant_fields name weight = codes "tenant" ∷ name ∷ decimal weight ∷ []

abbrev pub request_fields : List (List ℕ) → List (List ℕ) → TraceRow → Record
request_fields tenants kinds row = codes "request" ∷ decimal row.moment ∷ decimal row.submitter ∷ get_or tenants row.tenant [] ∷ get_or kinds row.kind [] ∷ decimal row.declared ∷ decimal row.cost ∷ []

-- the fields after the first field, with the text after them
abbrev after_comma : Record → List ℕ → List ℕ
after_comma [] tail = tail
after_comma (field ∷ fields) tail = 44 ∷ (field_text default_writer field ++ after_comma fields tail)

fields-after : (fields : Record) (tail : List ℕ) → fields_text default_writer fields ++ tail ≡ after_comma fields tail
unfolding fields_text
fields-after [] tail = refl
fields-after (field ∷ fields) tail =
    ap (λ l. 44 ∷ l) (append_assoc (field_text default_writer field) (fields_text default_writer fields) tail ∙ ap (λ l. field_text default_writer field ++ l) (fields-after fields tail))

row-after : (x y : List ℕ) (ys : Record) → row_text default_writer (x ∷ y ∷ ys) ≡ field_text default_writer x ++ after_comma (y ∷ ys) (10 ∷ [])
unfolding is_blank
row-after x y ys = append_assoc (field_text default_writer x) (fields_text default_writer (y ∷ ys)) (10 ∷ []) ∙ ap (λ l. field_text default_writer x ++ l) (fields-after (y ∷ ys) (10 ∷ []))

pub tenant-text : (name : List ℕ) (weight : ℕ) → IsPlain name → weight < 2 ^ 64 → row_text default_writer (tenant_fields name weight) ≡ tenant_record name weight
tenant-text name weight plain small =
    row-after (codes "tenant") name (decimal weight ∷ []) ∙ rw (plain-text name plain, plain-text (decimal weight) (decimal-plain weight small)) (simp append_assoc refl)

pub request-text : (tenants kinds : List (List ℕ)) (row : TraceRow) → IsPlain (get_or tenants row.tenant []) → IsPlain (get_or kinds row.kind [])
    → row.moment < 2 ^ 64 → row.submitter < 2 ^ 64 → row.declared < 2 ^ 64 → row.cost < 2 ^ 64
    → row_text default_writer (request_fields tenants kinds row) ≡ request_record tenants kinds row
request-text tenants kinds row tenant kind moment submitter declared cost =
    row-after (codes "request") (decimal row.moment) _ ∙ rw (
      plain-text (decimal row.moment) (decimal-plain row.moment moment),
      plain-text (decimal row.submitter) (decimal-plain row.submitter submitter),
      plain-text (get_or tenants row.tenant []) tenant,
      plain-text (get_or kinds row.kind []) kind,
      plain-text (decimal row.declared) (decimal-plain row.declared declared),
      plain-text (decimal row.cost) (decimal-plain row.cost cost),
    ) (simp append_assoc refl)

-- ---- a whole trace

abbrev pub tenant_rows : List (List ℕ) → List ℕ → List Record
tenant_rows (name ∷ names) (weight ∷ weights) = tenant_fields name weight ∷ tenant_rows names weights
tenant_rows _ _ = []

abbrev pub request_rows : List (List ℕ) → List (List ℕ) → List TraceRow → List Record
request_rows tenants kinds [] = []
request_rows tenants kinds (row ∷ rows) = request_fields tenants kinds row ∷ request_rows tenants kinds rows

pub have_fields : (tenants kinds names : List (List ℕ)) (weights : List ℕ) (rows : List TraceRow) → HaveFields (tenant_rows names weights ++ request_rows tenants kinds rows)
have_fields tenants kinds (name ∷ names) (weight ∷ weights) rows = (refl, have_fields tenants kinds names weights rows)
have_fields tenants kinds [] weights rows = go rows
  where
    go : (rows : List TraceRow) → HaveFields (request_rows tenants kinds rows)
    go [] = tt
    go (row ∷ rows) = (refl, go rows)
have_fields tenants kinds (name ∷ names) [] rows = go rows
  where
    go : (rows : List TraceRow) → HaveFields (request_rows tenants kinds rows)
    go [] = tt
    go (row ∷ rows) = (refl, go rows)

pub tenants-text : (names : List (List ℕ)) (weights : List ℕ) (more : List Record) → All (λ name. IsPlain name) names → All (λ weight. weight < 2 ^ 64) weights
    → rows_text (tenant_rows names weights ++ more) ≡ tenant_records names weights ++ rows_text more
unfolding rows_text
tenants-text [] weights more plain small = refl
tenants-text (name ∷ names) [] more plain small = refl
tenants-text (name ∷ names) (weight ∷ weights) more plain small =
    let first = tenant-text name weight (plain 0 name (omega arith)) (small 0 weight (omega arith)) in
    let rest = tenants-text names weights more (λ k d b. plain (suc k) d (omega arith)) (λ k d b. small (suc k) d (omega arith)) in
    ap (λ l. l ++ rows_text (tenant_rows names weights ++ more)) first
    ∙ ap (λ l. tenant_record name weight ++ l) rest
    ∙ sym (append_assoc (tenant_record name weight) (tenant_records names weights) (rows_text more))

-- the conditions on a request whose line is read back
pub record IsPrintable (tenants kinds : List (List ℕ)) (row : TraceRow) : Type 0 where
  pub tenant : IsPlain (get_or tenants row.tenant [])
  pub kind : IsPlain (get_or kinds row.kind [])
  pub moment : row.moment < 2 ^ 64
  pub submitter : row.submitter < 2 ^ 64
  pub declared : row.declared < 2 ^ 64
  pub cost : row.cost < 2 ^ 64

pub requests-text : (tenants kinds : List (List ℕ)) (rows : List TraceRow) → All (IsPrintable tenants kinds) rows
    → rows_text (request_rows tenants kinds rows) ≡ request_records tenants kinds rows
unfolding rows_text
requests-text tenants kinds [] all = refl
requests-text tenants kinds (row ∷ rows) all =
    let is = all 0 row (omega arith) in
    ap (λ l. l ++ rows_text (request_rows tenants kinds rows)) (request-text tenants kinds row is.tenant is.kind is.moment is.submitter is.declared is.cost)
    ∙ ap (λ l. request_record tenants kinds row ++ l) (requests-text tenants kinds rows (λ k d b. all (suc k) d (omega arith)))
