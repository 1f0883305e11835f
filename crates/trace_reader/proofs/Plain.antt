-- Fields that need no quotes, and the records of a text of such fields.
use Rattle.std.proofs.Common.{ℕ, zero, suc, ◌+◌, ◌^◌, ◌%◌, ◌<◌, ◌≤◌, ◌≡◌, ◌==◌, ◌&&◌, nat_le, Bool, true, false, List, [], ◌∷◌, ◌++◌, length, inl, inr, refl, arith, length-append}
use Rattle.std.specs.Fmt.{decimal}
use Rattle.std.specs.List.{list_all, list_any}
use Rattle.std.specs.Str.{IsAscii, is_utf8}
use Rattle.std.proofs.lemmas.Bool.{cases_lt, eqb-true, false_from_ne_true, le-leb, leb-true}
use Rattle.std.proofs.lemmas.Fmt.{decimal_by_steps}
use Rattle.std.proofs.lemmas.Str.{IsUtf8-from_ascii, is_utf8-from_IsUtf8}
use Rattle.csv.proofs.RoundTrip.{read-write, rows_text}
use Rattle.csv.specs.Machine.{next_record}
use Rattle.csv.specs.Reading.{default_config, records, records_from}
use Rattle.csv.specs.Writing.{default_writer, field_text, needs_byte, read_back, row_body, row_text}
use Rattle.csv.specs.declared.parser.State.TheVariants as st
use Rattle.fq_model.specs.Spelling.{is_name, is_name_byte}
use Rattle.program_model.specs.TraceGrammar.{Record}
use Rattle.trace_reader.proofs.Reached.{none_left}

-- ---- plain fields

-- each byte is one of a name
abbrev pub IsPlain : List ℕ → Type 0
IsPlain field = list_all is_name_byte field ≡ true

both : (a b : Bool) → (a && b) ≡ true → (a ≡ true) × (b ≡ true)
both true b is = (refl, is)
both false b is = absurd (cc)

pub name-plain : (name : List ℕ) → is_name name ≡ true → IsPlain name
name-plain name is = (both (nat_le (length name) 64) _ (both (nat_le 1 (length name)) _ is).1).1

plain-push : (field : List ℕ) (b : ℕ) → IsPlain field → is_name_byte b ≡ true → IsPlain (field ++ b ∷ [])
plain-push [] b plain is = rw is refl
plain-push (c ∷ cs) b plain is =
    let parts = both (is_name_byte c) (list_all is_name_byte cs) plain in
    rw (parts.0) (plain-push cs b parts.1 is)

pub digit-plain : (d : ℕ) → d < 10 → is_name_byte (48 + d) ≡ true
digit-plain d below = rw (le-leb 48 (48 + d) (omega arith), le-leb (48 + d) 57 (omega arith)) refl

pub decimal-plain : (n : ℕ) → n < 2 ^ 64 → IsPlain (decimal n)
decimal-plain = decimal_by_steps (λ m ds. IsPlain ds)
    (λ m below. rw (digit-plain m below) refl)
    (λ m ds more plain. plain-push ds (48 + m % 10) plain (digit-plain (m % 10) (omega arith)))

-- a byte of a name is none that is no byte of a name
differs : (m b : ℕ) → is_name_byte m ≡ false → is_name_byte b ≡ true → (b == m) ≡ false
differs m b not is = false_from_ne_true (b == m) (λ same. let e : b ≡ m = eqb-true b m same in cc (rw e at is))

needs_none : (b : ℕ) → is_name_byte b ≡ true → needs_byte default_writer b ≡ false
needs_none b is = rw (differs 44 b refl is, differs 34 b refl is, differs 13 b refl is, differs 10 b refl is) refl

plain-unquoted : (field : List ℕ) → IsPlain field → list_any (needs_byte default_writer) field ≡ false
plain-unquoted [] plain = refl
plain-unquoted (b ∷ bs) plain =
    let parts = both (is_name_byte b) (list_all is_name_byte bs) plain in
    rw (needs_none b parts.0) (plain-unquoted bs parts.1)

pub plain-text : (field : List ℕ) → IsPlain field → field_text default_writer field ≡ field
plain-text field plain = rw (plain-unquoted field plain) refl

not_below : (b m : ℕ) → m < b → nat_le b m ≡ false
not_below b m above = false_from_ne_true (nat_le b m) (λ le. omega (arith, leb-true b m le))

not_same : (b m : ℕ) → m < b → (b == m) ≡ false
not_same b m above = false_from_ne_true (b == m) (λ same. omega (arith, eqb-true b m same))

none_above : (b : ℕ) → 122 < b → is_name_byte b ≡ false
none_above b above = rw (
  le-leb 48 b (omega arith),
  not_below b 57 (omega arith),
  le-leb 65 b (omega arith),
  not_below b 90 (omega arith),
  le-leb 97 b (omega arith),
  not_below b 122 above,
  not_same b 95 (omega arith),
  not_same b 45 (omega arith),
  not_same b 46 (omega arith),
) refl

ascii_byte : (b : ℕ) → is_name_byte b ≡ true → b < 128
ascii_byte b is = elim (cases_lt 122 b) [
  | inl above ↦ let not = none_above b above in absurd (cc)
  | inr below ↦ omega (arith, below)
]

plain-ascii : (field : List ℕ) → IsPlain field → IsAscii field
plain-ascii [] plain i = omega arith
plain-ascii (b ∷ bs) plain zero = ascii_byte b (both (is_name_byte b) (list_all is_name_byte bs) plain).0
plain-ascii (b ∷ bs) plain (suc i) = plain-ascii bs (both (is_name_byte b) (list_all is_name_byte bs) plain).1 i

pub plain-utf8 : (field : List ℕ) → IsPlain field → is_utf8 field ≡ true
plain-utf8 field plain = is_utf8-from_IsUtf8 field (IsUtf8-from_ascii field (plain-ascii field plain))

-- ---- records

some_text : (a b : List ℕ) → 1 ≤ length (a ++ (b ++ 10 ∷ []))
some_text a b = omega (arith, length-append a (b ++ 10 ∷ []), length-append b (10 ∷ []))

row-some : (row : Record) → 1 ≤ length (row_text default_writer row)
row-some row = some_text (row_body default_writer row) _

-- the text of records is longer than their number
rows-longer : (rows : List Record) → length rows ≤ length (rows_text rows)
unfolding rows_text
rows-longer [] = omega arith
rows-longer (row ∷ rows) = omega (arith, rows-longer rows, length-append (row_text default_writer row) (rows_text rows), row-some row)

-- each record has a first field
abbrev pub HaveFields : List Record → Type 0
HaveFields [] = Unit {0}
HaveFields (row ∷ rows) = (read_back row ≡ row) × HaveFields rows

all_read : (n : ℕ) (rows : List Record) → length rows ≤ n → HaveFields rows → records_from default_config n st.StartRecord (rows_text rows) ≡ rows
unfolding records_from rows_text next_record
all_read n [] few have = none_left n st.StartRecord [] refl
all_read zero (row ∷ rows) few have = absurd (omega arith)
all_read (suc n) (row ∷ rows) few have = rw (read-write row (rows_text rows), have.0, all_read n rows (omega arith) have.1) refl

pub rows-read : (rows : List Record) → HaveFields rows → records default_config (rows_text rows) ≡ rows
rows-read rows have = all_read (length (rows_text rows) + 1) rows (omega (arith, rows-longer rows)) have
