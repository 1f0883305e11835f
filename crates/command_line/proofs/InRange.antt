-- The numbers among the values of options lie in the ranges of their rows.
use Rattle.std.proofs.Common.{ℕ, zero, suc, ◌<◌, ◌≤◌, ◌≡◌, true, ltb, List, [], ◌∷◌, length, get_or, Some, None, unwrap_or, subst, arith}
use Rattle.std.proofs.lemmas.Bool.{ltb-true}
use Rattle.program_model.specs.declared.argument.Argument.TheVariants.{Number, Name}
use Rattle.program_model.specs.CommandOptions.{number_given}
use Rattle.program_model.specs.Lines.{Words}
use Rattle.program_model.specs.Options.{Within, Default, OptionRow, Value, values_in}
use Rattle.command_line.specs.Rows.{IsWithin, IsValueOf, AreValuesOf, IsNumberFrom}
use Rattle.command_line.proofs.Lengths.{values_length}
use Rattle.command_line.proofs.Ranges.{values_in-range}

of_row : (row : OptionRow) (v : Value) (low high : ℕ) (text : List ℕ) → row.values ≡ Within low high → row.absent ≡ Default text → IsValueOf row v → IsNumberFrom low high v
of_row row None low high text values absent is = absurd (cc)
of_row row (Some a) low high text values absent is = subst (λ vs. IsWithin vs a) values is

number_from : (rows : List OptionRow) (vs : List Value) (k low high : ℕ) (text : List ℕ) (d : OptionRow) (e : Value) → AreValuesOf rows vs → k < length rows → k < length vs
    → (get_or rows k d).values ≡ Within low high → (get_or rows k d).absent ≡ Default text → IsNumberFrom low high (get_or vs k e)
number_from [] vs k low high text d e are in_rows there values absent = absurd (omega arith)
number_from (row ∷ rows) [] k low high text d e are in_rows there values absent = absurd (omega arith)
number_from (row ∷ rows) (v ∷ vs) zero low high text d e are in_rows there values absent = of_row row v low high text values absent are.0
number_from (row ∷ rows) (v ∷ vs) (suc k) low high text d e are in_rows there values absent = number_from rows vs k low high text d e are.1 (omega arith) (omega arith) values absent

-- the value of option k, whose row has a range and a default, among those that were read
pub read_from : (rows : List OptionRow) (words : Words) (vs : List Value) (k low high : ℕ) (text : List ℕ) (d : OptionRow) (e : Value) → values_in rows words ≡ Some vs
    → ltb k (length rows) ≡ true → (get_or rows k d).values ≡ Within low high → (get_or rows k d).absent ≡ Default text → IsNumberFrom low high (get_or vs k e)
read_from rows words vs k low high text d e read there values absent =
    let inside : k < length rows = ltb-true k (length rows) there in
    number_from rows vs k low high text d e (values_in-range rows words vs read) inside (omega (arith, inside, values_length rows words vs read)) values absent

-- the number that such a value is
pub number_at_most : (low high n : ℕ) (v : Value) → IsNumberFrom low high v → n ≡ unwrap_or (number_given v) 0 → n ≤ high
number_at_most low high n (Some (Number m)) range is = rw is range.1
number_at_most low high n (Some (Name name)) range is = absurd range
number_at_most low high n None range is = absurd range
