-- The values that are read of options lie in their ranges.
use Rattle.std.proofs.Common.{ℕ, ◌≤◌, ◌≡◌, ◌&&◌, nat_lt, Bool, true, false, ◌||◌, if◌then◌else◌, List, [], ◌∷◌, Option, Some, None, option_map, position, bytes_eq, refl, subst, arith}
use Rattle.std.specs.Option.{option_and_then}
use Rattle.std.proofs.lemmas.Bool.{ltb-false}
use Rattle.fq_model.specs.Spelling.{is_name}
use Rattle.program_model.specs.declared.argument.Argument.{Argument}
use Rattle.program_model.specs.declared.argument.Argument.TheVariants.{Number, Name}
use Rattle.program_model.specs.Numbers.{number_of}
use Rattle.program_model.specs.Lines.{Words}
use Rattle.program_model.specs.Options.{Values, Within, Among, Named, Absent, Required, Nothing, Default, OptionRow, Given, Value, options_of, are_known, texts_for, is_value, within, argument_among, argument_for, absent_value, value_of, values_of, values_in}
use Rattle.command_line.specs.Rows.{IsWithin, IsValueOf, AreValuesOf}

-- where there is a value, it is in the range
abbrev GivesWithin : Values → Option Argument → Type 0
GivesWithin values found = (a : Argument) → found ≡ Some a → IsWithin values a

within_range : (low high n m : ℕ) (below above : Bool) → nat_lt n low ≡ below → nat_lt high n ≡ above → (if below || above then None else Some n) ≡ Some m → (low ≤ m) × (m ≤ high)
within_range low high n m true above b a e = absurd (cc)
within_range low high n m false true b a e = absurd (cc)
within_range low high n m false false b a e =
    let same : n ≡ m = cc in
    (omega (arith, ltb-false n low b), omega (arith, ltb-false high n a))

among_range : (low high : ℕ) (number : Option ℕ) (m : ℕ) → option_and_then (within low high) number ≡ Some m → (low ≤ m) × (m ≤ high)
among_range low high None m e = absurd (cc)
among_range low high (Some n) m e = within_range low high n m (nat_lt n low) (nat_lt high n) refl refl e

where_value : (b : Bool) (found : Option Argument) (a : Argument) → (if b then found else None) ≡ Some a → found ≡ Some a
where_value true found a e = e
where_value false found a e = absurd (cc)

-- a number that is found lies in its range
number_range : (low high : ℕ) (number : Option ℕ) (a : Argument) → option_map (λ n. Number n) (option_and_then (within low high) number) ≡ Some a → IsWithin (Within low high) a
number_range low high number a e = go (option_and_then (within low high) number) refl e
  where
    go : (found : Option ℕ) → option_and_then (within low high) number ≡ found → option_map (λ n. Number n) found ≡ Some a → IsWithin (Within low high) a
    go None is e = absurd (cc)
    go (Some n) is e =
        let same : Number n ≡ a = cc in
        subst (IsWithin (Within low high)) same (among_range low high number n is)

both_true : (a b : Bool) → (a && b) ≡ true → (a ≡ true) × (b ≡ true)
both_true true b h = (refl, h)
both_true false b h = absurd (cc)

place_range : (words : Words) (place : Option ℕ) (a : Argument) → option_map (λ n. Number n) place ≡ Some a → IsWithin (Among words) a
place_range words None a e = absurd (cc)
place_range words (Some n) a e =
    let same : Number n ≡ a = cc in
    subst (IsWithin (Among words)) same tt

name_range : (b : Bool) (text : List ℕ) (a : Argument) → (if b then Some (Name text) else None) ≡ Some a → IsWithin Named a
name_range false text a e = absurd (cc)
name_range true text a e =
    let same : Name text ≡ a = cc in
    subst (IsWithin Named) same tt

argument_range : (values : Values) (text : List ℕ) (a : Argument) → argument_for values text ≡ Some a → IsWithin values a
unfolding argument_for
argument_range (Among words) text a e = place_range words (position (λ w. bytes_eq w text) words) a (where_value (is_value text) (argument_among (Among words) text) a e)
argument_range (Within low high) text a e = number_range low high (number_of text) a (where_value (is_value text) (argument_among (Within low high) text) a e)
argument_range Named text a e = name_range (is_name text) text a (where_value (is_value text) (argument_among Named text) a e)

-- the value that is found is one that the option may have
found_range : (row : OptionRow) (found : Option Argument) (v : Value) → GivesWithin row.values found → option_map (λ a. Some a) found ≡ Some v → IsValueOf row v
found_range row None v range e = absurd (cc)
found_range row (Some a) v range e =
    let same : Some a ≡ v = cc in
    subst (IsValueOf row) same (range a refl)

absent_range : (row : OptionRow) (absent : Absent) (v : Value) → row.absent ≡ absent → absent_value row.values absent ≡ Some v → IsValueOf row v
absent_range row Required v is e = absurd (cc)
absent_range row Nothing v is e =
    let same : None ≡ v = cc in
    subst (IsValueOf row) same is
absent_range row (Default text) v is e = found_range row (argument_for row.values text) v (argument_range row.values text) e

value_range : (row : OptionRow) (texts : List (List ℕ)) (v : Value) → value_of row texts ≡ Some v → IsValueOf row v
value_range row [] v e = absent_range row row.absent v refl e
value_range row (text ∷ []) v e = found_range row (argument_for row.values text) v (argument_range row.values text) e
value_range row (text ∷ u ∷ texts) v e = absurd (cc)

pair_range : (rows : List OptionRow) (row : OptionRow) (value : Option Value) (values : Option (List Value)) (vs : List Value) → ((v : Value) → value ≡ Some v → IsValueOf row v) → ((ws : List Value) → values ≡ Some ws → AreValuesOf rows ws) → option_and_then (λ v. option_map (λ ws. v ∷ ws) values) value ≡ Some vs → AreValuesOf (row ∷ rows) vs
pair_range rows row None values vs first later e = absurd (cc)
pair_range rows row (Some v) None vs first later e = absurd (cc)
pair_range rows row (Some v) (Some ws) vs first later e =
    let same : v ∷ ws ≡ vs = cc in
    subst (AreValuesOf (row ∷ rows)) same (first v refl, later ws refl)

values_range : (rows : List OptionRow) (given : List Given) (vs : List Value) → values_of rows given ≡ Some vs → AreValuesOf rows vs
values_range [] given vs e = tt
values_range (row ∷ rows) given vs e = pair_range rows row (value_of row (texts_for row.name given)) (values_of rows given) vs (value_range row (texts_for row.name given)) (values_range rows given) e

known_range : (rows : List OptionRow) (known : Bool) (given : List Given) (vs : List Value) → (if known then values_of rows given else None) ≡ Some vs → AreValuesOf rows vs
known_range rows true given vs e = values_range rows given vs e
known_range rows false given vs e = absurd (cc)

given_range : (rows : List OptionRow) (given : Option (List Given)) (vs : List Value) → option_and_then (λ g. if are_known rows g then values_of rows g else None) given ≡ Some vs → AreValuesOf rows vs
given_range rows None vs e = absurd (cc)
given_range rows (Some given) vs e = known_range rows (are_known rows given) given vs e

pub values_in-range : (rows : List OptionRow) (words : Words) (vs : List Value) → values_in rows words ≡ Some vs → AreValuesOf rows vs
unfolding values_in
values_in-range rows words vs e = given_range rows (options_of words) vs e
