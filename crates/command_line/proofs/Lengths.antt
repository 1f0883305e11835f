-- There are as many values as options, and a value that is there does not depend on the default of a look-up.
use Rattle.std.proofs.Common.{ℕ, suc, ◌<◌, ◌≡◌, Bool, true, false, if◌then◌else◌, List, [], ◌∷◌, length, get_or, Option, Some, None, option_map, refl, sym, ap, arith}
use Rattle.std.specs.Option.{option_and_then}
use Rattle.std.proofs.lemmas.List.{get_or_default}
use Rattle.program_model.specs.Lines.{Words}
use Rattle.program_model.specs.Options.{OptionRow, Value, Given, options_of, are_known, texts_for, value_of, values_of, values_in}

one_more : (n : ℕ) (v : Option Value) (more : Option (List Value)) (values : List Value) → ((vs : List Value) → more ≡ Some vs → length vs ≡ n) → option_and_then (λ v. option_map (λ vs. v ∷ vs) more) v ≡ Some values → length values ≡ suc n
one_more n None more values longs is = absurd (cc)
one_more n (Some v) None values longs is = absurd (cc)
one_more n (Some v) (Some vs) values longs is =
    let all : v ∷ vs ≡ values = cc in
    omega (arith, sym (ap length all), longs vs refl)

of_length : (rows : List OptionRow) (given : List Given) (values : List Value) → values_of rows given ≡ Some values → length values ≡ length rows
of_length [] given values is = let none : [] ≡ values = cc in sym (ap length none)
of_length (row ∷ rows) given values is = one_more (length rows) (value_of row (texts_for row.name given)) (values_of rows given) values (of_length rows given) is

pub values_length : (rows : List OptionRow) (words : Words) (values : List Value) → values_in rows words ≡ Some values → length values ≡ length rows
unfolding values_in
values_length rows words values is = go (options_of words) is
  where
    known : (b : Bool) (given : List Given) → (if b then values_of rows given else None) ≡ Some values → length values ≡ length rows
    known true given is = of_length rows given values is
    known false given is = absurd (cc)

    go : (o : Option (List Given)) → option_and_then (λ given. if are_known rows given then values_of rows given else None) o ≡ Some values → length values ≡ length rows
    go None is = absurd (cc)
    go (Some given) is = known (are_known rows given) given is

pub value_there : (values : List Value) (k : ℕ) (d : Value) → k < length values → get_or values k d ≡ get_or values k None
value_there values k d there = get_or_default values k d None there
