-- Words that are read option by option, against the definitions, which take all words at once.
use Rattle.std.proofs.Common.{ℕ, suc, ◌<◌, ◌≡◌, Bool, true, false, if◌then◌else◌, List, [], ◌∷◌, map, length, Option, Some, None, option_map, unwrap_or, bytes_eq, codes, position, Bor, refl, sym, ap, ◌∙◌, arith}
use Rattle.std.specs.List.{list_any}
use Rattle.std.specs.Option.{option_and_then}
use Rattle.fq_model.specs.Spelling.{is_name}
use Rattle.program_model.specs.declared.argument.Argument.TheVariants.{Number, Name}
use Rattle.program_model.specs.Numbers.{number_of}
use Rattle.program_model.specs.Lines.{Words}
use Rattle.program_model.specs.Options.{Within, Among, Named, Given, is_equals, given_by, options_of, is_value, within, argument_for}
use Rattle.command_line.specs.Given.{first_option, is_end}
use Rattle.command_line.proofs.Lists.{position-map}

-- ---- one option more

-- the words are g and then options
abbrev begins_with : Given → Words → Option (List Given)
begins_with g rest = option_map (λ more. g ∷ more) (options_of rest)

abbrev some_pair : Given → Words → Option (Given × Words)
some_pair g rest = Some (g, rest)

both : (x : Given) (xs : Words) (g : Given) (rest : Words) → some_pair x xs ≡ some_pair g rest → (x ≡ g) × (xs ≡ rest)
both x xs g rest e =
    let d : Given × Words = (x, xs) in
    (ap (λ o. (unwrap_or o d).0) e, ap (λ o. (unwrap_or o d).1) e)

step_one : (b : Bool) (word : List ℕ) (g : Given) (rest : Words) → (if b then some_pair (given_by word) [] else None) ≡ some_pair g rest → (if b then Some (given_by word ∷ []) else if bytes_eq word (codes "--") then Some [] else None) ≡ begins_with g rest
step_one true word g rest e =
    let same = both (given_by word) [] g rest e in
    rw (← same.0, ← same.1) refl
step_one false word g rest e = absurd (cc)

step_two : (b : Bool) (word next : List ℕ) (words : Words) (g : Given) (rest : Words) → (if b then some_pair (given_by word) (next ∷ words) else some_pair (record { name = word; text = next }) words) ≡ some_pair g rest → (if b then begins_with (given_by word) (next ∷ words) else begins_with (record { name = word; text = next }) words) ≡ begins_with g rest
step_two true word next words g rest e =
    let same = both (given_by word) (next ∷ words) g rest e in
    rw (← same.0, ← same.1) refl
step_two false word next words g rest e =
    let same = both (record { name = word; text = next }) words g rest e in
    rw (← same.0, ← same.1) refl

-- options begin with the first one
pub options_step : (words : Words) (g : Given) (rest : Words) → first_option words ≡ some_pair g rest → options_of words ≡ option_map (λ more. g ∷ more) (options_of rest)
options_step [] g rest e = absurd (cc)
options_step (word ∷ []) g rest e = step_one (list_any is_equals word) word g rest e
options_step (word ∷ next ∷ words) g rest e = step_two (list_any is_equals word) word next words g rest e

end_one : (b : Bool) (word : List ℕ) → (if b then some_pair (given_by word) [] else None) ≡ None → (if b then Some (given_by word ∷ []) else if bytes_eq word (codes "--") then Some [] else None) ≡ (if bytes_eq word (codes "--") then Some [] else None)
end_one true word e = absurd (cc)
end_one false word e = refl

end_two : (b : Bool) (x y : Given × Words) → (if b then Some x else Some y) ≡ None → ⊥
end_two true x y e = cc
end_two false x y e = cc

-- where no option comes first, the words have to be at their end
pub options_end : (words : Words) → first_option words ≡ None → options_of words ≡ (if is_end words then Some [] else None)
options_end [] e = refl
options_end (word ∷ []) e = end_one (list_any is_equals word) word e
options_end (word ∷ next ∷ words) e = absurd (end_two (list_any is_equals word) (given_by word, next ∷ words) (record { name = word; text = next }, words) e)

shorter_one : (b : Bool) (x : Given) (g : Given) (rest : Words) → (if b then some_pair x [] else None) ≡ some_pair g rest → length rest < 1
shorter_one true x g rest e = rw (← (both x [] g rest e).1) (omega arith)
shorter_one false x g rest e = absurd (cc)

shorter_two : (b : Bool) (x y : Given) (next : List ℕ) (words : Words) (g : Given) (rest : Words) → (if b then some_pair x (next ∷ words) else some_pair y words) ≡ some_pair g rest → length rest < suc (suc (length words))
shorter_two true x y next words g rest e = rw (← (both x (next ∷ words) g rest e).1) (omega arith)
shorter_two false x y next words g rest e = rw (← (both y words g rest e).1) (omega arith)

pub rest_shorter : (words : Words) (g : Given) (rest : Words) → first_option words ≡ some_pair g rest → length rest < length words
rest_shorter [] g rest e = absurd (cc)
rest_shorter (word ∷ []) g rest e = shorter_one (list_any is_equals word) (given_by word) g rest e
rest_shorter (word ∷ next ∷ words) g rest e = shorter_two (list_any is_equals word) (given_by word) (record { name = word; text = next }) next words g rest e

-- ---- the value that a text spells

pub place_among_words : (words : List (Bor (List ℕ))) (text : List ℕ) (place : Option ℕ) → is_value text ≡ true → place ≡ position (λ w. bytes_eq w.now text) words → argument_for (Among (map (λ w. w.now) words)) text ≡ option_map (λ n. Number n) place
unfolding argument_for
place_among_words words text place value is = rw value (ap (option_map (λ n. Number n)) (position-map (λ w. bytes_eq w text) (λ w. w.now) words ∙ sym is))

pub number_within : (low high : ℕ) (text : List ℕ) (number : Option ℕ) → is_value text ≡ true → number ≡ option_and_then (within low high) (number_of text) → argument_for (Within low high) text ≡ option_map (λ n. Number n) number
unfolding argument_for
number_within low high text number value is = rw value (ap (option_map (λ n. Number n)) (sym is))

some_name : (b : Bool) (x : List ℕ) (name : Option (List ℕ)) → name ≡ (if b then Some x else None) → (if b then Some (Name x) else None) ≡ option_map (λ n. Name n) name
some_name true x name is = ap (option_map (λ n. Name n)) (sym is)
some_name false x name is = ap (option_map (λ n. Name n)) (sym is)

pub name_named : (text : List ℕ) (name : Option (List ℕ)) → is_value text ≡ true → name ≡ (if is_name text then Some text else None) → argument_for Named text ≡ option_map (λ n. Name n) name
unfolding argument_for
name_named text name value is = rw value (some_name (is_name text) text name is)
