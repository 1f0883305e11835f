-- The values given for options while the words are gone through, against the definitions, which take all words at once.
use Rattle.std.proofs.Common.{ℕ, zero, suc, ◌<◌, ◌≡◌, Bool, true, false, not, ◌&&◌, ◌||◌, if◌then◌else◌, List, [], ◌∷◌, length, get_or, Option, Some, None, option_map, bytes_eq, position, refl, sym, ap, ◌∙◌, arith}
use Rattle.std.specs.List.{list_any}
use Rattle.std.specs.Option.{option_and_then, is_some}
use Rattle.std.proofs.Math.ListN.{set, replicate}
use Rattle.std.proofs.lemmas.Bool.{false≢true, false_from_ne_true}
use Rattle.std.proofs.lemmas.List.Folds.{list_any_at}
use Rattle.std.proofs.lemmas.List.Quantifiers.{position-Some}
use Rattle.std.proofs.lemmas.Slice.Eq.{bytes_eq-Decides}
use Rattle.program_model.specs.declared.argument.Argument.{Argument}
use Rattle.program_model.specs.Lines.{Words}
use Rattle.program_model.specs.Options.{OptionRow, Given, Value, options_of, are_known, texts_for, argument_for, value_of, values_of, values_in}
use Rattle.command_line.specs.Given.{first_option, is_end}
use Rattle.command_line.specs.Rows.{has_name, are_distinct, or_absent}
use Rattle.command_line.proofs.Lists.{none_has}
use Rattle.command_line.proofs.Words.{options_step, options_end}

-- ---- the values, where some are given before

-- the value of an option for which something is given before, or nothing is, and for which these texts come
abbrev pub value_with : OptionRow → Value → List (List ℕ) → Option Value
value_with row None texts = value_of row texts
value_with row (Some n) [] = Some (Some n)
value_with row (Some n) (text ∷ texts) = None

-- a value before others
abbrev pub with_value : Option Value → Option (List Value) → Option (List Value)
with_value value values = option_and_then (λ v. option_map (λ vs. v ∷ vs) values) value

-- the values of options
abbrev pub values_with : List OptionRow → List Value → List Given → Option (List Value)
values_with [] args given = Some []
values_with (row ∷ rows) [] given = Some []
values_with (row ∷ rows) (v ∷ args) given =
    with_value (value_with row v (texts_for row.name given)) (values_with rows args given)

-- the values of options by the values that are given for them
abbrev pub with_absent : List OptionRow → List Value → Option (List Value)
with_absent [] args = Some []
with_absent (row ∷ rows) [] = Some []
with_absent (row ∷ rows) (v ∷ args) = with_value (or_absent row v) (with_absent rows args)

value_end : (row : OptionRow) (v : Value) → value_with row v [] ≡ or_absent row v
value_end row None = refl
value_end row (Some n) = refl

-- nothing more comes
values_end : (rows : List OptionRow) (args : List Value) → values_with rows args [] ≡ with_absent rows args
values_end [] args = refl
values_end (row ∷ rows) [] = refl
values_end (row ∷ rows) (v ∷ args) =
    ap (λ value. with_value value (values_with rows args [])) (value_end row v) ∙ ap (with_value (or_absent row v)) (values_end rows args)

-- nothing came before
values_start : (rows : List OptionRow) (n : ℕ) (given : List Given) → length rows ≡ n → values_with rows (replicate n None) given ≡ values_of rows given
values_start [] n given e = refl
values_start (row ∷ rows) zero given e = absurd (omega (arith, e))
values_start (row ∷ rows) (suc n) given e = ap (with_value (value_of row (texts_for row.name given))) (values_start rows n given (omega (arith, e)))

-- ---- one option more

same_name : (x y : List ℕ) → bytes_eq x y ≡ true → x ≡ y
same_name x y e = (bytes_eq-Decides x y).0 e

bytes_sym : (x y : List ℕ) → bytes_eq x y ≡ true → bytes_eq y x ≡ true
bytes_sym x y e = (bytes_eq-Decides y x).1 (sym (same_name x y e))

bytes_other : (x y : List ℕ) → bytes_eq x y ≡ false → bytes_eq y x ≡ false
bytes_other x y ne = false_from_ne_true (bytes_eq y x) (λ e. false≢true (sym ne ∙ bytes_sym y x e))

texts_same : (name : List ℕ) (g : Given) (more : List Given) → bytes_eq g.name name ≡ true → texts_for name (g ∷ more) ≡ g.text ∷ texts_for name more
texts_same name g more same = rw same refl

texts_other : (name : List ℕ) (g : Given) (more : List Given) → bytes_eq g.name name ≡ false → texts_for name (g ∷ more) ≡ texts_for name more
texts_other name g more other = rw other refl

or_none : (a b : Bool) → (a || b) ≡ false → (a ≡ false) × (b ≡ false)
or_none false b e = (refl, e)
or_none true b e = absurd (false≢true (sym e))

-- an option leaves the values of those with other names
others_stay : (rows : List OptionRow) (args : List Value) (g : Given) (more : List Given) → list_any (has_name g.name) rows ≡ false → values_with rows args (g ∷ more) ≡ values_with rows args more
others_stay [] args g more none = refl
others_stay (row ∷ rows) [] g more none = refl
others_stay (row ∷ rows) (v ∷ args) g more none =
    let parts = or_none (has_name g.name row) (list_any (has_name g.name) rows) none in
    let texts = texts_other row.name g more (bytes_other row.name g.name parts.0) in
    ap (λ ts. with_value (value_with row v ts) (values_with rows args (g ∷ more))) texts ∙ ap (with_value (value_with row v (texts_for row.name more))) (others_stay rows args g more parts.1)

parts_distinct : (any more : Bool) → (not any && more) ≡ true → (any ≡ false) × (more ≡ true)
parts_distinct false more e = (refl, e)
parts_distinct true more e = absurd (false≢true e)

value_first : (row : OptionRow) (text : List ℕ) (a : Argument) (texts : List (List ℕ)) → argument_for row.values text ≡ Some a → value_of row (text ∷ texts) ≡ value_with row (Some a) texts
value_first row text a [] is = ap (option_map (λ m. Some m)) is
value_first row text a (t ∷ texts) is = refl

-- an option that comes first, with one of its values
values_step : (rows : List OptionRow) (args : List Value) (k : ℕ) (d : OptionRow) (g : Given) (more : List Given) (a : Argument) → are_distinct rows ≡ true → k < length rows → k < length args → has_name g.name (get_or rows k d) ≡ true → get_or args k None ≡ None → argument_for (get_or rows k d).values g.text ≡ Some a → values_with rows args (g ∷ more) ≡ values_with rows (set args k (Some a)) more
values_step [] args k d g more a distinct in_rows in_args named none is = absurd (omega arith)
values_step (row ∷ rows) [] k d g more a distinct in_rows in_args named none is = absurd (omega arith)
values_step (row ∷ rows) (v ∷ args) zero d g more a distinct in_rows in_args named none is =
    let alone = (parts_distinct (list_any (has_name row.name) rows) (are_distinct rows) distinct).0 in
    let others = ap (λ x. list_any (has_name x) rows) (sym (same_name row.name g.name named)) ∙ alone in
    let texts = texts_same row.name g more (bytes_sym row.name g.name named) in
    let first = ap (value_with row v) texts ∙ (ap (λ u. value_with row u (g.text ∷ texts_for row.name more)) none ∙ value_first row g.text a (texts_for row.name more) is) in
    ap (λ value. with_value value (values_with rows args (g ∷ more))) first ∙ ap (with_value (value_with row (Some a) (texts_for row.name more))) (others_stay rows args g more others)
values_step (row ∷ rows) (v ∷ args) (suc k) d g more a distinct in_rows in_args named none is =
    let parts = parts_distinct (list_any (has_name row.name) rows) (are_distinct rows) distinct in
    let name = same_name (get_or rows k d).name g.name named in
    let other = false_from_ne_true (bytes_eq g.name row.name) (λ e. false≢true (sym parts.0 ∙ list_any_at (has_name row.name) rows k d (omega arith) (ap (λ x. bytes_eq x row.name) name ∙ e))) in
    let later = values_step rows args k d g more a parts.1 (omega arith) (omega arith) named none is in
    ap (λ ts. with_value (value_with row v ts) (values_with rows args (g ∷ more))) (texts_other row.name g more other) ∙ ap (with_value (value_with row v (texts_for row.name more))) later

no_values : (value : Option Value) → with_value value None ≡ None
no_values None = refl
no_values (Some v) = refl

-- where one option has no value, there are none
values_stop : (rows : List OptionRow) (args : List Value) (k : ℕ) (d : OptionRow) (given : List Given) → k < length rows → k < length args → value_with (get_or rows k d) (get_or args k None) (texts_for (get_or rows k d).name given) ≡ None → values_with rows args given ≡ None
values_stop [] args k d given in_rows in_args none = absurd (omega arith)
values_stop (row ∷ rows) [] k d given in_rows in_args none = absurd (omega arith)
values_stop (row ∷ rows) (v ∷ args) zero d given in_rows in_args none = ap (λ value. with_value value (values_with rows args given)) none
values_stop (row ∷ rows) (v ∷ args) (suc k) d given in_rows in_args none =
    let value = value_with row v (texts_for row.name given) in
    ap (with_value value) (values_stop rows args k d given (omega arith) (omega arith) none) ∙ no_values value

value_twice : (row : OptionRow) (v : Value) (g : Given) (more : List Given) → has_name g.name row ≡ true → is_some v ≡ true → value_with row v (texts_for row.name (g ∷ more)) ≡ None
value_twice row None g more named some = absurd (false≢true some)
value_twice row (Some m) g more named some = ap (value_with row (Some m)) (texts_same row.name g more (bytes_sym row.name g.name named))

no_value_then : (row : OptionRow) (v : Value) (text : List ℕ) (texts : List (List ℕ)) → argument_for row.values text ≡ None → value_with row v (text ∷ texts) ≡ None
no_value_then row (Some m) text texts is = refl
no_value_then row None text [] is = ap (option_map (λ m. Some m)) is
no_value_then row None text (t ∷ texts) is = refl

value_bad : (row : OptionRow) (v : Value) (g : Given) (more : List Given) → has_name g.name row ≡ true → argument_for row.values g.text ≡ None → value_with row v (texts_for row.name (g ∷ more)) ≡ None
value_bad row v g more named is = ap (value_with row v) (texts_same row.name g more (bytes_sym row.name g.name named)) ∙ no_value_then row v g.text (texts_for row.name more) is

-- ---- the values by words

-- the values of options for which this is given before the words
abbrev pub values_after : List OptionRow → List Value → Words → Option (List Value)
values_after rows args words =
    option_and_then (λ given. if are_known rows given then values_with rows args given else None) (options_of words)

pub after_start : (rows : List OptionRow) (n : ℕ) (words : Words) → length rows ≡ n → values_in rows words ≡ values_after rows (replicate n None) words
unfolding values_in
after_start rows n words count = go (options_of words)
  where
    go : (given : Option (List Given)) → option_and_then (λ g. if are_known rows g then values_of rows g else None) given ≡ option_and_then (λ g. if are_known rows g then values_with rows (replicate n None) g else None) given
    go None = refl
    go (Some g) = ap (λ vs. if are_known rows g then vs else None) (sym (values_start rows n g count))

-- the values by given options that begin with g, if all of them are known
abbrev first_known : List OptionRow → List Value → Given → List Given → Option (List Value)
first_known rows args g more = if list_any (has_name g.name) rows && are_known rows more then values_with rows args (g ∷ more) else None

after_first : (rows : List OptionRow) (args : List Value) (words : Words) (g : Given) (rest : Words) → first_option words ≡ Some (g, rest) → values_after rows args words ≡ option_and_then (first_known rows args g) (options_of rest)
after_first rows args words g rest e = ap (option_and_then (λ given. if are_known rows given then values_with rows args given else None)) (options_step words g rest e) ∙ go (options_of rest)
  where
    go : (more : Option (List Given)) → option_and_then (λ given. if are_known rows given then values_with rows args given else None) (option_map (λ l. g ∷ l) more) ≡ option_and_then (first_known rows args g) more
    go None = refl
    go (Some more) = refl

all_none : (ask : List Given → Option (List Value)) → ((given : List Given) → ask given ≡ None) → (given : Option (List Given)) → option_and_then ask given ≡ None
all_none ask none None = refl
all_none ask none (Some given) = none given

either_none : (b : Bool) (values : Option (List Value)) → values ≡ None → (if b then values else None) ≡ None
either_none true values e = e
either_none false values e = refl

-- an option that the command has not
pub after_unknown : (rows : List OptionRow) (args : List Value) (words : Words) (g : Given) (rest : Words) → first_option words ≡ Some (g, rest) → position (has_name g.name) rows ≡ None → values_after rows args words ≡ None
after_unknown rows args words g rest e none =
    let unknown = none_has (has_name g.name) rows none in
    after_first rows args words g rest e ∙ all_none (first_known rows args g) (λ more. ap (λ b. if b && are_known rows more then values_with rows args (g ∷ more) else None) unknown) (options_of rest)

-- an option that is given again
pub after_twice : (rows : List OptionRow) (args : List Value) (words : Words) (g : Given) (rest : Words) (k : ℕ) (d : OptionRow) → first_option words ≡ Some (g, rest) → position (has_name g.name) rows ≡ Some k → length args ≡ length rows → is_some (get_or args k None) ≡ true → values_after rows args words ≡ None
after_twice rows args words g rest k d e place long some =
    let at = position-Some (has_name g.name) rows k d place in
    after_first rows args words g rest e ∙ all_none (first_known rows args g) (λ more. either_none (list_any (has_name g.name) rows && are_known rows more) (values_with rows args (g ∷ more)) (values_stop rows args k d (g ∷ more) at.0 (omega (arith, long, at.0)) (value_twice (get_or rows k d) (get_or args k None) g more at.1 some))) (options_of rest)

-- an option with another text than one of its values
pub after_bad : (rows : List OptionRow) (args : List Value) (words : Words) (g : Given) (rest : Words) (k : ℕ) (d : OptionRow) → first_option words ≡ Some (g, rest) → position (has_name g.name) rows ≡ Some k → length args ≡ length rows → argument_for (get_or rows k d).values g.text ≡ None → values_after rows args words ≡ None
after_bad rows args words g rest k d e place long is =
    let at = position-Some (has_name g.name) rows k d place in
    after_first rows args words g rest e ∙ all_none (first_known rows args g) (λ more. either_none (list_any (has_name g.name) rows && are_known rows more) (values_with rows args (g ∷ more)) (values_stop rows args k d (g ∷ more) at.0 (omega (arith, long, at.0)) (value_bad (get_or rows k d) (get_or args k None) g more at.1 is))) (options_of rest)

-- an option with one of its values
pub after_step : (rows : List OptionRow) (args : List Value) (words : Words) (g : Given) (rest : Words) (k : ℕ) (d : OptionRow) (a : Argument) → first_option words ≡ Some (g, rest) → are_distinct rows ≡ true → position (has_name g.name) rows ≡ Some k → length args ≡ length rows → is_some (get_or args k None) ≡ false → argument_for (get_or rows k d).values g.text ≡ Some a → values_after rows args words ≡ values_after rows (set args k (Some a)) rest
after_step rows args words g rest k d a e distinct place long free is =
    after_first rows args words g rest e ∙ go (options_of rest)
  where
    not_some : (v : Value) → is_some v ≡ false → v ≡ None
    not_some None h = refl
    not_some (Some m) h = absurd (false≢true (sym h))

    go : (given : Option (List Given)) → option_and_then (first_known rows args g) given ≡ option_and_then (λ more. if are_known rows more then values_with rows (set args k (Some a)) more else None) given
    go None = refl
    go (Some more) =
        let at = position-Some (has_name g.name) rows k d place in
        let known = list_any_at (has_name g.name) rows k d at.0 at.1 in
        let step = values_step rows args k d g more a distinct at.0 (omega (arith, long, at.0)) at.1 (not_some (get_or args k None) free) is in
        ap (λ b. if b && are_known rows more then values_with rows args (g ∷ more) else None) known ∙ ap (λ vs. if are_known rows more then vs else None) step

-- no option comes first
pub after_end : (rows : List OptionRow) (args : List Value) (words : Words) → first_option words ≡ None → values_after rows args words ≡ (if is_end words then with_absent rows args else None)
after_end rows args words e = ap (option_and_then (λ given. if are_known rows given then values_with rows args given else None)) (options_end words e) ∙ go (is_end words)
  where
    go : (b : Bool) → option_and_then (λ given. if are_known rows given then values_with rows args given else None) (if b then Some [] else None) ≡ (if b then with_absent rows args else None)
    go true = values_end rows args
    go false = refl
