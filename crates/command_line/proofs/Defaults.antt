-- The values of options that are not given, put in one after another.
use Rattle.std.proofs.Common.{ℕ, ◌+◌, ◌<◌, ◌≤◌, ◌≡◌, List, [], ◌∷◌, ◌++◌, map, length, get_or, take, drop, Option, Some, None, option_map, refl, sym, ap, ◌∙◌, arith, append_assoc, add-one, drop-cons}
use Rattle.std.proofs.Math.ListN.{set}
use Rattle.std.proofs.lemmas.List.{get_or-map, take_more_set, drop-set-lt, take_all, drop_all, append-nil}
use Rattle.command_line.specs.declared.options.OptionRow as code
use Rattle.program_model.specs.Options.{OptionRow, Value}
use Rattle.command_line.specs.Rows.{seen_row, or_absent}
use Rattle.command_line.proofs.Lists.{length_map}
use Rattle.command_line.proofs.Arguments.{with_value, with_absent}

-- the values that are put in, and those of the rows from place k on
abbrev pub filled : List OptionRow → ℕ → List Value → Option (List Value)
filled rows k values = option_map (λ vs. take k values ++ vs) (with_absent (drop k rows) (drop k values))

some_same : (values : Option (List Value)) → values ≡ option_map (λ vs. vs) values
some_same None = refl
some_same (Some vs) = refl

pub filled_start : (rows : List OptionRow) (values : List Value) → with_absent rows values ≡ filled rows 0 values
filled_start rows values = some_same (with_absent rows values)

rows_from : (rows : List code.OptionRow) (k : ℕ) (d : code.OptionRow) → k < length rows → drop k (map seen_row rows) ≡ seen_row (get_or rows k d) ∷ drop (k + 1) (map seen_row rows)
rows_from rows k d lt =
    let below : k < length (map seen_row rows) = omega (arith, length_map seen_row rows) in
    rw (add-one, drop-cons (map seen_row rows) k (seen_row d) below, get_or-map seen_row rows k d (seen_row d) lt) refl

values_from : (values : List Value) (k : ℕ) → k < length values → drop k values ≡ get_or values k None ∷ drop (k + 1) values
values_from values k lt = rw (add-one) (drop-cons values k None lt)

-- the row at place k, and those after it
absent_from : (rows : List code.OptionRow) (values : List Value) (k : ℕ) (d : code.OptionRow) → k < length rows → k < length values → with_absent (drop k (map seen_row rows)) (drop k values) ≡ with_value (or_absent (seen_row (get_or rows k d)) (get_or values k None)) (with_absent (drop (k + 1) (map seen_row rows)) (drop (k + 1) values))
absent_from rows values k d in_rows in_values =
    ap (λ l. with_absent l (drop k values)) (rows_from rows k d in_rows) ∙ ap (with_absent (seen_row (get_or rows k d) ∷ drop (k + 1) (map seen_row rows))) (values_from values k in_values)

front_more : (front : List Value) (v : Value) (rest : Option (List Value)) → option_map (λ vs. front ++ vs) (option_map (λ vs. v ∷ vs) rest) ≡ option_map (λ vs. (front ++ v ∷ []) ++ vs) rest
front_more front v None = refl
front_more front v (Some vs) = ap Some (sym (append_assoc front (v ∷ []) vs))

-- one value more
pub filled_more : (rows : List code.OptionRow) (values : List Value) (k : ℕ) (d : code.OptionRow) (v : Value) → k < length rows → k < length values → or_absent (seen_row (get_or rows k d)) (get_or values k None) ≡ Some v → filled (map seen_row rows) k values ≡ filled (map seen_row rows) (k + 1) (set values k v)
filled_more rows values k d v in_rows in_values is =
    let later = with_absent (drop (k + 1) (map seen_row rows)) (drop (k + 1) values) in
    let step = absent_from rows values k d in_rows in_values ∙ ap (λ value. with_value value later) is in
    let after : k < k + 1 = omega arith in
    rw (take_more_set values k v in_values, drop-set-lt (k + 1) values k v after) (ap (option_map (λ vs. take k values ++ vs)) step ∙ front_more (take k values) v later)

-- an option that has to be given, and is not
pub filled_stop : (rows : List code.OptionRow) (values : List Value) (k : ℕ) (d : code.OptionRow) → k < length rows → k < length values → or_absent (seen_row (get_or rows k d)) (get_or values k None) ≡ None → filled (map seen_row rows) k values ≡ None
filled_stop rows values k d in_rows in_values is =
    let later = with_absent (drop (k + 1) (map seen_row rows)) (drop (k + 1) values) in
    let step = absent_from rows values k d in_rows in_values ∙ ap (λ value. with_value value later) is in
    ap (option_map (λ vs. take k values ++ vs)) step

pub filled_all : (rows : List OptionRow) (values : List Value) (k : ℕ) → length rows ≤ k → length values ≤ k → filled rows k values ≡ Some values
filled_all rows values k past_rows past_values = rw (drop_all k rows past_rows, take_all k values past_values, append-nil values) refl
