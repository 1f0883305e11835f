-- A text that grows begins with the old text.
use Rattle.std.proofs.Common.{ℕ, Bool, true, false, cond, ◌+◌, ◌<◌, ◌≤◌, ◌≡◌, ◌∙◌, ◌-◌, List, [], ◌∷◌, ◌++◌, length, take, drop, Result, Ok, Err, sym, ap, append_assoc, arith, slice_index, get_or}
use Rattle.std.specs.Prelude.{codes, OnOk, OnErr}
use Rattle.std.specs.Fmt.{decimal}
use Rattle.std.proofs.lemmas.List.{append-nil, at_drop_more, at_drop_all, drop_all, take_rest}
use Rattle.std.proofs.Math.Seq.{take-append_seam}
use Rattle.program_model.specs.JournalText.{numbers_text}
use Rattle.journal_text.specs.Printing.{IsKept}

pub kept_all : (old : List ℕ) → IsKept old old
kept_all old = ([], sym (append-nil old))

pub kept_more : (old text more new : List ℕ) → IsKept old text → new ≡ text ++ more → IsKept old new
kept_more old text more new kept is = (kept.0 ++ more, is ∙ ap (λ t. t ++ more) kept.1 ∙ append_assoc old kept.0 more)

-- cut back to its length, it is as it was
pub cut_back : (old text : List ℕ) → IsKept old text → take (length old) text ≡ old
cut_back old text kept = ap (take (length old)) kept.1 ∙ take-append_seam old kept.0

-- a text that grows twice
pub kept_through : (old text new : List ℕ) → IsKept old text → IsKept text new → IsKept old new
kept_through old text new kept then = kept_more old text then.0 new kept then.1

-- one item more is printed, as its line
pub one_more : {X : Type 0} (told : List X → List ℕ) (things : List X) (k : ℕ) (none : X) (line text new all : List ℕ) → k < length things
    → told (get_or things k none ∷ drop (k + 1) things) ≡ line ++ told (drop (k + 1) things) → new ≡ text ++ line
    → text ++ told (drop k things) ≡ all → new ++ told (drop (k + 1) things) ≡ all
one_more told things k none line text new all lt tells is so_far =
    let below = told (drop (k + 1) things) in
    ap (λ t. t ++ below) is ∙ append_assoc text line below ∙ ap (λ t. text ++ t) (sym (at_drop_more told things k none lt ∙ tells)) ∙ so_far

-- all items are printed
pub all_told : {X : Type 0} (told : List X → List ℕ) (things : List X) (k : ℕ) (text all : List ℕ) → length things ≤ k → told [] ≡ []
    → text ++ told (drop k things) ≡ all → text ≡ all
all_told told things k text all le nothing so_far = sym (append-nil text) ∙ ap (λ t. text ++ t) (sym (at_drop_all told things k le ∙ nothing)) ∙ so_far

-- one number more of those that are appended
pub one_number : (numbers : List ℕ) (k : ℕ) (text new all : List ℕ) → k < length numbers → new ≡ text ++ (codes " " ++ decimal (slice_index numbers k))
    → text ++ numbers_text (drop k numbers) ≡ all → new ++ numbers_text (drop (k + 1) numbers) ≡ all
one_number numbers k text new all lt is so_far =
    let row = codes " " ++ decimal (slice_index numbers k) in
    let below = numbers_text (drop (k + 1) numbers) in
    let next : numbers_text (drop k numbers) ≡ codes " " ++ decimal (slice_index numbers k) ++ below = at_drop_more numbers_text numbers k 0 lt in
    ap (λ t. t ++ below) is ∙ append_assoc text row below ∙ ap (λ t. text ++ t) (append_assoc (codes " ") (decimal (slice_index numbers k)) below ∙ sym next) ∙ so_far

-- the end of the line, where all numbers are appended
pub all_numbers : (numbers : List ℕ) (k : ℕ) (text new all : List ℕ) → length numbers ≤ k → new ≡ text ++ codes "\n"
    → text ++ numbers_text (drop k numbers) ≡ all → new ≡ all
all_numbers numbers k text new all le is so_far =
    let none : drop k numbers ≡ [] = drop_all k numbers le in
    is ∙ rw none at so_far

-- a text to which nothing is added
pub kept_still : (old text new : List ℕ) → IsKept old text → new ≡ text → IsKept old new
kept_still old text new kept is = (kept.0, is ∙ kept.1)

-- a text to which another is added, or nothing
pub kept_either : (old text more new : List ℕ) (t : Bool) → IsKept old text → new ≡ cond t (text ++ more) text → IsKept old new
kept_either old text more new true kept is = kept_more old text more new kept is
kept_either old text more new false kept is = kept_still old text new kept is

-- the last numbers are appended at once, or the text stays as it was
pub rest_added : {A E : Type 0} (r : Result A E) (numbers : List ℕ) (first k : ℕ) (text new all : List ℕ) → k ≤ first → first ≤ k
    → OnOk r (new ≡ text ++ numbers_text (take (length numbers - first) (drop first numbers))) → text ++ numbers_text (drop k numbers) ≡ all → OnOk r (new ≡ all)
rest_added (Ok x) numbers first k text new all below past added so_far =
    let same : first ≡ k = omega arith in
    added ∙ ap (λ l. text ++ numbers_text l) (take_rest numbers first ∙ ap (λ i. drop i numbers) same) ∙ so_far
rest_added (Err e) numbers first k text new all below past added so_far = tt

pub rest_kept : {A E : Type 0} (r : Result A E) (old text more new : List ℕ) → OnOk r (new ≡ text ++ more) → OnErr r (new ≡ text) → IsKept old text → IsKept old new
rest_kept (Ok x) old text more new added unchanged kept = kept_more old text more new kept added
rest_kept (Err e) old text more new added unchanged kept = kept_still old text new kept unchanged
