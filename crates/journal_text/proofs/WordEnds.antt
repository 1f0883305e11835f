-- A line's first word ends at its first space, or with the line.
use Rattle.std.proofs.Common.{ℕ, suc, ◌+◌, ◌-◌, ◌≤◌, ◌≡◌, ◌==◌, Bool, true, false, nat_lt, List, [], ◌∷◌, length, take, drop, refl, arith, Some, None, subst}
use Rattle.std.specs.List.{position_or_len, position}
use Rattle.std.proofs.lemmas.List.{take_rest}
use Rattle.std.proofs.lemmas.List.Splits.{slice_split_first}
use Rattle.program_model.specs.Lines.{words_of}
use Rattle.journal_text.proofs.FirstLine.{placed, unplaced}

abbrev space_in : List ℕ → ℕ
space_in text = position_or_len (λ b. b == 32) text

-- the word before a space, and the words after it
pub words_ended : (line : List ℕ) (end : ℕ) → Some end ≡ position (λ b. b == 32) line → words_of line ≡ take end line ∷ words_of (take (length line - (end + 1)) (drop (end + 1) line))
words_ended line end found =
    let here = placed end (space_in line) (length line) (nat_lt (space_in line) (length line)) refl found in
    let split : words_of line ≡ take (space_in line) line ∷ words_of (drop (space_in line + 1) line) = slice_split_first (λ b. b == 32) line 0 (omega (arith, here.1, here.0)) in
    rw take_rest (subst (λ (e : ℕ). words_of line ≡ take e line ∷ words_of (drop (e + 1) line)) here.0 split)

one_more : (b : ℕ) (bs : List ℕ) (t : Bool) → (b == 32) ≡ t → length (b ∷ bs) ≤ space_in (b ∷ bs)
    → (length bs ≤ space_in bs → words_of bs ≡ bs ∷ []) → words_of (b ∷ bs) ≡ (b ∷ bs) ∷ []
one_more b bs true e le later = let none : suc (length bs) ≤ 0 = rw e at le in absurd (omega arith)
one_more b bs false e le later =
    let long : suc (length bs) ≤ 1 + space_in bs = rw e at le in
    rw (e, later (omega arith)) refl

one_word : (text : List ℕ) → length text ≤ space_in text → words_of text ≡ text ∷ []
one_word [] le = refl
one_word (b ∷ bs) le = one_more b bs (b == 32) refl le (one_word bs)

-- a line without a space is one word
pub words_open : (line : List ℕ) → None ≡ position (λ b. b == 32) line → words_of line ≡ line ∷ []
words_open line none = one_word line (unplaced (space_in line) (length line) (nat_lt (space_in line) (length line)) refl none)
