-- A text's first line ends at its first LF, or with the text.
use Rattle.std.proofs.Common.{ℕ, suc, ◌+◌, ◌-◌, ◌<◌, ◌≤◌, ◌≡◌, ◌==◌, Bool, true, false, List, [], ◌∷◌, length, take, drop, refl, arith, Option, Some, None, nat_lt, if◌then◌else◌, sym, ap, ◌∙◌, subst, length-drop}
use borrow.Author.Tests.{ltb-true, ltb-false}
use Rattle.std.specs.List.{position_or_len, position, onto_first}
use Rattle.std.proofs.lemmas.List.{take_rest, drop_all}
use Rattle.std.proofs.lemmas.List.Sums.{position_or_len_is}
use Rattle.std.proofs.lemmas.Bool.{false_from_ne_true, cond_below, cond_above}
use Rattle.memchr.specs.Find.{IsFirstByte, is_byte}
use Rattle.program_model.specs.Lines.{lines_of}
use Rattle.journal_text.specs.FirstLine.{IsFirstLine}

abbrev pub end_of : List ℕ → ℕ
end_of text = position_or_len (λ b. b == 10) text

more_at : (b : ℕ) (bs : List ℕ) (t : Bool) → (b == 10) ≡ t → end_of (b ∷ bs) < length (b ∷ bs) → (end_of bs < length bs → lines_of bs ≡ take (end_of bs) bs ∷ lines_of (drop (end_of bs + 1) bs)) → lines_of (b ∷ bs) ≡ take (end_of (b ∷ bs)) (b ∷ bs) ∷ lines_of (drop (end_of (b ∷ bs) + 1) (b ∷ bs))
more_at b bs true e lt later = rw e refl
more_at b bs false e lt later =
    let one : 1 + end_of bs ≡ suc (end_of bs) = omega arith in
    let two : suc (end_of bs) + 1 ≡ suc (end_of bs + 1) = omega arith in
    let short : 1 + end_of bs < suc (length bs) = rw e at lt in
    let h : lines_of bs ≡ take (end_of bs) bs ∷ lines_of (drop (end_of bs + 1) bs) = later (omega arith) in
    rw (e, h, one, two) refl

-- the first line of a text with an LF
pub lines_of-ended : (text : List ℕ) → end_of text < length text → lines_of text ≡ take (end_of text) text ∷ lines_of (drop (end_of text + 1) text)
lines_of-ended [] lt = absurd (omega arith)
lines_of-ended (b ∷ bs) lt = more_at b bs (b == 10) refl lt (lines_of-ended bs)

more_open : (b : ℕ) (bs : List ℕ) (t : Bool) → (b == 10) ≡ t → length (b ∷ bs) ≤ end_of (b ∷ bs) → (length bs ≤ end_of bs → onto_first b (lines_of bs) ≡ (b ∷ bs) ∷ []) → lines_of (b ∷ bs) ≡ (b ∷ bs) ∷ []
more_open b bs true e le later = let none : suc (length bs) ≤ 0 = rw e at le in absurd (omega arith)
more_open b bs false e le later =
    let long : suc (length bs) ≤ 1 + end_of bs = rw e at le in
    rw e (later (omega arith))

-- a text without an LF is one line
pub lines_of-open : (b : ℕ) (bs : List ℕ) → length (b ∷ bs) ≤ end_of (b ∷ bs) → lines_of (b ∷ bs) ≡ (b ∷ bs) ∷ []
lines_of-open b [] le = more_open b [] (b == 10) refl le (λ _. refl)
lines_of-open b (c ∷ cs) le = more_open b (c ∷ cs) (b == 10) refl le (λ h. rw (lines_of-open c cs h) refl)

pub placed : (n e len : ℕ) (t : Bool) → nat_lt e len ≡ t → Some n ≡ (if t then Some e else None) → (e ≡ n) × (n < len)
placed n e len true lt h =
    let same : e ≡ n = cc in
    (same, omega (arith, ltb-true e len lt))
placed n e len false lt h = absurd (cc)

pub first_line_at : (text : List ℕ) (end : ℕ) → Some end ≡ position (λ b. b == 10) text → IsFirstLine text (take end text) (take (length text - (end + 1)) (drop (end + 1) text))
first_line_at text end h =
    let here = placed end (end_of text) (length text) (nat_lt (end_of text) (length text)) refl h in
    let is : end_of text ≡ end = here.0 in
    let whole : lines_of text ≡ take (end_of text) text ∷ lines_of (drop (end_of text + 1) text) = lines_of-ended text (omega (arith, here.1, is)) in
    record {
      lines = rw take_rest (subst (λ (e : ℕ). lines_of text ≡ take e text ∷ lines_of (drop (e + 1) text)) is whole);
      shorter = omega (arith, here.1, ap length (take_rest text (end + 1)), length-drop (end + 1) text);
    }

pub unplaced : (e len : ℕ) (t : Bool) → nat_lt e len ≡ t → None ≡ (if t then Some e else None) → len ≤ e
unplaced e len true lt h = absurd (cc)
unplaced e len false lt h = omega (arith, ltb-false e len lt)

pub first_line_open : (text : List ℕ) → (length text == 0) ≡ false → None ≡ position (λ b. b == 10) text → IsFirstLine text text (take (length text - length text) (drop (length text) text))
first_line_open [] some h = absurd (cc)
first_line_open (b ∷ bs) some h =
    let text = b ∷ bs in
    let open_end : length text ≤ end_of text = unplaced (end_of text) (length text) (nat_lt (end_of text) (length text)) refl h in
    let none : take (length text - length text) (drop (length text) text) ≡ [] = take_rest text (length text) ∙ drop_all (length text) text (omega arith) in
    record {
      lines = rw none (lines_of-open b bs open_end);
      shorter = rw none (omega arith);
    }

-- a search for a byte finds the first such byte
pub found_at : (byte : ℕ) (text : List ℕ) (r : Option ℕ) → IsFirstByte (is_byte byte) text r → r ≡ position (λ b. b == byte) text
found_at byte text None none =
    let passed : position_or_len (λ b. b == byte) text ≡ length text = position_or_len_is (λ b. b == byte) text (length text) 0 (omega arith)
    (λ k lt. false_from_ne_true _ (none k (omega arith) lt)) (λ lt. absurd (omega arith)) in
    cond_above (position_or_len (λ b. b == byte) text) (length text) (Some (position_or_len (λ b. b == byte) text)) None None (omega arith) refl
found_at byte text (Some k) found =
    let here : position_or_len (λ b. b == byte) text ≡ k = position_or_len_is (λ b. b == byte) text k 0 (omega (arith, found.0.high))
    (λ i lt. false_from_ne_true _ (found.0.before i (omega arith) lt)) (λ lt. found.1) in
    ap Some (sym here) ∙ cond_below (position_or_len (λ b. b == byte) text) (length text) (Some (position_or_len (λ b. b == byte) text)) None (omega (arith, found.0.high))
