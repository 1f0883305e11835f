-- The text of a line determines its word and the numbers after it.
use Rattle.std.proofs.Common.{ℕ, ◌+◌, ◌%◌, ◌^◌, ◌<◌, ◌≤◌, ◌≡◌, List, [], ◌∷◌, ◌++◌, length, refl, sym, ap, ◌∙◌, subst, arith, append_assoc, length-append}
use Rattle.std.specs.Fmt.{decimal}
use Rattle.std.proofs.lemmas.Fmt.{decimal_by_steps, decimal_injective}
use Rattle.program_model.specs.JournalText.{numbers_text}

-- each byte is above the space, and so above LF too
abbrev pub IsWord : List ℕ → Type 0
IsWord [] = Unit {0}
IsWord (b ∷ bs) = (32 < b) × IsWord bs

-- the text goes on with no byte of a word
abbrev pub IsEnd : List ℕ → Type 0
IsEnd [] = Unit {0}
IsEnd (b ∷ bs) = b ≤ 32

-- each number has 64 bits at most
abbrev pub AreSmall : List ℕ → Type 0
AreSmall [] = Unit {0}
AreSmall (n ∷ ns) = (n < 2 ^ 64) × AreSmall ns

-- the text tells where its first word ends
word_told : (v w r s : List ℕ) → IsWord v → IsWord w → IsEnd r → IsEnd s → v ++ r ≡ w ++ s → (v ≡ w) × (r ≡ s)
word_told [] [] r s one two ended closed same = (refl, same)
word_told [] (c ∷ w) r s one two ended closed same =
    let low : c ≤ 32 = subst IsEnd same ended in
    absurd (omega (arith, low, two.0))
word_told (b ∷ v) [] r s one two ended closed same =
    let low : b ≤ 32 = subst IsEnd (sym same) closed in
    absurd (omega (arith, low, one.0))
word_told (b ∷ v) (c ∷ w) r s one two ended closed same =
    let first : b ≡ c = cc in
    let later : v ++ r ≡ w ++ s = cc in
    let told = word_told v w r s one.1 two.1 ended closed later in
    (rw (first, told.0) refl, told.1)

word-push : (bs : List ℕ) (b : ℕ) → IsWord bs → 32 < b → IsWord (bs ++ b ∷ [])
word-push [] b is high = (high, tt)
word-push (c ∷ bs) b is high = (is.0, word-push bs b is.1 high)

pub decimal-word : (n : ℕ) → n < 2 ^ 64 → IsWord (decimal n)
decimal-word = decimal_by_steps (λ m ds. IsWord ds)
    (λ m below. (omega arith, tt))
    (λ m ds more is. word-push ds (48 + m % 10) is (omega arith))

numbers-end : (ns r : List ℕ) → IsEnd (numbers_text ns ++ r)
numbers-end [] r = omega arith
numbers-end (n ∷ ns) r = omega arith

pub regrouped : (a b c x y z : List ℕ) → (a ++ b) ++ c ≡ (x ++ y) ++ z → a ++ (b ++ c) ≡ x ++ (y ++ z)
regrouped a b c x y z same = sym (append_assoc a b c) ∙ (same ∙ append_assoc x y z)

-- the text tells its numbers up to the end of the line
numbers_told : (ns ms r s : List ℕ) → AreSmall ns → AreSmall ms → numbers_text ns ++ r ≡ numbers_text ms ++ s → (ns ≡ ms) × (r ≡ s)
numbers_told [] [] r s one two same =
    let rest : r ≡ s = cc in
    (refl, rest)
numbers_told [] (m ∷ ms) r s one two same = absurd (cc)
numbers_told (n ∷ ns) [] r s one two same = absurd (cc)
numbers_told (n ∷ ns) (m ∷ ms) r s one two same =
    let below : (decimal n ++ numbers_text ns) ++ r ≡ (decimal m ++ numbers_text ms) ++ s = cc in
    let parts = regrouped (decimal n) (numbers_text ns) r (decimal m) (numbers_text ms) s below in
    let told = word_told (decimal n) (decimal m) _ _ (decimal-word n one.0) (decimal-word m two.0) (numbers-end ns r) (numbers-end ms s) parts in
    let later = numbers_told ns ms r s one.1 two.1 told.1 in
    (rw (decimal_injective n m one.0 two.0 told.0, later.0) refl, later.1)

-- a line is not empty
pub some_line : (v : List ℕ) (n : ℕ) (ns r : List ℕ) → [] ≡ (v ++ numbers_text (n ∷ ns)) ++ r → ⊥
some_line v n ns r none = omega (arith, ap length none, length-append (v ++ numbers_text (n ∷ ns)) r, length-append v (numbers_text (n ∷ ns)))

-- lines of a word and numbers that begin the same text are the same
pub line_told : (v w ns ms r s : List ℕ) → IsWord v → IsWord w → AreSmall ns → AreSmall ms
    → (v ++ numbers_text ns) ++ r ≡ (w ++ numbers_text ms) ++ s → (v ≡ w) × (ns ≡ ms) × (r ≡ s)
line_told v w ns ms r s one two few small same =
    let parts = regrouped v (numbers_text ns) r w (numbers_text ms) s same in
    let told = word_told v w _ _ one two (numbers-end ns r) (numbers-end ms s) parts in
    let later = numbers_told ns ms r s few small told.1 in
    (told.0, later.0, later.1)
