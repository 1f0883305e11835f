-- Words that stand with spaces between them, as numbers do, are the words of their line.
use Rattle.std.proofs.Common.{ℕ, ◌+◌, ◌<◌, ◌≤◌, ◌≡◌, ◌==◌, false, List, [], ◌∷◌, ◌++◌, map, Ok, refl, sym, ap, ◌∙◌, arith, append_assoc}
use Rattle.std.specs.Fmt.{decimal}
use Rattle.std.proofs.lemmas.Bool.{eqb-true, false_from_ne_true}
use Rattle.program_model.specs.Document.{Document, LineReader, with_line, with_lines}
use Rattle.program_model.specs.JournalText.{numbers_text}
use Rattle.program_model.specs.Lines.{Words, lines_of}
use Rattle.program_model.specs.Reading.{◌>>=◌, at_line}
use Rattle.journal_text.proofs.AtOnce as once
use Rattle.journal_text.proofs.AtOnce.{HasWords, last_word, one_word_more}
use Rattle.law_book.proofs.Telling.{IsWord, AreSmall, decimal-word}

-- each of these is a word
abbrev pub AreWords : Words → Type 0
AreWords [] = Unit {0}
AreWords (w ∷ ws) = IsWord w × AreWords ws

-- these words, each after a space
abbrev pub spaced : Words → List ℕ
spaced [] = []
spaced (w ∷ ws) = 32 ∷ (w ++ spaced ws)

-- a byte of a word is neither a space nor an LF
other : (b c : ℕ) → c ≤ 32 → 32 < b → (b == c) ≡ false
other b c low high = false_from_ne_true (b == c) (λ same. omega (arith, eqb-true b c same, low, high))

one_word : (w : List ℕ) → IsWord w → once.IsWord w
one_word [] word = tt
one_word (b ∷ w) word = ((other b 32 (omega arith) word.0, other b 10 (omega arith) word.0), one_word w word.1)

-- a line of words is the first line of the text that it begins
pub words_first : (w : List ℕ) (ws : Words) (below : List ℕ) → IsWord w → AreWords ws → HasWords ((w ++ spaced ws) ++ 10 ∷ below) (w ∷ ws) below
words_first w [] below word words = last_word ((w ++ []) ++ 10 ∷ below) w below (one_word w word) (append_assoc w [] (10 ∷ below))
words_first w (v ∷ ws) below word words =
    one_word_more ((w ++ spaced (v ∷ ws)) ++ 10 ∷ below) w ((v ++ spaced ws) ++ 10 ∷ below) below (v ∷ ws) (one_word w word)
    (append_assoc w (spaced (v ∷ ws)) (10 ∷ below)) (words_first v ws below words.0 words.1)

-- printed numbers are words, each after a space, up to the end of the line
numbers_spaced : (ns below : List ℕ) → numbers_text ns ++ below ≡ spaced (map decimal ns) ++ 10 ∷ below
numbers_spaced [] below = refl
numbers_spaced (n ∷ ns) below =
    ap (λ l. 32 ∷ l) (
    append_assoc (decimal n) (numbers_text ns) below
    ∙ ap (λ l. decimal n ++ l) (numbers_spaced ns below)
    ∙ sym (append_assoc (decimal n) (spaced (map decimal ns)) (10 ∷ below))
    )

-- a line of a word and numbers is a line of words
pub row_spaced : (w ns below : List ℕ) → (w ++ numbers_text ns) ++ below ≡ (w ++ spaced (map decimal ns)) ++ 10 ∷ below
row_spaced w ns below =
    append_assoc w (numbers_text ns) below
    ∙ ap (λ l. w ++ l) (numbers_spaced ns below)
    ∙ sym (append_assoc w (spaced (map decimal ns)) (10 ∷ below))

pub numbers_words : (ns : List ℕ) → AreSmall ns → AreWords (map decimal ns)
numbers_words [] small = tt
numbers_words (n ∷ ns) small = (decimal-word n small.0, numbers_words ns small.1)

-- a line of words is read, and the lines below it are left
pub line_read : {A : Type 0} (reader : LineReader A) (place : ℕ) (d more : Document A) (w : List ℕ) (ws : Words) (text below : List ℕ)
    → text ≡ (w ++ spaced ws) ++ 10 ∷ below → IsWord w → AreWords ws → with_line reader d (w ∷ ws) ≡ Ok more
    → with_lines reader place d (lines_of text) ≡ with_lines reader (place + 1) more (lines_of below)
line_read reader place d more w ws text below is word words read =
    let has = words_first w ws below word words in
    ap (with_lines reader place d) (ap lines_of is ∙ has.first.lines)
    ∙ ap (λ r. at_line place r >>= λ next. with_lines reader (place + 1) next (lines_of below)) (ap (with_line reader d) has.split ∙ read)
