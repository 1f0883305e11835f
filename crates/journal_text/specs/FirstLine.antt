-- The first line of a text, and its words.
use Rattle.std.specs.Prelude.{ℕ, ◌<◌, ◌≤◌, ◌≡◌, ◌==◌, false, List, [], ◌∷◌, ◌++◌, map, take, length, Option, Some}
use Rattle.std.specs.Borrow.{Bor}
use Rattle.std.specs.Option.{option_map_or}
use Rattle.program_model.specs.Lines.{Words, lines_of, words_of}
use Rattle.program_model.specs.Numbers.{number_of}

-- the lines of the text are this one and those of the text below, which is shorter
pub record IsFirstLine (text line below : List ℕ) : Type 0 where
  pub lines : lines_of text ≡ line ∷ lines_of below
  pub shorter : length below < length text

-- the first line of the text has these words, and this is the text below it
pub record HasFirstWords (text : List ℕ) (words : Words) (below : List ℕ) : Type 0 where
  pub line : List ℕ
  pub first : IsFirstLine text line below
  pub split : words_of line ≡ words

-- no byte of it is a space or an LF
abbrev pub IsWord : List ℕ → Type 0
IsWord [] = Unit {0}
IsWord (b ∷ bs) = (((b == 32) ≡ false) × ((b == 10) ≡ false)) × IsWord bs

-- some bytes at the head of the text spell this number, and the rest is behind them
pub record BeginsWithNumber (text : List ℕ) (number : ℕ) (rest : List ℕ) : Type 0 where
  pub first : List ℕ
  pub split : text ≡ first ++ rest
  pub spelled : number_of first ≡ Some number

-- the words behind the first of a line, if a space ends the first
abbrev pub words_behind : Option (Bor (List ℕ)) → Words
words_behind rest = option_map_or (λ r. words_of r.now) rest []

-- the words spell the first `read` of these numbers, or `read` is 0
pub record AreRead (read : ℕ) (numbers : List ℕ) (words : Words) : Type 0 where
  pub fits : read ≤ length numbers
  pub spelled : 0 < read → map number_of words ≡ map Some (take read numbers)
