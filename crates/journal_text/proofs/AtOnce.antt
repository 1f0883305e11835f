-- Lines that are read in one pass.
use Rattle.std.proofs.Common.{ℕ, zero, suc, ◌+◌, ◌-◌, ◌*◌, ◌<◌, ◌≤◌, ◌≡◌, ◌≢◌, ◌==◌, ◌∙◌, Bool, true, false, nat_le, List, [], ◌∷◌, ◌++◌, map, length, take, drop, get_or, slice_set, slice_index_or, append-nil, append_assoc, length-append, add-one, drop-cons, take-append-drop, slice_index, Some, None, Ok, sym, ap, subst, arith, refl}
use Rattle.std.proofs.lemmas.Bool.{ne_eqb}
use Rattle.std.proofs.lemmas.List.{map-append, length-take-le, get_or-take, take_more_set}
use Rattle.std.proofs.Math.Seq.{take-append_seam}
use Rattle.fq_model.specs.Spelling.{is_digit}
use Rattle.program_model.specs.Numbers.{with_digits, number_of}
use Rattle.program_model.specs.Lines.{Words, lines_of, words_of, number_at}
pub use Rattle.journal_text.specs.FirstLine.{IsWord}
use Rattle.journal_text.specs.FirstLine.{IsFirstLine, HasFirstWords, BeginsWithNumber, AreRead}

-- a byte of a text divides it
pub divided : (text : List ℕ) (at byte : ℕ) → at < length text → slice_index text at ≡ byte → text ≡ take at text ++ (byte ∷ drop (at + 1) text)
divided text at byte inside here =
    let behind : drop at text ≡ byte ∷ drop (at + 1) text = rw add-one (drop-cons text at 0 inside ∙ ap (λ (b : ℕ). b ∷ drop (suc at) text) here) in
    sym (take-append-drop at text) ∙ ap (λ (rest : List ℕ). take at text ++ rest) behind

-- digits at the head of a text are a number, if they do not begin with a 0 too many
number_from : (text : List ℕ) (at n : ℕ) → with_digits 0 (take at text) ≡ Some n → 1 ≤ at → at ≤ length text → (2 ≤ at → slice_index text 0 ≢ 48) → number_of (take at text) ≡ Some n
number_from text zero n e some inside first = absurd (omega arith)
number_from [] (suc k) n e some inside first = absurd (omega arith)
number_from (b ∷ more) (suc zero) n e some inside first = e
number_from (b ∷ []) (suc (suc k)) n e some inside first = absurd (omega arith)
number_from (b ∷ c ∷ more) (suc (suc k)) n e some inside first = rw (ne_eqb b 48 (first (omega arith))) e

pub number_ended : (text : List ℕ) (at n end : ℕ) → ((more : List ℕ) → with_digits n more ≡ with_digits 0 (take at text ++ more)) → at < length text
    → slice_index text at ≡ end → 1 ≤ at → (2 ≤ at → slice_index text 0 ≢ 48) → BeginsWithNumber text n (end ∷ drop (at + 1) text)
number_ended text at n end so_far inside here some first =
    let digits : with_digits 0 (take at text) ≡ Some n = sym (so_far [] ∙ ap (with_digits 0) (append-nil (take at text))) in
    record {
      first = take at text;
      split = divided text at end inside here;
      spelled = number_from text at n digits some (omega arith) first;
    }

digits_are_a_word : (digits : List ℕ) (n m : ℕ) → with_digits n digits ≡ Some m → IsWord digits
digits_are_a_word [] n m e = tt
digits_are_a_word (b ∷ more) n m e = one_digit (digits_are_a_word more (10 * n + (b - 48)) m) (is_digit b) (nat_le (10 * n + (b - 48)) 18446744073709551615) refl refl
  where
    other : (c : ℕ) → (is_digit c ≡ true → ⊥) → is_digit b ≡ true → (b == c) ≡ false
    other c none p = ne_eqb b c (λ s. none (ap is_digit (sym s) ∙ p))

    one_digit : (with_digits (10 * n + (b - 48)) more ≡ Some m → IsWord more) → (t u : Bool) → is_digit b ≡ t → nat_le (10 * n + (b - 48)) 18446744073709551615 ≡ u → IsWord (b ∷ more)
    one_digit later true true p q = ((other 32 (λ h. cc) p, other 10 (λ h. cc) p), later (rw (p, q) at e))
    one_digit later true false p q = let none : None ≡ Some m = rw (p, q) at e in cc
    one_digit later false u p q = let none : None ≡ Some m = rw p at e in cc

number_is_a_word : (text : List ℕ) (n : ℕ) → number_of text ≡ Some n → IsWord text
number_is_a_word [] n e = cc
number_is_a_word (b ∷ []) n e = digits_are_a_word (b ∷ []) 0 n e
number_is_a_word (b ∷ c ∷ more) n e = leading (b == 48) refl
  where
    leading : (t : Bool) → (b == 48) ≡ t → IsWord (b ∷ c ∷ more)
    leading true p = let none : None ≡ Some n = rw p at e in cc
    leading false p = digits_are_a_word (b ∷ c ∷ more) 0 n (rw p at e)

-- a text before which a word is put
line_longer : (word rest line : List ℕ) (more : List (List ℕ)) → IsWord word → lines_of rest ≡ line ∷ more → lines_of (word ++ rest) ≡ (word ++ line) ∷ more
line_longer [] rest line more w h = h
line_longer (b ∷ bs) rest line more w h = rw (w.0.1, line_longer bs rest line more w.1 h) refl

word_first : (word line : List ℕ) → IsWord word → words_of (word ++ (32 ∷ line)) ≡ word ∷ words_of line
word_first [] line w = refl
word_first (b ∷ bs) line w = rw (w.0.0, word_first bs line w.1) refl

word_alone : (word : List ℕ) → IsWord word → words_of word ≡ word ∷ []
word_alone [] w = refl
word_alone (b ∷ bs) w = rw (w.0.0, word_alone bs w.1) refl

-- the first line of a text has these words and ends with an LF, and below it stands the rest
pub record HasWords (text : List ℕ) (words : Words) (below : List ℕ) : Type 0 where
  pub line : List ℕ
  pub first : IsFirstLine text line below
  pub split : words_of line ≡ words
  pub ended : text ≡ line ++ (10 ∷ below)

pub last_word : (text word below : List ℕ) → IsWord word → text ≡ word ++ (10 ∷ below) → HasWords text (word ∷ []) below
last_word text word below w e = record {
  line = word;
  first = record {
    lines = ap lines_of e ∙ line_longer word (10 ∷ below) [] (lines_of below) w refl ∙ ap (λ (line : List ℕ). line ∷ lines_of below) (append-nil word);
    shorter = omega (arith, ap length e, length-append word (10 ∷ below));
  };
  split = word_alone word w;
  ended = e;
}

pub one_word_more : (text word rest below : List ℕ) (words : Words) → IsWord word → text ≡ word ++ (32 ∷ rest) → HasWords rest words below → HasWords text (word ∷ words) below
one_word_more text word rest below words w e h = record {
  line = word ++ (32 ∷ h.line);
  first = record {
    lines = ap lines_of e ∙ line_longer word (32 ∷ rest) (32 ∷ h.line) (lines_of below) w (rw h.first.lines refl);
    shorter = omega (arith, ap length e, length-append word (32 ∷ rest), h.first.shorter);
  };
  split = word_first word h.line w ∙ ap (λ (later : Words). word ∷ later) h.split;
  ended = e ∙ ap (λ (later : List ℕ). word ++ (32 ∷ later)) h.ended ∙ sym (append_assoc word (32 ∷ h.line) (10 ∷ below));
}

pub last_number : (text below : List ℕ) (n : ℕ) (b : BeginsWithNumber text n (10 ∷ below)) → HasWords text (b.first ∷ []) below
last_number text below n b = last_word text b.first below (number_is_a_word b.first n b.spelled) b.split

pub one_number_more : (text rest below : List ℕ) (n : ℕ) (words : Words) (b : BeginsWithNumber text n (32 ∷ rest)) → HasWords rest words below → HasWords text (b.first ∷ words) below
one_number_more text rest below n words b h = one_word_more text b.first rest below words (number_is_a_word b.first n b.spelled) b.split h

-- The numbers so far were read from a text, and this rest is left: whatever words the first line of the rest has, the
-- line of the text has the words of those numbers before them.
pub record IsPassed (text : List ℕ) (numbers : List ℕ) (rest : List ℕ) : Type 0 where
  pub words : Words
  pub spelled : map number_of words ≡ map Some numbers
  pub more : (later : Words) (below : List ℕ) → HasWords rest later below → HasWords text (words ++ later) below

pub none_passed : (text : List ℕ) → IsPassed text [] text
none_passed text = record { words = []; spelled = refl; more = λ later below h. h }

spelled_more : (words : Words) (numbers word : List ℕ) (n : ℕ) → map number_of words ≡ map Some numbers → number_of word ≡ Some n
    → map number_of (words ++ word ∷ []) ≡ map Some (numbers ++ n ∷ [])
spelled_more words numbers word n so_far e =
    map-append number_of words (word ∷ []) ∙ rw (so_far, e) (sym (map-append Some numbers (n ∷ [])))

-- one number more is read
pub one_passed : (text numbers rest behind : List ℕ) (read n end : ℕ) → IsPassed text (take read numbers) rest → BeginsWithNumber rest n (end ∷ behind) → end ≡ 32 → read < length numbers
    → IsPassed text (take (read + 1) (slice_set numbers read n)) behind
one_passed text numbers rest behind read n end past b space inside =
    let here : BeginsWithNumber rest n (32 ∷ behind) = rw space at b in
    rw (take_more_set numbers read n inside) (record {
      words = past.words ++ here.first ∷ [];
      spelled = spelled_more past.words (take read numbers) here.first n past.spelled here.spelled;
      more = λ later below h. subst (λ (ws : Words). HasWords text ws below) (sym (append_assoc past.words (here.first ∷ []) later))
          (past.more (here.first ∷ later) below (one_number_more rest behind below n later here h));
    })

-- the line that ends with the last number
pub record IsNumbers (text numbers below : List ℕ) : Type 0 where
  pub words : Words
  pub spelled : map number_of words ≡ map Some numbers
  pub has : HasWords text words below

-- the last number is read
pub all_passed : (text numbers rest below : List ℕ) (read n end : ℕ) → IsPassed text (take read numbers) rest → BeginsWithNumber rest n (end ∷ below) → end ≡ 10 → read < length numbers
    → IsNumbers text (take (read + 1) (slice_set numbers read n)) below
all_passed text numbers rest below read n end past b lf inside =
    let here : BeginsWithNumber rest n (10 ∷ below) = rw lf at b in
    rw (take_more_set numbers read n inside) (record {
      words = past.words ++ here.first ∷ [];
      spelled = spelled_more past.words (take read numbers) here.first n past.spelled here.spelled;
      has = past.more (here.first ∷ []) below (last_number rest below n here);
    })

line_before : (text : List ℕ) (words : Words) (below : List ℕ) → HasWords text words below → words_of (take (length text - length below - 1) text) ≡ words
line_before text words below h =
    let at : length text - length below - 1 ≡ length h.line = omega (arith, ap length h.ended, length-append h.line (10 ∷ below)) in
    rw at (ap words_of (ap (take (length h.line)) h.ended ∙ take-append_seam h.line (10 ∷ below)) ∙ h.split)

-- a word and the numbers of the line behind it are the words of a text's first line
pub whole_line : (text word start below numbers : List ℕ) → text ≡ word ++ (32 ∷ start) → IsWord word → IsNumbers start numbers below
    → HasFirstWords text (word ∷ words_of (take (length start - length below - 1) start)) below
whole_line text word start below numbers is w all =
    let has = one_word_more text word start below all.words w is all.has in
    record { line = has.line; first = has.first; split = has.split ∙ ap (λ (ws : Words). word ∷ ws) (sym (line_before start all.words below all.has)) }

pub all_known : (start below numbers : List ℕ) (read : ℕ) → IsNumbers start (take read numbers) below → read ≤ length numbers
    → AreRead read numbers (words_of (take (length start - length below - 1) start))
all_known start below numbers read all fits = record {
  fits = fits;
  spelled = λ some. subst (λ (ws : Words). map number_of ws ≡ map Some (take read numbers)) (sym (line_before start all.words below all.has)) all.spelled;
}

-- the numbers of words by their places
pub number_is_at : (words : Words) (numbers : List ℕ) (k : ℕ) → map number_of words ≡ map Some numbers → k < length numbers
    → number_of (slice_index_or words k []) ≡ Some (get_or numbers k 0)
number_is_at [] [] k e inside = absurd (omega arith)
number_is_at [] (n ∷ numbers) k e inside = absurd (cc)
number_is_at (word ∷ words) [] k e inside = absurd (cc)
number_is_at (word ∷ words) (n ∷ numbers) zero e inside = cc
number_is_at (word ∷ words) (n ∷ numbers) (suc k) e inside = number_is_at words numbers k (cc) (omega arith)

-- a number that was read with its line
pub number_known : (first : List ℕ) (words : Words) (read k : ℕ) (numbers : List ℕ) → AreRead read numbers words → 0 < k → k ≤ read
    → number_at (first ∷ words) k ≡ Ok (get_or numbers (k - 1) 0)
unfolding number_at
number_known first words read zero numbers known some most = absurd (omega arith)
number_known first words read (suc k) numbers known some most =
    let is : number_of (slice_index_or words k []) ≡ Some (get_or (take read numbers) k 0) =
    number_is_at words (take read numbers) k (known.spelled (omega arith)) (omega (arith, length-take-le read numbers known.fits)) in
    let before : suc k - 1 ≡ k = omega arith in
    rw (is, get_or-take read numbers k 0 (omega arith), before) refl

-- a word with a byte more
pub IsWord-push : (word : List ℕ) (b : ℕ) → IsWord word → b ≢ 32 → b ≢ 10 → IsWord (word ++ b ∷ [])
IsWord-push [] b w space lf = ((ne_eqb b 32 space, ne_eqb b 10 lf), tt)
IsWord-push (c ∷ word) b w space lf = (w.0, IsWord-push word b w.1 space lf)
