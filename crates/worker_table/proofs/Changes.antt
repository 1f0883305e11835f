-- The invariant of a table after each change.
use Rattle.std.proofs.Common.{ℕ, ◌≡◌, ◌≢◌, ◌+◌, ◌-◌, ◌*◌, ◌/◌, ◌%◌, ◌<◌, ◌≤◌, List, Option, None, Some, is_some, length, set, get_or, cond, replicate, arith, refl, sym, ap, ◌∙◌, subst, inl, inr}
use Rattle.std.specs.Int.{bit_at}
use Rattle.std.proofs.lemmas.Bool.{cases_lt}
use Rattle.std.proofs.lemmas.List.{length-set, length-replicate, get_or-replicate, get_or_past, get_or_default}
use Rattle.std.proofs.lemmas.List.Folds.{sum_by-replicate}
use Rattle.std.proofs.lemmas.Nat.Bits.{bit_at_ones}
use Rattle.std.proofs.lemmas.Option.{slice_get_within, get_or_from_slice_get}
use Rattle.worker_table.specs.Bits.{IsWithBit}
use Rattle.worker_table.specs.Kept.{Keeps}
use Rattle.worker_table.specs.Table.{run_of, IsFree}
use Rattle.worker_table.proofs.Tables.{mark, has_word, counted, marked, still_marked}

-- a word of which each bit is set
abbrev pub ones : ℕ
ones = 18446744073709551615

module _ {R : Type 0} where
  -- a worker that runs something is there
  within_of : (table : List (Option R)) (worker : ℕ) → run_of table worker ≢ None → worker < length table
  within_of table worker busy = elim (cases_lt worker (length table)) [
    | inl l ↦ l
    | inr past ↦ absurd (busy (get_or_past table worker None past))
  ]

  -- 1 if it runs something
  abbrev count_of : Option R → ℕ
  count_of o = cond (is_some o) 1 0

  some_of : (o : Option R) → o ≢ None → count_of o ≡ 1
  some_of None some = absurd (some refl)
  some_of (Some r) some = refl

  mark_of : (o : Option R) → o ≢ None → mark o ≡ 0
  mark_of None some = absurd (some refl)
  mark_of (Some r) some = refl

  module _ (table : List (Option R)) (words : List ℕ) (count : ℕ) (kept : Keeps table words count) (worker : ℕ) where
    -- the word of a worker, as it is read
    read_as : (word : ℕ) → worker < length table → word ≡ get_or words (worker / 64) word
        → word ≡ get_or words (worker / 64) 0
    read_as word within read =
        read ∙ get_or_default words (worker / 64) word 0 (has_word table worker None within words kept.marks)

    pub starts : (r : R) → IsFree table worker → (word after : ℕ) → word ≡ get_or words (worker / 64) word
        → IsWithBit word (worker % 64) 0 after
        → Keeps (set table worker (Some r)) (set words (worker / 64) after) (count + 1)
    starts r free word after read bit =
        let within = slice_get_within table worker None free in
        let none = get_or_from_slice_get table worker None None free in
        let more = counted table worker (Some r) within in
        let was : count_of (run_of table worker) ≡ 0 = ap count_of none in
        record {
          marks =
              marked
              table
              worker
              (Some r)
              within
              words
              kept.marks
              after
              (subst (λ w. IsWithBit w (worker % 64) 0 after) (read_as word within read) bit);
          count_is = omega (arith, kept.count_is, more, was);
          few = omega (arith, kept.few, length-set table worker (Some r));
        }

    pub ends : run_of table worker ≢ None → (word after : ℕ) → word ≡ get_or words (worker / 64) word
        → IsWithBit word (worker % 64) 1 after
        → Keeps (set table worker None) (set words (worker / 64) after) (count - 1)
    ends busy word after read bit =
        let within = within_of table worker busy in
        let fewer = counted table worker None within in
        record {
          marks =
              marked
              table
              worker
              None
              within
              words
              kept.marks
              after
              (subst (λ w. IsWithBit w (worker % 64) 1 after) (read_as word within read) bit);
          count_is = omega (arith, kept.count_is, fewer, some_of (run_of table worker) busy);
          few = omega (arith, kept.few, length-set table worker None);
        }

    pub changes : (r : R) → run_of table worker ≢ None → Keeps (set table worker (Some r)) words count
    changes r busy =
        let within = within_of table worker busy in
        let same = counted table worker (Some r) within in
        record {
          marks = still_marked table worker (Some r) within words kept.marks (sym (mark_of (run_of table worker) busy));
          count_is = omega (arith, kept.count_is, same, some_of (run_of table worker) busy);
          few = omega (arith, kept.few, length-set table worker (Some r));
        }

    pub count_some : run_of table worker ≢ None → 0 < count
    count_some busy =
        let within = within_of table worker busy in
        omega (arith, kept.count_is, counted table worker None within, some_of (run_of table worker) busy)

  abbrev none : Option R
  none = None

  module _ (workers n : ℕ) (enough : workers ≤ 64 * n) (few : workers ≤ 4096) where
    abbrev table : List (Option R)
    table = replicate workers none

    opened : Keeps table (replicate n ones) 0
    opened = record {
      marks = record {
        enough = omega (arith, enough, length-replicate workers none, length-replicate n ones);
        bits = λ worker known.
            let inside : worker < workers = omega (arith, known, length-replicate workers none) in
            ap (λ w. bit_at w (worker % 64)) (get_or-replicate n (worker / 64) ones 0 (omega (arith, enough, inside)))
            ∙ bit_at_ones 64 (worker % 64) (omega arith)
            ∙ ap mark (sym (get_or-replicate workers worker none None inside));
      };
      count_is = omega (arith, sum_by-replicate count_of workers none);
      few = omega (arith, few, length-replicate workers none);
    }

    pub opens : (runs : List (Option R)) (words : List ℕ) → runs ≡ replicate workers none → words ≡ replicate n ones
        → Keeps runs words 0
    opens runs words runs_is words_is =
        subst (λ t. Keeps t words 0) (sym runs_is) (subst (λ w. Keeps table w 0) (sym words_is) opened)
