-- How the words and the count follow a change of the table.
use Rattle.std.proofs.Common.{ℕ, ◌≡◌, ◌≢◌, ◌+◌, ◌/◌, ◌%◌, ◌<◌, List, Option, None, is_none, is_some, length, set, get_or, cond, arith, sym, ap, ◌∙◌, inl, inr}
use Rattle.std.specs.Int.{bit_at}
use Rattle.std.proofs.lemmas.Bool.{cases_eq}
use Rattle.std.proofs.lemmas.List.{length-set, get_or-set_same, get_or-set_other}
use Rattle.std.proofs.lemmas.List.Sums.{sum_by-set}
use Rattle.worker_table.specs.Bits.{IsWithBit}
use Rattle.worker_table.specs.Kept.{AreWords}
use Rattle.worker_table.specs.Table.{run_of, running}

-- the bit of a worker: 1 if it runs nothing
abbrev pub mark : {R : Type 0} → Option R → ℕ
mark o = cond (is_none o) 1 0

module _ {R : Type 0} (table : List (Option R)) (worker : ℕ) (newer : Option R) (within : worker < length table) where
  pub counted : running (set table worker newer) + cond (is_some (run_of table worker)) 1 0
      ≡ running table + cond (is_some newer) 1 0
  counted = sum_by-set (λ (o : Option R). cond (is_some o) 1 0) table worker newer None within

  pub same_run : run_of (set table worker newer) worker ≡ newer
  same_run = get_or-set_same table worker newer None within

  module _ (words : List ℕ) (kept : AreWords table words) where
    pub has_word : worker / 64 < length words
    has_word = omega (arith, kept.enough)

    module _ (after : ℕ) (bit : IsWithBit (get_or words (worker / 64) 0) (worker % 64) (mark newer) after) where
      abbrev pub changed : List ℕ
      changed = set words (worker / 64) after

      same_word : get_or changed (worker / 64) 0 ≡ after
      same_word = get_or-set_same words (worker / 64) after 0 has_word

      bits_of_other : (other : ℕ) → other < length table → other ≢ worker
          → bit_at (get_or changed (other / 64) 0) (other % 64) ≡ mark (run_of table other)
      bits_of_other other known apart = elim (cases_eq (other / 64) (worker / 64)) [
        | inl e ↦
            ap (λ k. bit_at (get_or changed k 0) (other % 64)) e
            ∙ ap (λ x. bit_at x (other % 64)) same_word
            ∙ bit.others (other % 64) (omega arith) (λ r. apart (omega (arith, e, r)))
            ∙ ap (λ k. bit_at (get_or words k 0) (other % 64)) (sym e)
            ∙ kept.bits other known
        | inr ne ↦
            ap (λ x. bit_at x (other % 64)) (get_or-set_other words (worker / 64) (other / 64) after 0 ne)
            ∙ kept.bits other known
      ]

      pub marked : AreWords (set table worker newer) changed
      marked = record {
        enough = omega (arith, kept.enough, length-set table worker newer, length-set words (worker / 64) after);
        bits = λ other known. elim (cases_eq other worker) [
          | inl e ↦
              ap (λ k. bit_at (get_or changed (k / 64) 0) (k % 64)) e
              ∙ ap (λ x. bit_at x (worker % 64)) same_word
              ∙ bit.value_is
              ∙ ap mark (sym same_run)
              ∙ ap (λ k. mark (run_of (set table worker newer) k)) (sym e)
          | inr ne ↦
              bits_of_other other (omega (arith, known, length-set table worker newer)) ne
              ∙ ap mark (sym (get_or-set_other table worker other newer None ne))
        ];
      }

    -- a worker that runs something, and runs something else, is no more free than before
    pub still_marked : mark newer ≡ mark (run_of table worker) → AreWords (set table worker newer) words
    still_marked same = record {
      enough = omega (arith, kept.enough, length-set table worker newer);
      bits = λ other known. elim (cases_eq other worker) [
        | inl e ↦
            kept.bits other (omega (arith, known, length-set table worker newer))
            ∙ ap (λ k. mark (run_of table k)) e
            ∙ sym same
            ∙ ap mark (sym same_run)
            ∙ ap (λ k. mark (run_of (set table worker newer) k)) (sym e)
        | inr ne ↦
            kept.bits other (omega (arith, known, length-set table worker newer))
            ∙ ap mark (sym (get_or-set_other table worker other newer None ne))
      ];
    }
