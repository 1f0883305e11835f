-- What the bits of a word say of its workers.
use Rattle.std.proofs.Common.{ℕ, ◌≡◌, ◌+◌, ◌-◌, ◌/◌, ◌%◌, ◌<◌, ◌≤◌, List, Option, None, Some, length, get_or, arith, refl, sym, ap, ◌∙◌, inl, inr}
use Rattle.std.specs.Int.{bit_at}
use Rattle.std.proofs.lemmas.Bool.{cases_lt}
use Rattle.std.proofs.lemmas.Option.{slice_get_within, slice_get-get_or, get_or_from_slice_get}
use Rattle.worker_table.specs.Bits.{HasNoBit, IsFirstBit}
use Rattle.worker_table.specs.Kept.{AreWords}
use Rattle.worker_table.specs.Table.{run_of, IsFree, IsNextFree, NoneIsFree}
use Rattle.worker_table.proofs.Tables.{mark}

module _ {R : Type 0} where
  pub none_of_mark : (o : Option R) → mark o ≡ 1 → o ≡ None
  none_of_mark None e = refl
  none_of_mark (Some r) e = absurd (omega (arith, e))

  module _ (table : List (Option R)) (words : List ℕ) (kept : AreWords table words) where
    -- the bit of a free worker is set
    free_bit : (worker : ℕ) → IsFree table worker → bit_at (get_or words (worker / 64) 0) (worker % 64) ≡ 1
    free_bit worker free =
        kept.bits worker (slice_get_within table worker None free)
        ∙ ap mark (get_or_from_slice_get table worker None None free)

    module _ (from below : ℕ) (within : below ≤ length table) (word : ℕ) (word_is : word ≡ get_or words (from / 64) 0) where
      -- the bit of a free worker of the word of `from` is set there
      bit_of : (worker : ℕ) → worker / 64 ≡ from / 64 → IsFree table worker → bit_at word (worker % 64) ≡ 1
      bit_of worker same free =
          ap (λ n. bit_at n (worker % 64)) (word_is ∙ ap (λ k. get_or words k 0) (sym same)) ∙ free_bit worker free

      module _ (initial : ℕ) (none : NoneIsFree table initial from) (bit : ℕ) (first : IsFirstBit word (from % 64) bit) where
        abbrev found : ℕ
        found = from - from % 64 + bit

        none_before : (other : ℕ) → initial ≤ other → other < found → ¬ IsFree table other
        none_before other reached before free = elim (cases_lt other from) [
          | inl l ↦ none other reached l free
          | inr high ↦ omega (
            arith,
            first.within,
            before,
            bit_of other (omega (arith, first.within, before, high)) free,
            first.before (other % 64) (omega (arith, first.within, before, high)) (omega (arith, first.within, before, high)),
          )
        ]

        pub next_is : initial ≤ from → found < below → IsNextFree table initial below found
        next_is order inside = record {
          reached = omega (arith, order, first.reached);
          within = inside;
          free =
              slice_get-get_or table found None (omega (arith, inside, within))
              ∙ ap Some (none_of_mark (run_of table found) (sym (kept.bits found (omega (arith, inside, within))) ∙ bit_is));
          before = none_before;
        }
          where
            same : found / 64 ≡ from / 64
            same = omega (arith, first.within)

            bit_is : bit_at (get_or words (found / 64) 0) (found % 64) ≡ 1
            bit_is =
                ap (λ k. bit_at (get_or words k 0) (found % 64)) same
                ∙ ap (λ n. bit_at n (found % 64)) (sym word_is)
                ∙ ap (bit_at word) (omega (arith, first.within))
                ∙ first.set

        pub none_is : below ≤ found → NoneIsFree table initial below
        none_is past other reached inside = none_before other reached (omega (arith, past, inside))

      -- no bit is set in the rest of this word
      pub none_further : (initial : ℕ) → NoneIsFree table initial from → HasNoBit word (from % 64)
          → NoneIsFree table initial (from - from % 64 + 64)
      none_further initial none no_bit other reached before free = elim (cases_lt other from) [
        | inl l ↦ none other reached l free
        | inr high ↦ omega (
          arith,
          bit_of other (omega (arith, before, high)) free,
          no_bit (other % 64) (omega (arith, before, high)) (omega (arith, before, high)),
        )
      ]
