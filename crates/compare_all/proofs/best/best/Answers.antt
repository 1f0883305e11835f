use Rattle.std.proofs.Common.{ℕ, ◌+◌, ◌<◌, get_or, ◌≤ℤ◌, arith, subst, sym, below_more}
use Rattle.std.specs.Prelude.{◌<ℤ◌}
use Rattle.std.proofs.lemmas.Int.{ints}
use Rattle.program_model.specs.Compare.{spread}
use Rattle.compare_all.proofs.Spreads.{no_row, moves_least, moves_first, best_from}
use Rattle.compare_all.proofs.best.best.Goals as goal
use Rattle.compare_all.proofs.best.best.Goals.{then-spread, else-spread}

pub loop-k-preserved : goal.loop-k-preserved
loop-k-preserved c = elim c.if-spread.branch [
  | then-spread w ↦
      let less : spread (get_or c.args.rows.now c.loop-k.k no_row) <ℤ spread (get_or c.args.rows.now c.loop-k.place no_row) = omega (arith, ints, w.if-spread.true, c.spread.ensures, c.spread-in-loop-k.ensures) in
      record {
        inside = omega (arith, w.place-is, c.loop-k-test.true);
        least = subst (λ p. (j : ℕ) → j < c.loop-k.k + 1 → spread (get_or c.args.rows.now p no_row) ≤ℤ spread (get_or c.args.rows.now j no_row)) (sym w.place-is) (moves_least (λ j. spread (get_or c.args.rows.now j no_row)) c.loop-k.place c.loop-k.k less c.loop-k.invariant.least);
        first = subst (λ p. (j : ℕ) → j < p → spread (get_or c.args.rows.now p no_row) <ℤ spread (get_or c.args.rows.now j no_row)) (sym w.place-is) (moves_first (λ j. spread (get_or c.args.rows.now j no_row)) c.loop-k.place c.loop-k.k less c.loop-k.invariant.least);
      }
  | else-spread w ↦
      let more : spread (get_or c.args.rows.now c.loop-k.place no_row) ≤ℤ spread (get_or c.args.rows.now c.loop-k.k no_row) = omega (arith, ints, w.if-spread.false, c.spread.ensures, c.spread-in-loop-k.ensures) in
      record {
        inside = omega (arith, w.place-is, c.loop-k.invariant.inside);
        least = subst (λ p. (j : ℕ) → j < c.loop-k.k + 1 → spread (get_or c.args.rows.now p no_row) ≤ℤ spread (get_or c.args.rows.now j no_row)) (sym w.place-is) (below_more _ _ c.loop-k.invariant.least more);
        first = subst (λ p. (j : ℕ) → j < p → spread (get_or c.args.rows.now p no_row) <ℤ spread (get_or c.args.rows.now j no_row)) (sym w.place-is) c.loop-k.invariant.first;
      }
]

pub returns : goal.returns
returns c = best_from c.args.rows.now c.loop-k.place c.loop-k.k c.loop-k-test.false c.loop-k.invariant.inside c.loop-k.invariant.least c.loop-k.invariant.first
