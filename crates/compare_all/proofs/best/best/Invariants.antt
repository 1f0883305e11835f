use Rattle.std.proofs.Common.{ℕ, ◌-◌, ◌<◌, ◌≤◌, length, get_or, ◌≤ℤ◌}
use Rattle.std.specs.Prelude.{◌<ℤ◌}
use Rattle.program_model.specs.Compare.{spread}
use Rattle.compare_all.proofs.Spreads.{no_row}
use Rattle.compare_all.proofs.best.best.Given as goal

abbrev pub invariant-loop-k : goal.invariant-loop-k
invariant-loop-k l = record {
  inside : l.place ≤ length l.rows - 1;
  least : (j : ℕ) → j < l.k → spread (get_or l.rows l.place no_row) ≤ℤ spread (get_or l.rows j no_row);
  first : (j : ℕ) → j < l.place → spread (get_or l.rows l.place no_row) <ℤ spread (get_or l.rows j no_row);
}
