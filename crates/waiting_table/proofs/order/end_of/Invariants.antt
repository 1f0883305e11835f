use Rattle.std.proofs.Common.{◌≡◌, ℕ, ◌<◌, ◌≤◌, false, length, get_or}
use Rattle.waiting_table.specs.declared.order.Entry.{Entry}
use Rattle.waiting_table.proofs.order.end_of.Given as goal

abbrev pub invariant-holes : goal.invariant-holes
invariant-holes l = record {
  within : l.end ≤ length l.entries;
  holes : (k : ℕ) (d : Entry) → l.end ≤ k → k < length l.entries → (get_or l.entries k d).waits ≡ false;
}

abbrev pub decreases-holes : goal.decreases-holes
decreases-holes l = l.end
