use Rattle.std.proofs.Common.{◌≡◌, ◌+◌, length, vec_capacity}
use Rattle.desk.specs.Opening.{IsSplit, AreSubmitters}
use Rattle.desk.proofs.opening.split_submitters.Given as goal

abbrev pub invariant-loop-number : goal.invariant-loop-number
invariant-loop-number g l =
    IsSplit l.lock (length l.tokens.items) l.zero × AreSubmitters l.lock 1 l.tokens.items × (length l.tokens.items + 1 ≡ l._number) × (vec_capacity l.tokens ≡ vec_capacity l.fn.tokens)
