use Rattle.std.proofs.Common.{◌≡◌, length}
use Rattle.eligible_index.proofs.Notes.{StandAfter}
use Rattle.eligible_index.proofs.noted.forget.Given as goal

abbrev pub invariant-loop-number : goal.invariant-loop-number
invariant-loop-number l = record { sized : length l.flags ≡ length l.initial.flags; after : StandAfter l.flags l.numbers l.number-index }
