use Rattle.std.proofs.Common.{true}
use Rattle.eligible_index.proofs.Fills.{IsFilledTo}
use Rattle.eligible_index.proofs.noted.Noted.note_all.Given as goal

abbrev pub invariant-loop-number : goal.invariant-loop-number
invariant-loop-number l = IsFilledTo true l.initial.self l.self l.number
