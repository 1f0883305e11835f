use Rattle.std.proofs.Common.{◌+◌, ◌≤◌, length}
use Rattle.journal_text.proofs.Bodies.{IsPast}
use Rattle.journal_text.proofs.HeadLimits.{IsKept}
use Rattle.journal_text.proofs.reading.add_lines.Given as goal

abbrev pub invariant-loop-line : goal.invariant-loop-line
invariant-loop-line g l = record {
  past : IsPast l.fn.draft l.draft l.text l.place l.rest;
  counted : l.place + length l.rest ≤ length l.text + 3;
  kept : IsKept l.draft;
}

abbrev pub decreases-loop-line : goal.decreases-loop-line
decreases-loop-line g l = length l.rest
