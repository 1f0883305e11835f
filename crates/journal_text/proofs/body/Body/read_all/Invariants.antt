use Rattle.std.proofs.Common.{◌≡◌, length}
use Rattle.journal_text.specs.Body.{said_below}
use Rattle.journal_text.proofs.Bodies.{with_more}
use Rattle.journal_text.proofs.body.Body.read_all.Given as goal

abbrev pub invariant-loop-said : goal.invariant-loop-said
invariant-loop-said g l = with_more l.said.items (said_below g.A.Line.reader l.self) ≡ said_below g.A.Line.reader l.fn.self

abbrev pub decreases-loop-said : goal.decreases-loop-said
decreases-loop-said g l = length l.self.lines
