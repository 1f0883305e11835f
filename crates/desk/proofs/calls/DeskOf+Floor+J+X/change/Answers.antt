use Rattle.desk.proofs.Turned.{changed_is}
use Rattle.desk.proofs.calls.DeskOf+Floor+J+X.change.Goals as goal

pub unreachable-requires : goal.unreachable-requires
unreachable-requires g c = let r = changed_is _ _ c.requires.change c.turn.ensures.answers.3.suits in c.in_default.not-Changed _ r.1

pub returns-clause-stays : goal.returns-clause-stays
returns-clause-stays g c = let t = c.turn.ensures in record { own = t.lock; number = t.number; made = t.made; ended = t.ended }

pub returns-clause-turned : goal.returns-clause-turned
returns-clause-turned g c = c.in-Changed.ensures.answers
