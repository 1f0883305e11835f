use Rattle.journal_check.proofs.Turns.{none_taken, not_taken_more, take_there}
use Rattle.journal_check.proofs.explaining.taken_at.Goals as goal

pub loop-place-init : goal.loop-place-init
loop-place-init c = none_taken c.args.request

pub returns-in-Some-clause-taken : goal.returns-in-Some-clause-taken
returns-in-Some-clause-taken c = take_there c.args.entries.now c.loop-place.place _ c.in-Some.worker c.args.request c.in-Some.ensures.taken.0 c.loop-place-test.true c.in-Some.ensures.taken.1

pub loop-place-preserved : goal.loop-place-preserved
loop-place-preserved c = not_taken_more c.args.entries.now c.loop-place.place _ c.args.request c.loop-place-test.true c.in_default.ensures.other c.loop-place.invariant
