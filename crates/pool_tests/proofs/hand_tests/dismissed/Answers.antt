use Rattle.pool_tests.proofs.HiredLemmas.{feeds_first}
use Rattle.pool_tests.proofs.hand_tests.dismissed.Goals as goal

pub ended_for_two-past-requires-clause-zero : goal.ended_for_two-past-requires-clause-zero
ended_for_two-past-requires-clause-zero g c = feeds_first c.args.desk.lock c.args.hands _ _ c.requires.hands c.feeding-1.given.1 c.in-Feed.is
