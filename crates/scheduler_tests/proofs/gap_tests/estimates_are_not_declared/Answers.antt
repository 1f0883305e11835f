use Rattle.std.proofs.Common.{[], ◌∷◌}
use Rattle.scheduler_tests.proofs.GapPasts.{estimated_legal}
use Rattle.scheduler_tests.proofs.gap_tests.estimates_are_not_declared.Goals as goal

pub expect_gaps-requires : goal.expect_gaps-requires
expect_gaps-requires g c = estimated_legal (c.submit.result ∷ c.submit-2.result ∷ c.take.result ∷ c.submit-3.result ∷ c.done.result ∷ c.take-2.result ∷ c.done-2.result ∷ c.submit-4.result ∷ c.take-3.result ∷ []) (cc)
