use Rattle.std.proofs.Common.{[], ◌∷◌}
use Rattle.scheduler_tests.proofs.GapPasts.{two_workers_legal}
use Rattle.scheduler_tests.proofs.gap_tests.two_workers_stagger.Goals as goal

pub expect_gaps-requires : goal.expect_gaps-requires
expect_gaps-requires g c = two_workers_legal (c.submit.result ∷ c.submit-2.result ∷ c.submit-3.result ∷ c.take.result ∷ c.take-2.result ∷ c.done.result ∷ c.take-3.result ∷ c.done-2.result ∷ c.done-3.result ∷ c.at.result ∷ []) (cc)
