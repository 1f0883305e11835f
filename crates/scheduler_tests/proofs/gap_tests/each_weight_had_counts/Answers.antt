use Rattle.std.proofs.Common.{[], ◌∷◌}
use Rattle.scheduler_tests.proofs.GapPasts.{reweighed_legal}
use Rattle.scheduler_tests.proofs.gap_tests.each_weight_had_counts.Goals as goal

pub expect_gaps-requires : goal.expect_gaps-requires
expect_gaps-requires g c = reweighed_legal (c.submit.result ∷ c.submit-2.result ∷ c.at.result ∷ c.submit-3.result ∷ c.take.result ∷ []) (cc)
