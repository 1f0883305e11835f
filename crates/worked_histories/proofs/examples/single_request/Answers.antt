use Rattle.std.proofs.Common.{ℕ, refl, arith}
use Rattle.worked_histories.specs.Examples.{single_config, single_reported, single_ended}
use Rattle.worked_histories.proofs.Computed.Histories.{IsShort, computing}
use Rattle.worked_histories.proofs.Computed.Legal.{legal_is, limits_are}
use Rattle.worked_histories.proofs.examples.single_request.Goals as goal

short : (cost : ℕ) → IsShort 1 1 (single_ended cost)
unfolding single_ended
short cost = record { bound = omega arith; acts = refl }

pub returns-clause-in_limits : goal.returns-clause-in_limits
unfolding single_config
returns-clause-in_limits c = limits_are single_config refl

pub returns-clause-reported : goal.returns-clause-reported
unfolding computing single_reported
returns-clause-reported c = refl

pub returns-clause-ended : goal.returns-clause-ended
unfolding computing single_ended
returns-clause-ended c = refl

pub returns-clause-cost_of_the_use : goal.returns-clause-cost_of_the_use
unfolding computing single_config single_ended
returns-clause-cost_of_the_use c = legal_is 1 1 single_config _ (short _) refl

pub returns-clause-cost_below_the_use : goal.returns-clause-cost_below_the_use
unfolding computing single_config single_ended
returns-clause-cost_below_the_use c = λ l. omega (arith, l.0.3.rising)
