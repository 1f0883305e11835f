use Rattle.std.proofs.Common.{refl, arith}
use Rattle.worked_histories.specs.Examples.{recent_config, recent_history}
use Rattle.worked_histories.proofs.Computed.Histories.{IsShort, computing}
use Rattle.worked_histories.proofs.Computed.Legal.{legal_is, limits_are}
use Rattle.worked_histories.proofs.examples.recent_costs.Goals as goal

short : IsShort 9 1 recent_history
unfolding recent_history
short = record { bound = omega arith; acts = refl }

pub returns-clause-in_limits : goal.returns-clause-in_limits
unfolding recent_config
returns-clause-in_limits c = limits_are recent_config refl

pub returns-clause-legal : goal.returns-clause-legal
unfolding computing recent_config recent_history
returns-clause-legal c = legal_is 9 1 recent_config recent_history short refl

pub returns-clause-estimate : goal.returns-clause-estimate
unfolding computing recent_config recent_history
returns-clause-estimate c = refl
