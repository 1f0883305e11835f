use Rattle.std.proofs.Common.{refl, arith}
use Rattle.worked_histories.specs.Gaps.{doubt_config, doubt_history}
use Rattle.worked_histories.proofs.Computed.Histories.{IsShort, computing}
use Rattle.worked_histories.proofs.Computed.Legal.{legal_is, limits_are}
use Rattle.worked_histories.proofs.ComputedLeads.{measured_is, computing_lead}
use Rattle.worked_histories.proofs.gaps.doubt.Goals as goal

short : IsShort 6 2 doubt_history
unfolding doubt_history
short = record { bound = omega arith; acts = refl }

pub returns-clause-limits : goal.returns-clause-limits
unfolding doubt_config
returns-clause-limits c = limits_are doubt_config refl

pub returns-clause-legal : goal.returns-clause-legal
unfolding computing doubt_config doubt_history
returns-clause-legal c = legal_is 6 2 doubt_config doubt_history short refl

pub returns-clause-gap : goal.returns-clause-gap
unfolding computing_lead doubt_config doubt_history
returns-clause-gap c = measured_is 6 2 doubt_config doubt_history 0 1 short
