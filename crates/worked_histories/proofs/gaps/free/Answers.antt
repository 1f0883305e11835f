use Rattle.std.proofs.Common.{refl, arith, ◌++◌}
use Rattle.worked_histories.specs.Gaps.{doubt_config, free_begun, free_newer}
use Rattle.worked_histories.proofs.Computed.Histories.{IsShort, computing}
use Rattle.worked_histories.proofs.Computed.Legal.{legal_is, limits_are}
use Rattle.worked_histories.proofs.ComputedLeads.{measured_is, computing_lead}
use Rattle.worked_histories.proofs.gaps.free.Goals as goal

short : IsShort 4 2 (free_newer ++ free_begun)
unfolding free_begun free_newer
short = record { bound = omega arith; acts = refl }

pub returns-clause-limits : goal.returns-clause-limits
unfolding doubt_config
returns-clause-limits c = limits_are doubt_config refl

pub returns-clause-legal : goal.returns-clause-legal
unfolding computing doubt_config free_begun free_newer
returns-clause-legal c = legal_is 4 2 doubt_config (free_newer ++ free_begun) short refl

pub returns-clause-takes : goal.returns-clause-takes
unfolding free_begun free_newer
returns-clause-takes c = refl

pub returns-clause-gap : goal.returns-clause-gap
unfolding computing_lead doubt_config free_begun free_newer
returns-clause-gap c = measured_is 4 2 doubt_config (free_newer ++ free_begun) 0 1 short
