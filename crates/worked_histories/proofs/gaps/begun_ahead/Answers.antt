use Rattle.std.proofs.Common.{refl, arith}
use Rattle.worked_histories.specs.Gaps.{begun_config, begun_history}
use Rattle.worked_histories.proofs.Computed.Histories.{IsShort}
use Rattle.worked_histories.proofs.ComputedLeads.{measured_is, computing_lead}
use Rattle.worked_histories.proofs.gaps.begun_ahead.Goals as goal

short : IsShort 4 2 begun_history
unfolding begun_history
short = record { bound = omega arith; acts = refl }

pub returns : goal.returns
unfolding computing_lead begun_config begun_history
returns c = measured_is 4 2 begun_config begun_history 0 1 short
