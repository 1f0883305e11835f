use Rattle.std.proofs.Common.{◌≡◌, refl, arith}
use Rattle.vt_fixed.specs.Rounding.{length_of, part_of}
use Rattle.fq_model.specs.Lead.{over_running}
use Rattle.fq_model.specs.Limits.{InLimits}
use Rattle.fq_model.specs.Rules.{IsLegal}
use Rattle.worked_histories.specs.Examples.{units}
use Rattle.worked_histories.proofs.Computed.Histories.{IsShort, virtual_time_is, computing}
use Rattle.worked_histories.proofs.Computed.Legal.{legal_is, limits_are}
use Rattle.ever_laws.specs.Examples.{pair_config, most_history}
use Rattle.ever_laws.proofs.Computed.{paced_within, most_is}
use Rattle.ever_laws.proofs.examples.most.Goals as goal

short : IsShort 3 3 most_history
unfolding most_history
short = record { bound = omega arith; acts = refl }

in_limits : InLimits pair_config
unfolding pair_config
in_limits = limits_are pair_config refl

legal : IsLegal pair_config most_history
unfolding computing pair_config most_history
legal = legal_is 3 3 pair_config most_history short refl

length_is : length_of 4 1 ≡ units 4
unfolding length_of
length_is = refl

pub returns-clause-within : goal.returns-clause-within
unfolding pair_config most_history
returns-clause-within c = paced_within pair_config most_history 4 (units 4) refl in_limits legal (omega arith) (omega arith) refl length_is

pub returns-clause-time : goal.returns-clause-time
unfolding computing pair_config most_history
returns-clause-time c = virtual_time_is 3 3 pair_config most_history 0 short

pub returns-clause-most : goal.returns-clause-most
unfolding computing over_running pair_config most_history
returns-clause-most c = most_is 3 3 (units 4) pair_config most_history 0 short

pub returns-clause-bound : goal.returns-clause-bound
unfolding part_of pair_config
returns-clause-bound c = refl
