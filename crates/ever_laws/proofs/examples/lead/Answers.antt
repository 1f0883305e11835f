use Rattle.std.proofs.Common.{◌≡◌, refl, arith}
use Rattle.vt_fixed.specs.Rounding.{length_of, part_of}
use Rattle.fq_model.specs.Limits.{InLimits}
use Rattle.fq_model.specs.Rules.{IsLegal}
use Rattle.worked_histories.specs.Examples.{units}
use Rattle.worked_histories.proofs.Computed.Histories.{IsShort, head_is, computing}
use Rattle.worked_histories.proofs.Computed.Legal.{legal_is, limits_are}
use Rattle.ever_laws.specs.Examples.{pair_config, lead_history}
use Rattle.ever_laws.proofs.Computed.{paced_within, difference_is}
use Rattle.ever_laws.proofs.examples.lead.Goals as goal

short : IsShort 8 3 lead_history
unfolding lead_history
short = record { bound = omega arith; acts = refl }

in_limits : InLimits pair_config
unfolding pair_config
in_limits = limits_are pair_config refl

legal : IsLegal pair_config lead_history
unfolding computing pair_config lead_history
legal = legal_is 8 3 pair_config lead_history short refl

length_is : length_of 4 1 ≡ units 4
unfolding length_of
length_is = refl

pub returns-clause-within : goal.returns-clause-within
unfolding pair_config lead_history
returns-clause-within c = paced_within pair_config lead_history 4 (units 4) refl in_limits legal (omega arith) (omega arith) refl length_is

pub returns-clause-waits : goal.returns-clause-waits
unfolding computing lead_history
returns-clause-waits c = head_is 8 3 lead_history 1 short

pub returns-clause-lead : goal.returns-clause-lead
unfolding computing pair_config lead_history
returns-clause-lead c = difference_is 8 3 pair_config lead_history 0 1 short

pub returns-clause-bound : goal.returns-clause-bound
unfolding part_of pair_config
returns-clause-bound c = refl
