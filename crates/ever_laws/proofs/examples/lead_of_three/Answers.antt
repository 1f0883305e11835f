use Rattle.std.proofs.Common.{◌≡◌, refl, arith}
use Rattle.vt_fixed.specs.Rounding.{length_of, part_of}
use Rattle.fq_model.specs.Limits.{InLimits}
use Rattle.fq_model.specs.Rules.{IsLegal}
use Rattle.worked_histories.specs.Examples.{units}
use Rattle.worked_histories.proofs.Computed.Histories.{IsShort, head_is, computing}
use Rattle.worked_histories.proofs.Computed.Legal.{legal_is, limits_are}
use Rattle.ever_laws.specs.Examples.{three_config, three_lead_history}
use Rattle.ever_laws.proofs.Computed.{paced_within, difference_is}
use Rattle.ever_laws.proofs.examples.lead_of_three.Goals as goal

short : IsShort 10 3 three_lead_history
unfolding three_lead_history
short = record { bound = omega arith; acts = refl }

in_limits : InLimits three_config
unfolding three_config
in_limits = limits_are three_config refl

legal : IsLegal three_config three_lead_history
unfolding computing three_config three_lead_history
legal = legal_is 10 3 three_config three_lead_history short refl

length_is : length_of 3 1 ≡ units 3
unfolding length_of
length_is = refl

pub returns-clause-within : goal.returns-clause-within
unfolding three_config three_lead_history
returns-clause-within c = paced_within three_config three_lead_history 3 (units 3) refl in_limits legal (omega arith) (omega arith) refl length_is

pub returns-clause-waits : goal.returns-clause-waits
unfolding computing three_lead_history
returns-clause-waits c = head_is 10 3 three_lead_history 1 short

pub returns-clause-lead : goal.returns-clause-lead
unfolding computing three_config three_lead_history
returns-clause-lead c = difference_is 10 3 three_config three_lead_history 0 1 short

pub returns-clause-bound : goal.returns-clause-bound
unfolding part_of three_config
returns-clause-bound c = refl
