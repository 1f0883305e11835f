use Rattle.std.proofs.Common.{◌≡◌, refl, ap, arith}
use Rattle.vt_fixed.specs.Rounding.{length_of, part_of}
use Rattle.fq_model.specs.Lead.{over_running}
use Rattle.fq_model.specs.Limits.{InLimits}
use Rattle.fq_model.specs.Pace.{Pace}
use Rattle.fq_model.specs.Rules.{IsLegal}
use Rattle.worked_histories.specs.Examples.{units}
use Rattle.worked_histories.proofs.Computed.Histories.{IsShort, head_is, pace_is, computing}
use Rattle.worked_histories.proofs.Computed.Legal.{legal_is, limits_are}
use Rattle.ever_laws.specs.Examples.{three_config, three_cap_history}
use Rattle.ever_laws.proofs.Computed.{paced_within, least_is}
use Rattle.ever_laws.proofs.examples.cap_of_three.Goals as goal

short : IsShort 6 3 three_cap_history
unfolding three_cap_history
short = record { bound = omega arith; acts = refl }

in_limits : InLimits three_config
unfolding three_config
in_limits = limits_are three_config refl

legal : IsLegal three_config three_cap_history
unfolding computing three_config three_cap_history
legal = legal_is 6 3 three_config three_cap_history short refl

length_is : length_of 3 1 ≡ units 3
unfolding length_of
length_is = refl

pub returns-clause-within : goal.returns-clause-within
unfolding three_config three_cap_history
returns-clause-within c = paced_within three_config three_cap_history 3 (units 3) refl in_limits legal (omega arith) (omega arith) refl length_is

pub returns-clause-waits : goal.returns-clause-waits
unfolding computing three_cap_history
returns-clause-waits c = head_is 6 3 three_cap_history 1 short

pub returns-clause-cap : goal.returns-clause-cap
unfolding computing three_config three_cap_history
returns-clause-cap c = ap (λ (p : Pace). p.reached) (pace_is 6 3 three_config three_cap_history short)

pub returns-clause-least : goal.returns-clause-least
unfolding computing over_running three_config three_cap_history
returns-clause-least c = least_is 6 3 three_config three_cap_history 1 short

pub returns-clause-bound : goal.returns-clause-bound
unfolding part_of three_config
returns-clause-bound c = refl
