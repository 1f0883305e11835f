use Rattle.std.proofs.Common.{refl, arith}
use Rattle.fq_model.specs.declared.config.Policy.TheVariants.{TwoDfq, TwoDfqPlus}
use Rattle.worked_histories.specs.Paced.{lift_config, lift_taken, lift_history}
use Rattle.worked_histories.proofs.Computed.Histories.{IsShort, virtual_time_is, keys_are, computing}
use Rattle.worked_histories.proofs.Computed.Choice.{choice_is}
use Rattle.worked_histories.proofs.Computed.Legal.{legal_is, limits_are}
use Rattle.worked_histories.proofs.Computed.Paces.{pace_shown}
use Rattle.worked_histories.proofs.paced.lift.Goals as goal

taken_short : IsShort 5 2 lift_taken
unfolding lift_taken
taken_short = record { bound = omega arith; acts = refl }

short : IsShort 5 2 lift_history
unfolding lift_history
short = record { bound = omega arith; acts = refl }

pub returns-clause-in_limits : goal.returns-clause-in_limits
unfolding lift_config
returns-clause-in_limits c = λ p. limits_are (lift_config p) refl

pub returns-clause-legal : goal.returns-clause-legal
unfolding computing lift_config lift_history
returns-clause-legal c = record {
  under_2dfq_plus = legal_is 5 2 (lift_config TwoDfqPlus) lift_history short refl;
  under_2dfq = legal_is 5 2 (lift_config TwoDfq) lift_history short refl;
}

pub returns-clause-lifted : goal.returns-clause-lifted
unfolding computing lift_config lift_taken
returns-clause-lifted c = pace_shown 5 2 (lift_config TwoDfqPlus) lift_taken _ _ taken_short refl refl

pub returns-clause-time : goal.returns-clause-time
unfolding computing lift_config lift_history
returns-clause-time c = virtual_time_is 5 2 (lift_config TwoDfqPlus) lift_history 4 short

pub returns-clause-other_keys : goal.returns-clause-other_keys
unfolding computing lift_config lift_history
returns-clause-other_keys c = keys_are 5 2 (lift_config TwoDfqPlus) lift_history 4 1 short

pub returns-clause-choice : goal.returns-clause-choice
unfolding computing lift_config lift_history
returns-clause-choice c = choice_is 5 2 (lift_config TwoDfqPlus) lift_history 4 1 _ _ short refl refl

pub returns-clause-time_2dfq : goal.returns-clause-time_2dfq
unfolding computing lift_config lift_history
returns-clause-time_2dfq c = virtual_time_is 5 2 (lift_config TwoDfq) lift_history 4 short

pub returns-clause-choice_2dfq : goal.returns-clause-choice_2dfq
unfolding computing lift_config lift_history
returns-clause-choice_2dfq c = choice_is 5 2 (lift_config TwoDfq) lift_history 4 1 _ _ short refl refl
