use Rattle.std.proofs.Common.{refl, arith}
use Rattle.fq_model.specs.declared.config.Policy.TheVariants.{TwoDfq, TwoDfqPlus}
use Rattle.worked_histories.specs.Paced.{both_config, both_ended, both_taken, both_history}
use Rattle.worked_histories.proofs.Computed.Histories.{IsShort, virtual_time_is, computing}
use Rattle.worked_histories.proofs.Computed.Choice.{choice_is}
use Rattle.worked_histories.proofs.Computed.Legal.{legal_is, limits_are}
use Rattle.worked_histories.proofs.Computed.Paces.{pace_shown}
use Rattle.worked_histories.proofs.paced.cap_and_lift.Goals as goal

ended_short : IsShort 4 2 both_ended
unfolding both_ended
ended_short = record { bound = omega arith; acts = refl }

taken_short : IsShort 4 2 both_taken
unfolding both_taken
taken_short = record { bound = omega arith; acts = refl }

short : IsShort 4 2 both_history
unfolding both_history
short = record { bound = omega arith; acts = refl }

pub returns-clause-in_limits : goal.returns-clause-in_limits
unfolding both_config
returns-clause-in_limits c = λ p. limits_are (both_config p) refl

pub returns-clause-legal : goal.returns-clause-legal
unfolding computing both_config both_history
returns-clause-legal c = record {
  under_2dfq_plus = legal_is 4 2 (both_config TwoDfqPlus) both_history short refl;
  under_2dfq = legal_is 4 2 (both_config TwoDfq) both_history short refl;
}

pub returns-clause-capped : goal.returns-clause-capped
unfolding computing both_config both_ended
returns-clause-capped c = pace_shown 4 2 (both_config TwoDfqPlus) both_ended _ _ ended_short refl refl

pub returns-clause-lifted : goal.returns-clause-lifted
unfolding computing both_config both_taken
returns-clause-lifted c = pace_shown 4 2 (both_config TwoDfqPlus) both_taken _ _ taken_short refl refl

pub returns-clause-capped_again : goal.returns-clause-capped_again
unfolding computing both_config both_history
returns-clause-capped_again c = pace_shown 4 2 (both_config TwoDfqPlus) both_history _ _ short refl refl

pub returns-clause-choice : goal.returns-clause-choice
unfolding computing both_config both_history
returns-clause-choice c = choice_is 4 2 (both_config TwoDfqPlus) both_history 20 0 _ _ short refl refl

pub returns-clause-time_2dfq : goal.returns-clause-time_2dfq
unfolding computing both_config both_history
returns-clause-time_2dfq c = virtual_time_is 4 2 (both_config TwoDfq) both_history 20 short

pub returns-clause-choice_2dfq : goal.returns-clause-choice_2dfq
unfolding computing both_config both_history
returns-clause-choice_2dfq c = choice_is 4 2 (both_config TwoDfq) both_history 20 0 _ _ short refl refl
