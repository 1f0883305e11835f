use Rattle.std.proofs.Common.{refl, arith}
use Rattle.fq_model.specs.declared.config.Policy.TheVariants.{TwoDfq, TwoDfqPlus}
use Rattle.worked_histories.specs.Paced.{changes_config, changes_taken, changes_history}
use Rattle.worked_histories.proofs.Computed.Histories.{IsShort, virtual_time_is, keys_are, computing}
use Rattle.worked_histories.proofs.Computed.Choice.{choice_is}
use Rattle.worked_histories.proofs.Computed.Legal.{legal_is, limits_are}
use Rattle.worked_histories.proofs.Computed.Paces.{pace_shown}
use Rattle.worked_histories.proofs.paced.changes_between.Goals as goal

taken_short : IsShort 4 2 changes_taken
unfolding changes_taken
taken_short = record { bound = omega arith; acts = refl }

short : IsShort 4 2 changes_history
unfolding changes_history
short = record { bound = omega arith; acts = refl }

pub returns-clause-in_limits : goal.returns-clause-in_limits
unfolding changes_config
returns-clause-in_limits c = λ p. limits_are (changes_config p) refl

pub returns-clause-legal : goal.returns-clause-legal
unfolding computing changes_config changes_history
returns-clause-legal c = record {
  under_2dfq_plus = legal_is 4 2 (changes_config TwoDfqPlus) changes_history short refl;
  under_2dfq = legal_is 4 2 (changes_config TwoDfq) changes_history short refl;
}

pub returns-clause-lifted : goal.returns-clause-lifted
unfolding computing changes_config changes_taken
returns-clause-lifted c = pace_shown 4 2 (changes_config TwoDfqPlus) changes_taken _ _ taken_short refl refl

pub returns-clause-capped : goal.returns-clause-capped
unfolding computing changes_config changes_history
returns-clause-capped c = pace_shown 4 2 (changes_config TwoDfqPlus) changes_history _ _ short refl refl

pub returns-clause-other_keys : goal.returns-clause-other_keys
unfolding computing changes_config changes_history
returns-clause-other_keys c = keys_are 4 2 (changes_config TwoDfqPlus) changes_history 14 1 short

pub returns-clause-choice : goal.returns-clause-choice
unfolding computing changes_config changes_history
returns-clause-choice c = choice_is 4 2 (changes_config TwoDfqPlus) changes_history 14 0 _ _ short refl refl

pub returns-clause-time_2dfq : goal.returns-clause-time_2dfq
unfolding computing changes_config changes_history
returns-clause-time_2dfq c = virtual_time_is 4 2 (changes_config TwoDfq) changes_history 14 short

pub returns-clause-choice_2dfq : goal.returns-clause-choice_2dfq
unfolding computing changes_config changes_history
returns-clause-choice_2dfq c = choice_is 4 2 (changes_config TwoDfq) changes_history 14 0 _ _ short refl refl
