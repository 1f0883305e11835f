use Rattle.std.proofs.Common.{refl, arith}
use Rattle.worked_histories.specs.Examples.{stagger_config, long_ended}
use Rattle.worked_histories.proofs.Computed.Histories.{IsShort, virtual_time_is, keys_are, computing}
use Rattle.worked_histories.proofs.Computed.Choice.{choice_is, choice_is_not}
use Rattle.worked_histories.proofs.Computed.Legal.{legal_is, limits_are}
use Rattle.worked_histories.proofs.examples.stagger.Goals as goal

short : IsShort 10 2 long_ended
unfolding long_ended
short = record { bound = omega arith; acts = refl }

pub returns-clause-in_limits : goal.returns-clause-in_limits
unfolding stagger_config
returns-clause-in_limits c = limits_are stagger_config refl

pub returns-clause-legal : goal.returns-clause-legal
unfolding computing stagger_config long_ended
returns-clause-legal c = legal_is 10 2 stagger_config long_ended short refl

pub returns-clause-time : goal.returns-clause-time
unfolding computing stagger_config long_ended
returns-clause-time c = virtual_time_is 10 2 stagger_config long_ended 5 short

pub returns-clause-long_keys : goal.returns-clause-long_keys
unfolding computing stagger_config long_ended
returns-clause-long_keys c = keys_are 10 2 stagger_config long_ended 5 0 short

pub returns-clause-short_keys : goal.returns-clause-short_keys
unfolding computing stagger_config long_ended
returns-clause-short_keys c = keys_are 10 2 stagger_config long_ended 5 1 short

pub returns-clause-long_eligible_at : goal.returns-clause-long_eligible_at
unfolding computing stagger_config long_ended
returns-clause-long_eligible_at c = refl

pub returns-clause-short_eligible_at : goal.returns-clause-short_eligible_at
unfolding computing stagger_config long_ended
returns-clause-short_eligible_at c = refl

pub returns-clause-choice : goal.returns-clause-choice
unfolding computing stagger_config long_ended
returns-clause-choice c = choice_is 10 2 stagger_config long_ended 5 1 _ _ short refl refl

pub returns-clause-no_other : goal.returns-clause-no_other
unfolding computing stagger_config long_ended
returns-clause-no_other c = choice_is_not 10 2 stagger_config long_ended 5 1 0 _ short refl refl
