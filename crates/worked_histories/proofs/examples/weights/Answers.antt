use Rattle.std.proofs.Common.{refl, arith}
use Rattle.worked_histories.specs.Examples.{weights_config, weights_history}
use Rattle.worked_histories.proofs.Computed.Histories.{IsShort, virtual_time_is, tag_is, keys_are, computing}
use Rattle.worked_histories.proofs.Computed.Choice.{choice_is}
use Rattle.worked_histories.proofs.Computed.Legal.{legal_is, limits_are}
use Rattle.worked_histories.proofs.examples.weights.Goals as goal

short : IsShort 3 2 weights_history
unfolding weights_history
short = record { bound = omega arith; acts = refl }

pub returns-clause-in_limits : goal.returns-clause-in_limits
unfolding weights_config
returns-clause-in_limits c = limits_are weights_config refl

pub returns-clause-legal : goal.returns-clause-legal
unfolding computing weights_config weights_history
returns-clause-legal c = legal_is 3 2 weights_config weights_history short refl

pub returns-clause-time : goal.returns-clause-time
unfolding computing weights_config weights_history
returns-clause-time c = virtual_time_is 3 2 weights_config weights_history 20 short

pub returns-clause-tag : goal.returns-clause-tag
unfolding computing weights_config weights_history
returns-clause-tag c = tag_is 3 2 weights_config weights_history 0 short

pub returns-clause-keys : goal.returns-clause-keys
unfolding computing weights_config weights_history
returns-clause-keys c = keys_are 3 2 weights_config weights_history 20 0 short

pub returns-clause-other_keys : goal.returns-clause-other_keys
unfolding computing weights_config weights_history
returns-clause-other_keys c = keys_are 3 2 weights_config weights_history 20 1 short

pub returns-clause-choice : goal.returns-clause-choice
unfolding computing weights_config weights_history
returns-clause-choice c = choice_is 3 2 weights_config weights_history 20 0 _ _ short refl refl
