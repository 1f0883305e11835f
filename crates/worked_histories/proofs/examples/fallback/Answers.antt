use Rattle.std.proofs.Common.{ℕ, ◌≡◌, nat_lt, true, refl, arith}
use Rattle.std.proofs.lemmas.Bool.{and_from}
use Rattle.worked_histories.specs.Examples.{fallback_config, fallback_history, fallback_taken}
use Rattle.worked_histories.proofs.Computed.Histories.{IsShort, virtual_time_is, keys_are, computing}
use Rattle.worked_histories.proofs.Computed.Choice.{choice_is, none_is_eligible}
use Rattle.worked_histories.proofs.Computed.Legal.{legal_is, other_take_unfit, limits_are}
use Rattle.worked_histories.proofs.examples.fallback.Goals as goal

short : IsShort 4 2 fallback_history
unfolding fallback_history
short = record { bound = omega arith; acts = refl }

short_taken : (request estimate : ℕ) → nat_lt request 4 ≡ true → IsShort 4 2 (fallback_taken request estimate)
unfolding fallback_taken
short_taken request estimate h = record { bound = omega arith; acts = and_from _ _ h refl }

pub returns-clause-in_limits : goal.returns-clause-in_limits
unfolding fallback_config
returns-clause-in_limits c = limits_are fallback_config refl

pub returns-clause-time : goal.returns-clause-time
unfolding computing fallback_config fallback_history
returns-clause-time c = virtual_time_is 4 2 fallback_config fallback_history 1 short

pub returns-clause-long_finish : goal.returns-clause-long_finish
returns-clause-long_finish c = refl

pub returns-clause-short_finish : goal.returns-clause-short_finish
returns-clause-short_finish c = refl

pub returns-clause-long_keys : goal.returns-clause-long_keys
unfolding computing fallback_config fallback_history
returns-clause-long_keys c = keys_are 4 2 fallback_config fallback_history 1 0 short

pub returns-clause-short_keys : goal.returns-clause-short_keys
unfolding computing fallback_config fallback_history
returns-clause-short_keys c = keys_are 4 2 fallback_config fallback_history 1 1 short

pub returns-clause-none_eligible : goal.returns-clause-none_eligible
unfolding computing fallback_config fallback_history
returns-clause-none_eligible c = none_is_eligible 4 2 fallback_config fallback_history 1 0 short refl

pub returns-clause-choice : goal.returns-clause-choice
unfolding computing fallback_config fallback_history
returns-clause-choice c = choice_is 4 2 fallback_config fallback_history 1 0 _ _ short refl refl

pub returns-clause-long_taken : goal.returns-clause-long_taken
unfolding computing fallback_config fallback_history fallback_taken
returns-clause-long_taken c = legal_is 4 2 fallback_config _ (short_taken _ _ refl) refl

pub returns-clause-short_taken : goal.returns-clause-short_taken
unfolding computing fallback_config fallback_history fallback_taken
returns-clause-short_taken c = λ l. other_take_unfit 4 2 fallback_config fallback_history 1 0 _ _ 0 _ short refl refl refl l.3
