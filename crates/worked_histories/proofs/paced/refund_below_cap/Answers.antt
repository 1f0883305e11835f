use Rattle.std.proofs.Common.{refl, arith}
use Rattle.fq_model.specs.declared.config.Policy.TheVariants.{TwoDfq, TwoDfqPlus}
use Rattle.worked_histories.specs.Paced.{refunded_config, refunded_ended, refunded_history}
use Rattle.worked_histories.proofs.Computed.Histories.{IsShort, virtual_time_is, keys_are, computing}
use Rattle.worked_histories.proofs.Computed.Choice.{choice_is}
use Rattle.worked_histories.proofs.Computed.Legal.{legal_is, limits_are}
use Rattle.worked_histories.proofs.Computed.Paces.{pace_shown}
use Rattle.worked_histories.proofs.paced.refund_below_cap.Goals as goal

ended_short : IsShort 4 2 refunded_ended
unfolding refunded_ended
ended_short = record { bound = omega arith; acts = refl }

short : IsShort 4 2 refunded_history
unfolding refunded_history
short = record { bound = omega arith; acts = refl }

pub returns-clause-in_limits : goal.returns-clause-in_limits
unfolding refunded_config
returns-clause-in_limits c = λ p. limits_are (refunded_config p) refl

pub returns-clause-legal : goal.returns-clause-legal
unfolding computing refunded_config refunded_history
returns-clause-legal c = record {
  under_2dfq_plus = legal_is 4 2 (refunded_config TwoDfqPlus) refunded_history short refl;
  under_2dfq = legal_is 4 2 (refunded_config TwoDfq) refunded_history short refl;
}

pub returns-clause-below : goal.returns-clause-below
unfolding computing refunded_config refunded_ended
returns-clause-below c = pace_shown 4 2 (refunded_config TwoDfqPlus) refunded_ended _ _ ended_short refl refl

pub returns-clause-capped : goal.returns-clause-capped
unfolding computing refunded_config refunded_history
returns-clause-capped c = pace_shown 4 2 (refunded_config TwoDfqPlus) refunded_history _ _ short refl refl

pub returns-clause-other_keys : goal.returns-clause-other_keys
unfolding computing refunded_config refunded_history
returns-clause-other_keys c = keys_are 4 2 (refunded_config TwoDfqPlus) refunded_history 12 0 short

pub returns-clause-choice : goal.returns-clause-choice
unfolding computing refunded_config refunded_history
returns-clause-choice c = choice_is 4 2 (refunded_config TwoDfqPlus) refunded_history 12 0 _ _ short refl refl

pub returns-clause-time_2dfq : goal.returns-clause-time_2dfq
unfolding computing refunded_config refunded_history
returns-clause-time_2dfq c = virtual_time_is 4 2 (refunded_config TwoDfq) refunded_history 12 short

pub returns-clause-choice_2dfq : goal.returns-clause-choice_2dfq
unfolding computing refunded_config refunded_history
returns-clause-choice_2dfq c = choice_is 4 2 (refunded_config TwoDfq) refunded_history 12 0 _ _ short refl refl
