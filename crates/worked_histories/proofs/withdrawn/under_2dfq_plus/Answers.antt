use Rattle.std.proofs.Common.{refl, arith}
use Rattle.fq_model.specs.declared.config.Policy.TheVariants.{TwoDfq, TwoDfqPlus}
use Rattle.worked_histories.specs.Withdrawn.{withdraw_config, paced_waits, paced_withdrawn, paced_again}
use Rattle.worked_histories.proofs.Computed.Histories.{IsShort, virtual_time_is, tag_is, keys_are, computing}
use Rattle.worked_histories.proofs.Computed.Choice.{choice_is}
use Rattle.worked_histories.proofs.Computed.Legal.{legal_is}
use Rattle.worked_histories.proofs.Computed.Paces.{pace_shown}
use Rattle.worked_histories.proofs.withdrawn.under_2dfq_plus.Goals as goal

short_before : IsShort 3 2 paced_waits
unfolding paced_waits
short_before = record { bound = omega arith; acts = refl }

short_then : IsShort 3 2 paced_withdrawn
unfolding paced_waits paced_withdrawn
short_then = record { bound = omega arith; acts = refl }

short : IsShort 4 2 paced_again
unfolding paced_waits paced_withdrawn paced_again
short = record { bound = omega arith; acts = refl }

pub returns-clause-legal : goal.returns-clause-legal
unfolding computing withdraw_config paced_waits paced_withdrawn paced_again
returns-clause-legal c = record {
  under_2dfq_plus = legal_is 4 2 (withdraw_config TwoDfqPlus) paced_again short refl;
  under_2dfq = legal_is 4 2 (withdraw_config TwoDfq) paced_again short refl;
}

pub returns-clause-time_before : goal.returns-clause-time_before
unfolding computing withdraw_config paced_waits
returns-clause-time_before c = virtual_time_is 3 2 (withdraw_config TwoDfqPlus) paced_waits 6 short_before

pub returns-clause-cap_before : goal.returns-clause-cap_before
unfolding computing withdraw_config paced_waits
returns-clause-cap_before c = pace_shown 3 2 (withdraw_config TwoDfqPlus) paced_waits _ _ short_before refl refl

pub returns-clause-stays : goal.returns-clause-stays
unfolding computing withdraw_config paced_waits paced_withdrawn
returns-clause-stays c = pace_shown 3 2 (withdraw_config TwoDfqPlus) paced_withdrawn _ _ short_then refl refl

pub returns-clause-tag_stays : goal.returns-clause-tag_stays
unfolding computing withdraw_config paced_waits paced_withdrawn
returns-clause-tag_stays c = tag_is 3 2 (withdraw_config TwoDfqPlus) paced_withdrawn 1 short_then

pub returns-clause-capped : goal.returns-clause-capped
unfolding computing withdraw_config paced_waits paced_withdrawn paced_again
returns-clause-capped c = pace_shown 4 2 (withdraw_config TwoDfqPlus) paced_again _ _ short refl refl

pub returns-clause-tag_rises : goal.returns-clause-tag_rises
unfolding computing withdraw_config paced_waits paced_withdrawn paced_again
returns-clause-tag_rises c = tag_is 4 2 (withdraw_config TwoDfqPlus) paced_again 1 short

pub returns-clause-other_keys : goal.returns-clause-other_keys
unfolding computing withdraw_config paced_waits paced_withdrawn paced_again
returns-clause-other_keys c = keys_are 4 2 (withdraw_config TwoDfqPlus) paced_again 10 1 short

pub returns-clause-choice : goal.returns-clause-choice
unfolding computing withdraw_config paced_waits paced_withdrawn paced_again
returns-clause-choice c = choice_is 4 2 (withdraw_config TwoDfqPlus) paced_again 10 0 _ _ short refl refl

pub returns-clause-time_2dfq : goal.returns-clause-time_2dfq
unfolding computing withdraw_config paced_waits paced_withdrawn paced_again
returns-clause-time_2dfq c = virtual_time_is 4 2 (withdraw_config TwoDfq) paced_again 10 short

pub returns-clause-tag_2dfq : goal.returns-clause-tag_2dfq
unfolding computing withdraw_config paced_waits paced_withdrawn paced_again
returns-clause-tag_2dfq c = tag_is 4 2 (withdraw_config TwoDfq) paced_again 1 short
