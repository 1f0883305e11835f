use Rattle.std.proofs.Common.{refl, arith}
use Rattle.worked_histories.specs.Examples.{refund_config, refund_history}
use Rattle.worked_histories.proofs.Computed.Histories.{IsShort, virtual_time_is, tag_is, computing}
use Rattle.worked_histories.proofs.Computed.Choice.{choice_is}
use Rattle.worked_histories.proofs.Computed.Legal.{legal_is, limits_are}
use Rattle.worked_histories.proofs.examples.refund.Goals as goal

short : IsShort 4 2 refund_history
unfolding refund_history
short = record { bound = omega arith; acts = refl }

pub returns-clause-in_limits : goal.returns-clause-in_limits
unfolding refund_config
returns-clause-in_limits c = limits_are refund_config refl

pub returns-clause-legal : goal.returns-clause-legal
unfolding computing refund_config refund_history
returns-clause-legal c = legal_is 4 2 refund_config refund_history short refl

pub returns-clause-time : goal.returns-clause-time
unfolding computing refund_config refund_history
returns-clause-time c = virtual_time_is 4 2 refund_config refund_history 993 short

pub returns-clause-refunded_tag : goal.returns-clause-refunded_tag
unfolding computing refund_config refund_history
returns-clause-refunded_tag c = tag_is 4 2 refund_config refund_history 0 short

pub returns-clause-other_tag : goal.returns-clause-other_tag
unfolding computing refund_config refund_history
returns-clause-other_tag c = tag_is 4 2 refund_config refund_history 1 short

pub returns-clause-estimate : goal.returns-clause-estimate
unfolding computing refund_config refund_history
returns-clause-estimate c = refl

pub returns-clause-choice : goal.returns-clause-choice
unfolding computing refund_config refund_history
returns-clause-choice c = choice_is 4 2 refund_config refund_history 993 0 _ _ short refl refl
