use Rattle.std.proofs.Common.{refl, arith}
use Rattle.fq_model.specs.declared.config.Policy.TheVariants.{Msf2q, TwoDfq}
use Rattle.worked_histories.specs.Withdrawn.{withdraw_config, both_wait, only_withdrawn, worker_free, back_again, other_withdrawn, other_ended}
use Rattle.worked_histories.proofs.Computed.Histories.{IsShort, idle_time_is, start_is, computing}
use Rattle.worked_histories.proofs.Computed.Choice.{choice_is}
use Rattle.worked_histories.proofs.withdrawn.idle_time.Goals as goal

short_then : IsShort 3 2 only_withdrawn
unfolding both_wait only_withdrawn
short_then = record { bound = omega arith; acts = refl }

short : IsShort 4 2 back_again
unfolding both_wait only_withdrawn worker_free back_again
short = record { bound = omega arith; acts = refl }

short_running : IsShort 3 2 other_withdrawn
unfolding both_wait other_withdrawn
short_running = record { bound = omega arith; acts = refl }

short_ended : IsShort 3 2 other_ended
unfolding both_wait other_withdrawn other_ended
short_ended = record { bound = omega arith; acts = refl }

pub returns-clause-none : goal.returns-clause-none
unfolding computing withdraw_config both_wait only_withdrawn
returns-clause-none c = idle_time_is 3 2 (withdraw_config Msf2q) only_withdrawn 4 1 short_then

pub returns-clause-passed : goal.returns-clause-passed
unfolding computing withdraw_config both_wait only_withdrawn worker_free back_again
returns-clause-passed c = idle_time_is 4 2 (withdraw_config Msf2q) back_again 10 1 short

pub returns-clause-start_msf2q : goal.returns-clause-start_msf2q
unfolding computing withdraw_config both_wait only_withdrawn worker_free back_again
returns-clause-start_msf2q c = start_is 4 2 (withdraw_config Msf2q) back_again 10 1 short

pub returns-clause-start_2dfq : goal.returns-clause-start_2dfq
unfolding computing withdraw_config both_wait only_withdrawn worker_free back_again
returns-clause-start_2dfq c = start_is 4 2 (withdraw_config TwoDfq) back_again 10 1 short

pub returns-clause-choice : goal.returns-clause-choice
unfolding computing withdraw_config both_wait only_withdrawn worker_free back_again
returns-clause-choice c = choice_is 4 2 (withdraw_config Msf2q) back_again 10 0 _ _ short refl refl

pub returns-clause-none_of_running : goal.returns-clause-none_of_running
unfolding computing withdraw_config both_wait other_withdrawn
returns-clause-none_of_running c = idle_time_is 3 2 (withdraw_config Msf2q) other_withdrawn 10 0 short_running

pub returns-clause-passed_since_done : goal.returns-clause-passed_since_done
unfolding computing withdraw_config both_wait other_withdrawn other_ended
returns-clause-passed_since_done c = idle_time_is 3 2 (withdraw_config Msf2q) other_ended 14 0 short_ended
