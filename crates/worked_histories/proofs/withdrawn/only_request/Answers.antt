use Rattle.std.proofs.Common.{refl, arith}
use Rattle.fq_model.specs.declared.config.Policy.TheVariants.{Wfq, Wf2q, Msf2q, TwoDfq, TwoDfqPlus}
use Rattle.worked_histories.specs.Withdrawn.{withdraw_config, both_wait, only_withdrawn, worker_free, back_again}
use Rattle.worked_histories.proofs.Computed.Histories.{IsShort, head_is, is_active_is, virtual_time_is, tag_is, keys_are, computing}
use Rattle.worked_histories.proofs.Computed.Choice.{choice_is}
use Rattle.worked_histories.proofs.Computed.Legal.{legal_is, limits_are}
use Rattle.worked_histories.proofs.withdrawn.only_request.Goals as goal

short_then : IsShort 3 2 only_withdrawn
unfolding both_wait only_withdrawn
short_then = record { bound = omega arith; acts = refl }

short : IsShort 4 2 back_again
unfolding both_wait only_withdrawn worker_free back_again
short = record { bound = omega arith; acts = refl }

pub returns-clause-in_limits : goal.returns-clause-in_limits
unfolding withdraw_config
returns-clause-in_limits c = λ p. limits_are (withdraw_config p) refl

pub returns-clause-legal : goal.returns-clause-legal
unfolding computing withdraw_config both_wait only_withdrawn worker_free back_again
returns-clause-legal c = elim [
  | Wfq ↦ legal_is 4 2 (withdraw_config Wfq) back_again short refl
  | Wf2q ↦ legal_is 4 2 (withdraw_config Wf2q) back_again short refl
  | Msf2q ↦ legal_is 4 2 (withdraw_config Msf2q) back_again short refl
  | TwoDfq ↦ legal_is 4 2 (withdraw_config TwoDfq) back_again short refl
  | TwoDfqPlus ↦ legal_is 4 2 (withdraw_config TwoDfqPlus) back_again short refl
]

pub returns-clause-no_head : goal.returns-clause-no_head
unfolding computing withdraw_config both_wait only_withdrawn
returns-clause-no_head c = head_is 3 2 only_withdrawn 1 short_then

pub returns-clause-not_active : goal.returns-clause-not_active
unfolding computing withdraw_config both_wait only_withdrawn
returns-clause-not_active c = is_active_is 3 2 only_withdrawn 1 short_then

pub returns-clause-time_then : goal.returns-clause-time_then
unfolding computing withdraw_config both_wait only_withdrawn
returns-clause-time_then c = elim [
  | Wfq ↦ virtual_time_is 3 2 (withdraw_config Wfq) only_withdrawn 4 short_then
  | Wf2q ↦ virtual_time_is 3 2 (withdraw_config Wf2q) only_withdrawn 4 short_then
  | Msf2q ↦ virtual_time_is 3 2 (withdraw_config Msf2q) only_withdrawn 4 short_then
  | TwoDfq ↦ virtual_time_is 3 2 (withdraw_config TwoDfq) only_withdrawn 4 short_then
  | TwoDfqPlus ↦ virtual_time_is 3 2 (withdraw_config TwoDfqPlus) only_withdrawn 4 short_then
]

pub returns-clause-time : goal.returns-clause-time
unfolding computing withdraw_config both_wait only_withdrawn worker_free back_again
returns-clause-time c = elim [
  | Wfq ↦ virtual_time_is 4 2 (withdraw_config Wfq) back_again 10 short
  | Wf2q ↦ virtual_time_is 4 2 (withdraw_config Wf2q) back_again 10 short
  | Msf2q ↦ virtual_time_is 4 2 (withdraw_config Msf2q) back_again 10 short
  | TwoDfq ↦ virtual_time_is 4 2 (withdraw_config TwoDfq) back_again 10 short
  | TwoDfqPlus ↦ virtual_time_is 4 2 (withdraw_config TwoDfqPlus) back_again 10 short
]

pub returns-clause-tag_stays : goal.returns-clause-tag_stays
unfolding computing withdraw_config both_wait only_withdrawn
returns-clause-tag_stays c = elim [
  | Wfq ↦ tag_is 3 2 (withdraw_config Wfq) only_withdrawn 1 short_then
  | Wf2q ↦ tag_is 3 2 (withdraw_config Wf2q) only_withdrawn 1 short_then
  | Msf2q ↦ tag_is 3 2 (withdraw_config Msf2q) only_withdrawn 1 short_then
  | TwoDfq ↦ tag_is 3 2 (withdraw_config TwoDfq) only_withdrawn 1 short_then
  | TwoDfqPlus ↦ tag_is 3 2 (withdraw_config TwoDfqPlus) only_withdrawn 1 short_then
]

pub returns-clause-tag_rises : goal.returns-clause-tag_rises
unfolding computing withdraw_config both_wait only_withdrawn worker_free back_again
returns-clause-tag_rises c = elim [
  | Wfq ↦ tag_is 4 2 (withdraw_config Wfq) back_again 1 short
  | Wf2q ↦ tag_is 4 2 (withdraw_config Wf2q) back_again 1 short
  | Msf2q ↦ tag_is 4 2 (withdraw_config Msf2q) back_again 1 short
  | TwoDfq ↦ tag_is 4 2 (withdraw_config TwoDfq) back_again 1 short
  | TwoDfqPlus ↦ tag_is 4 2 (withdraw_config TwoDfqPlus) back_again 1 short
]

pub returns-clause-other_keys : goal.returns-clause-other_keys
unfolding computing withdraw_config both_wait only_withdrawn worker_free back_again
returns-clause-other_keys c = elim [
  | Wfq ↦ keys_are 4 2 (withdraw_config Wfq) back_again 10 0 short
  | Wf2q ↦ keys_are 4 2 (withdraw_config Wf2q) back_again 10 0 short
  | Msf2q ↦ keys_are 4 2 (withdraw_config Msf2q) back_again 10 0 short
  | TwoDfq ↦ keys_are 4 2 (withdraw_config TwoDfq) back_again 10 0 short
  | TwoDfqPlus ↦ keys_are 4 2 (withdraw_config TwoDfqPlus) back_again 10 0 short
]

pub returns-clause-choice : goal.returns-clause-choice
unfolding computing withdraw_config both_wait only_withdrawn worker_free back_again
returns-clause-choice c = choice_is 4 2 (withdraw_config TwoDfq) back_again 10 0 _ _ short refl refl
