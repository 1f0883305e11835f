use Rattle.std.proofs.Common.{refl, arith}
use Rattle.fq_model.specs.declared.config.Policy.TheVariants.{Wfq, Wf2q, Msf2q, TwoDfq, TwoDfqPlus}
use Rattle.worked_histories.specs.Withdrawn.{withdraw_config, both_wait, other_withdrawn, other_ended}
use Rattle.worked_histories.proofs.Computed.Histories.{IsShort, head_is, is_active_is, virtual_time_is, computing}
use Rattle.worked_histories.proofs.Computed.Legal.{legal_is}
use Rattle.worked_histories.proofs.withdrawn.running_tenant.Goals as goal

short_then : IsShort 3 2 other_withdrawn
unfolding both_wait other_withdrawn
short_then = record { bound = omega arith; acts = refl }

short : IsShort 3 2 other_ended
unfolding both_wait other_withdrawn other_ended
short = record { bound = omega arith; acts = refl }

pub returns-clause-legal : goal.returns-clause-legal
unfolding computing withdraw_config both_wait other_withdrawn other_ended
returns-clause-legal c = elim [
  | Wfq ↦ legal_is 3 2 (withdraw_config Wfq) other_ended short refl
  | Wf2q ↦ legal_is 3 2 (withdraw_config Wf2q) other_ended short refl
  | Msf2q ↦ legal_is 3 2 (withdraw_config Msf2q) other_ended short refl
  | TwoDfq ↦ legal_is 3 2 (withdraw_config TwoDfq) other_ended short refl
  | TwoDfqPlus ↦ legal_is 3 2 (withdraw_config TwoDfqPlus) other_ended short refl
]

pub returns-clause-no_head : goal.returns-clause-no_head
unfolding computing withdraw_config both_wait other_withdrawn
returns-clause-no_head c = head_is 3 2 other_withdrawn 0 short_then

pub returns-clause-active : goal.returns-clause-active
unfolding computing withdraw_config both_wait other_withdrawn
returns-clause-active c = is_active_is 3 2 other_withdrawn 0 short_then

pub returns-clause-not_active : goal.returns-clause-not_active
unfolding computing withdraw_config both_wait other_withdrawn other_ended
returns-clause-not_active c = is_active_is 3 2 other_ended 0 short

pub returns-clause-time_then : goal.returns-clause-time_then
unfolding computing withdraw_config both_wait other_withdrawn
returns-clause-time_then c = elim [
  | Wfq ↦ virtual_time_is 3 2 (withdraw_config Wfq) other_withdrawn 10 short_then
  | Wf2q ↦ virtual_time_is 3 2 (withdraw_config Wf2q) other_withdrawn 10 short_then
  | Msf2q ↦ virtual_time_is 3 2 (withdraw_config Msf2q) other_withdrawn 10 short_then
  | TwoDfq ↦ virtual_time_is 3 2 (withdraw_config TwoDfq) other_withdrawn 10 short_then
  | TwoDfqPlus ↦ virtual_time_is 3 2 (withdraw_config TwoDfqPlus) other_withdrawn 10 short_then
]

pub returns-clause-time : goal.returns-clause-time
unfolding computing withdraw_config both_wait other_withdrawn other_ended
returns-clause-time c = elim [
  | Wfq ↦ virtual_time_is 3 2 (withdraw_config Wfq) other_ended 14 short
  | Wf2q ↦ virtual_time_is 3 2 (withdraw_config Wf2q) other_ended 14 short
  | Msf2q ↦ virtual_time_is 3 2 (withdraw_config Msf2q) other_ended 14 short
  | TwoDfq ↦ virtual_time_is 3 2 (withdraw_config TwoDfq) other_ended 14 short
  | TwoDfqPlus ↦ virtual_time_is 3 2 (withdraw_config TwoDfqPlus) other_ended 14 short
]
