use Rattle.std.proofs.Common.{refl, arith}
use Rattle.fq_model.specs.declared.config.Policy.TheVariants.{Wfq, Wf2q, Msf2q, TwoDfq, TwoDfqPlus}
use Rattle.worked_histories.specs.Withdrawn.{withdraw_config, list_waits, one_withdrawn}
use Rattle.worked_histories.proofs.Computed.Histories.{IsShort, virtual_time_is, keys_are, computing}
use Rattle.worked_histories.proofs.Computed.Choice.{choice_is}
use Rattle.worked_histories.proofs.Computed.Legal.{legal_is}
use Rattle.worked_histories.proofs.withdrawn.head_of_list.Goals as goal

short_before : IsShort 5 2 list_waits
unfolding list_waits
short_before = record { bound = omega arith; acts = refl }

short : IsShort 5 2 (one_withdrawn 1)
unfolding list_waits one_withdrawn
short = record { bound = omega arith; acts = refl }

pub returns-clause-legal : goal.returns-clause-legal
unfolding computing withdraw_config list_waits one_withdrawn
returns-clause-legal c = elim [
  | Wfq ↦ legal_is 5 2 (withdraw_config Wfq) (one_withdrawn 1) short refl
  | Wf2q ↦ legal_is 5 2 (withdraw_config Wf2q) (one_withdrawn 1) short refl
  | Msf2q ↦ legal_is 5 2 (withdraw_config Msf2q) (one_withdrawn 1) short refl
  | TwoDfq ↦ legal_is 5 2 (withdraw_config TwoDfq) (one_withdrawn 1) short refl
  | TwoDfqPlus ↦ legal_is 5 2 (withdraw_config TwoDfqPlus) (one_withdrawn 1) short refl
]

pub returns-clause-time : goal.returns-clause-time
unfolding computing withdraw_config list_waits one_withdrawn
returns-clause-time c = elim [
  | Wfq ↦ virtual_time_is 5 2 (withdraw_config Wfq) (one_withdrawn 1) 10 short
  | Wf2q ↦ virtual_time_is 5 2 (withdraw_config Wf2q) (one_withdrawn 1) 10 short
  | Msf2q ↦ virtual_time_is 5 2 (withdraw_config Msf2q) (one_withdrawn 1) 10 short
  | TwoDfq ↦ virtual_time_is 5 2 (withdraw_config TwoDfq) (one_withdrawn 1) 10 short
  | TwoDfqPlus ↦ virtual_time_is 5 2 (withdraw_config TwoDfqPlus) (one_withdrawn 1) 10 short
]

pub returns-clause-keys_before : goal.returns-clause-keys_before
unfolding computing withdraw_config list_waits
returns-clause-keys_before c = elim [
  | Wfq ↦ keys_are 5 2 (withdraw_config Wfq) list_waits 10 0 short_before
  | Wf2q ↦ keys_are 5 2 (withdraw_config Wf2q) list_waits 10 0 short_before
  | Msf2q ↦ keys_are 5 2 (withdraw_config Msf2q) list_waits 10 0 short_before
  | TwoDfq ↦ keys_are 5 2 (withdraw_config TwoDfq) list_waits 10 0 short_before
  | TwoDfqPlus ↦ keys_are 5 2 (withdraw_config TwoDfqPlus) list_waits 10 0 short_before
]

pub returns-clause-choice_before : goal.returns-clause-choice_before
unfolding computing withdraw_config list_waits
returns-clause-choice_before c = elim [
  | Wfq ↦ choice_is 5 2 (withdraw_config Wfq) list_waits 10 0 _ _ short_before refl refl
  | Wf2q ↦ choice_is 5 2 (withdraw_config Wf2q) list_waits 10 0 _ _ short_before refl refl
  | Msf2q ↦ choice_is 5 2 (withdraw_config Msf2q) list_waits 10 0 _ _ short_before refl refl
  | TwoDfq ↦ choice_is 5 2 (withdraw_config TwoDfq) list_waits 10 0 _ _ short_before refl refl
  | TwoDfqPlus ↦ choice_is 5 2 (withdraw_config TwoDfqPlus) list_waits 10 0 _ _ short_before refl refl
]

pub returns-clause-list : goal.returns-clause-list
unfolding list_waits one_withdrawn
returns-clause-list c = refl

pub returns-clause-choice : goal.returns-clause-choice
unfolding computing withdraw_config list_waits one_withdrawn
returns-clause-choice c = elim [
  | Wfq ↦ choice_is 5 2 (withdraw_config Wfq) (one_withdrawn 1) 10 0 _ _ short refl refl
  | Wf2q ↦ choice_is 5 2 (withdraw_config Wf2q) (one_withdrawn 1) 10 0 _ _ short refl refl
  | Msf2q ↦ choice_is 5 2 (withdraw_config Msf2q) (one_withdrawn 1) 10 0 _ _ short refl refl
  | TwoDfq ↦ choice_is 5 2 (withdraw_config TwoDfq) (one_withdrawn 1) 10 0 _ _ short refl refl
  | TwoDfqPlus ↦ choice_is 5 2 (withdraw_config TwoDfqPlus) (one_withdrawn 1) 10 0 _ _ short refl refl
]
