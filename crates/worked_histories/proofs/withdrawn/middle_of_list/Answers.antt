use Rattle.std.proofs.Common.{refl, arith}
use Rattle.fq_model.specs.declared.config.Policy.TheVariants.{Wfq, Wf2q, Msf2q, TwoDfq, TwoDfqPlus}
use Rattle.worked_histories.specs.Withdrawn.{withdraw_config, list_waits, one_withdrawn}
use Rattle.worked_histories.proofs.Computed.Histories.{IsShort, keys_are, computing}
use Rattle.worked_histories.proofs.Computed.Choice.{choice_is}
use Rattle.worked_histories.proofs.Computed.Legal.{legal_is}
use Rattle.worked_histories.proofs.withdrawn.middle_of_list.Goals as goal

short : IsShort 5 2 (one_withdrawn 2)
unfolding list_waits one_withdrawn
short = record { bound = omega arith; acts = refl }

short_less_last : IsShort 5 2 (one_withdrawn 3)
unfolding list_waits one_withdrawn
short_less_last = record { bound = omega arith; acts = refl }

pub returns-clause-legal : goal.returns-clause-legal
unfolding computing withdraw_config list_waits one_withdrawn
returns-clause-legal c = elim [
  | Wfq ↦ legal_is 5 2 (withdraw_config Wfq) (one_withdrawn 2) short refl
  | Wf2q ↦ legal_is 5 2 (withdraw_config Wf2q) (one_withdrawn 2) short refl
  | Msf2q ↦ legal_is 5 2 (withdraw_config Msf2q) (one_withdrawn 2) short refl
  | TwoDfq ↦ legal_is 5 2 (withdraw_config TwoDfq) (one_withdrawn 2) short refl
  | TwoDfqPlus ↦ legal_is 5 2 (withdraw_config TwoDfqPlus) (one_withdrawn 2) short refl
]

pub returns-clause-list : goal.returns-clause-list
unfolding list_waits one_withdrawn
returns-clause-list c = refl

pub returns-clause-keys : goal.returns-clause-keys
unfolding computing withdraw_config list_waits one_withdrawn
returns-clause-keys c = elim [
  | Wfq ↦ keys_are 5 2 (withdraw_config Wfq) (one_withdrawn 2) 10 0 short
  | Wf2q ↦ keys_are 5 2 (withdraw_config Wf2q) (one_withdrawn 2) 10 0 short
  | Msf2q ↦ keys_are 5 2 (withdraw_config Msf2q) (one_withdrawn 2) 10 0 short
  | TwoDfq ↦ keys_are 5 2 (withdraw_config TwoDfq) (one_withdrawn 2) 10 0 short
  | TwoDfqPlus ↦ keys_are 5 2 (withdraw_config TwoDfqPlus) (one_withdrawn 2) 10 0 short
]

pub returns-clause-choice : goal.returns-clause-choice
unfolding computing withdraw_config list_waits one_withdrawn
returns-clause-choice c = elim [
  | Wfq ↦ choice_is 5 2 (withdraw_config Wfq) (one_withdrawn 2) 10 0 _ _ short refl refl
  | Wf2q ↦ choice_is 5 2 (withdraw_config Wf2q) (one_withdrawn 2) 10 0 _ _ short refl refl
  | Msf2q ↦ choice_is 5 2 (withdraw_config Msf2q) (one_withdrawn 2) 10 0 _ _ short refl refl
  | TwoDfq ↦ choice_is 5 2 (withdraw_config TwoDfq) (one_withdrawn 2) 10 0 _ _ short refl refl
  | TwoDfqPlus ↦ choice_is 5 2 (withdraw_config TwoDfqPlus) (one_withdrawn 2) 10 0 _ _ short refl refl
]

pub returns-clause-list_less_last : goal.returns-clause-list_less_last
unfolding list_waits one_withdrawn
returns-clause-list_less_last c = refl

pub returns-clause-keys_less_last : goal.returns-clause-keys_less_last
unfolding computing withdraw_config list_waits one_withdrawn
returns-clause-keys_less_last c = elim [
  | Wfq ↦ keys_are 5 2 (withdraw_config Wfq) (one_withdrawn 3) 10 0 short_less_last
  | Wf2q ↦ keys_are 5 2 (withdraw_config Wf2q) (one_withdrawn 3) 10 0 short_less_last
  | Msf2q ↦ keys_are 5 2 (withdraw_config Msf2q) (one_withdrawn 3) 10 0 short_less_last
  | TwoDfq ↦ keys_are 5 2 (withdraw_config TwoDfq) (one_withdrawn 3) 10 0 short_less_last
  | TwoDfqPlus ↦ keys_are 5 2 (withdraw_config TwoDfqPlus) (one_withdrawn 3) 10 0 short_less_last
]
