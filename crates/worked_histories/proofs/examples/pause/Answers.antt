use Rattle.std.proofs.Common.{refl, arith}
use Rattle.fq_model.specs.declared.config.Policy.TheVariants.{Wfq, Wf2q, Msf2q, TwoDfq, TwoDfqPlus}
use Rattle.worked_histories.specs.Examples.{pause_config, pause_history}
use Rattle.worked_histories.proofs.Computed.Histories.{IsShort, virtual_time_is, start_is, keys_are, computing}
use Rattle.worked_histories.proofs.Computed.Choice.{choice_is}
use Rattle.worked_histories.proofs.Computed.Legal.{legal_is, limits_are}
use Rattle.worked_histories.proofs.examples.pause.Goals as goal

short : IsShort 4 2 pause_history
unfolding pause_history
short = record { bound = omega arith; acts = refl }

pub returns-clause-in_limits : goal.returns-clause-in_limits
unfolding pause_config
returns-clause-in_limits c = λ p. limits_are (pause_config p) refl

pub returns-clause-legal : goal.returns-clause-legal
unfolding computing pause_config pause_history
returns-clause-legal c = elim [
  | Wfq ↦ legal_is 4 2 (pause_config Wfq) pause_history short refl
  | Wf2q ↦ legal_is 4 2 (pause_config Wf2q) pause_history short refl
  | Msf2q ↦ legal_is 4 2 (pause_config Msf2q) pause_history short refl
  | TwoDfq ↦ legal_is 4 2 (pause_config TwoDfq) pause_history short refl
  | TwoDfqPlus ↦ legal_is 4 2 (pause_config TwoDfqPlus) pause_history short refl
]

pub returns-clause-time : goal.returns-clause-time
unfolding computing pause_config pause_history
returns-clause-time c = elim [
  | Wfq ↦ λ ne. virtual_time_is 4 2 (pause_config Wfq) pause_history 2010 short
  | Wf2q ↦ λ ne. virtual_time_is 4 2 (pause_config Wf2q) pause_history 2010 short
  | Msf2q ↦ λ ne. virtual_time_is 4 2 (pause_config Msf2q) pause_history 2010 short
  | TwoDfq ↦ λ ne. virtual_time_is 4 2 (pause_config TwoDfq) pause_history 2010 short
  | TwoDfqPlus ↦ λ ne. absurd (ne refl)
]

pub returns-clause-time_2dfq_plus : goal.returns-clause-time_2dfq_plus
unfolding computing pause_config pause_history
returns-clause-time_2dfq_plus c = virtual_time_is 4 2 (pause_config TwoDfqPlus) pause_history 2010 short

pub returns-clause-start_wfq : goal.returns-clause-start_wfq
unfolding computing pause_config pause_history
returns-clause-start_wfq c = start_is 4 2 (pause_config Wfq) pause_history 2010 0 short

pub returns-clause-start_wf2q : goal.returns-clause-start_wf2q
unfolding computing pause_config pause_history
returns-clause-start_wf2q c = start_is 4 2 (pause_config Wf2q) pause_history 2010 0 short

pub returns-clause-start_msf2q : goal.returns-clause-start_msf2q
unfolding computing pause_config pause_history
returns-clause-start_msf2q c = start_is 4 2 (pause_config Msf2q) pause_history 2010 0 short

pub returns-clause-start_2dfq : goal.returns-clause-start_2dfq
unfolding computing pause_config pause_history
returns-clause-start_2dfq c = start_is 4 2 (pause_config TwoDfq) pause_history 2010 0 short

pub returns-clause-start_2dfq_plus : goal.returns-clause-start_2dfq_plus
unfolding computing pause_config pause_history
returns-clause-start_2dfq_plus c = start_is 4 2 (pause_config TwoDfqPlus) pause_history 2010 0 short

pub returns-clause-other_keys : goal.returns-clause-other_keys
unfolding computing pause_config pause_history
returns-clause-other_keys c = elim [
  | Wfq ↦ keys_are 4 2 (pause_config Wfq) pause_history 2010 1 short
  | Wf2q ↦ keys_are 4 2 (pause_config Wf2q) pause_history 2010 1 short
  | Msf2q ↦ keys_are 4 2 (pause_config Msf2q) pause_history 2010 1 short
  | TwoDfq ↦ keys_are 4 2 (pause_config TwoDfq) pause_history 2010 1 short
  | TwoDfqPlus ↦ keys_are 4 2 (pause_config TwoDfqPlus) pause_history 2010 1 short
]

pub returns-clause-other_finish : goal.returns-clause-other_finish
returns-clause-other_finish c = refl

pub returns-clause-choice_wfq : goal.returns-clause-choice_wfq
unfolding computing pause_config pause_history
returns-clause-choice_wfq c = choice_is 4 2 (pause_config Wfq) pause_history 2010 0 _ _ short refl refl

pub returns-clause-choice_wf2q : goal.returns-clause-choice_wf2q
unfolding computing pause_config pause_history
returns-clause-choice_wf2q c = choice_is 4 2 (pause_config Wf2q) pause_history 2010 0 _ _ short refl refl

pub returns-clause-choice_msf2q : goal.returns-clause-choice_msf2q
unfolding computing pause_config pause_history
returns-clause-choice_msf2q c = choice_is 4 2 (pause_config Msf2q) pause_history 2010 0 _ _ short refl refl

pub returns-clause-choice_2dfq : goal.returns-clause-choice_2dfq
unfolding computing pause_config pause_history
returns-clause-choice_2dfq c = choice_is 4 2 (pause_config TwoDfq) pause_history 2010 0 _ _ short refl refl

pub returns-clause-choice_2dfq_plus : goal.returns-clause-choice_2dfq_plus
unfolding computing pause_config pause_history
returns-clause-choice_2dfq_plus c = choice_is 4 2 (pause_config TwoDfqPlus) pause_history 2010 0 _ _ short refl refl
