use Rattle.std.proofs.Common.{refl, arith}
use Rattle.fq_model.specs.declared.config.Policy.TheVariants.{Wfq, Wf2q, Msf2q, TwoDfq, TwoDfqPlus}
use Rattle.worked_histories.specs.Withdrawn.{withdraw_config, both_wait, only_withdrawn, last_withdrawn}
use Rattle.worked_histories.proofs.Computed.Histories.{IsShort, is_active_is, virtual_time_is, computing}
use Rattle.worked_histories.proofs.Computed.Legal.{legal_is}
use Rattle.worked_histories.proofs.Computed.Paces.{pace_shown, weight_shown}
use Rattle.worked_histories.proofs.withdrawn.last_request.Goals as goal

short : IsShort 3 2 last_withdrawn
unfolding both_wait last_withdrawn
short = record { bound = omega arith; acts = refl }

only_short : IsShort 3 2 only_withdrawn
unfolding both_wait only_withdrawn
only_short = record { bound = omega arith; acts = refl }

pub returns-clause-legal : goal.returns-clause-legal
unfolding computing withdraw_config both_wait last_withdrawn
returns-clause-legal c = legal_is 3 2 (withdraw_config TwoDfqPlus) last_withdrawn short refl

pub returns-clause-not_active : goal.returns-clause-not_active
unfolding computing withdraw_config both_wait last_withdrawn
returns-clause-not_active c = is_active_is 3 2 last_withdrawn 0 short

pub returns-clause-stays : goal.returns-clause-stays
unfolding computing withdraw_config both_wait last_withdrawn
returns-clause-stays c = pace_shown 3 2 (withdraw_config TwoDfqPlus) last_withdrawn _ _ short refl refl

pub returns-clause-counts : goal.returns-clause-counts
unfolding computing withdraw_config both_wait last_withdrawn
returns-clause-counts c = weight_shown 3 2 (withdraw_config TwoDfqPlus) last_withdrawn _ short refl

pub returns-clause-counts_no_more : goal.returns-clause-counts_no_more
unfolding computing withdraw_config both_wait only_withdrawn
returns-clause-counts_no_more c = weight_shown 3 2 (withdraw_config TwoDfqPlus) only_withdrawn _ only_short refl

pub returns-clause-time : goal.returns-clause-time
unfolding computing withdraw_config both_wait last_withdrawn
returns-clause-time c = elim [
  | Wfq ↦ virtual_time_is 3 2 (withdraw_config Wfq) last_withdrawn 18 short
  | Wf2q ↦ virtual_time_is 3 2 (withdraw_config Wf2q) last_withdrawn 18 short
  | Msf2q ↦ virtual_time_is 3 2 (withdraw_config Msf2q) last_withdrawn 18 short
  | TwoDfq ↦ virtual_time_is 3 2 (withdraw_config TwoDfq) last_withdrawn 18 short
  | TwoDfqPlus ↦ virtual_time_is 3 2 (withdraw_config TwoDfqPlus) last_withdrawn 18 short
]
