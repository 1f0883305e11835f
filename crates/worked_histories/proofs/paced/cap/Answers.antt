use Rattle.std.proofs.Common.{refl, arith}
use Rattle.fq_model.specs.declared.config.Policy.TheVariants.{TwoDfq, TwoDfqPlus}
use Rattle.worked_histories.specs.Paced.{cap_config, cap_history}
use Rattle.worked_histories.proofs.Computed.Histories.{IsShort, virtual_time_is, keys_are, computing}
use Rattle.worked_histories.proofs.Computed.Choice.{choice_is}
use Rattle.worked_histories.proofs.Computed.Legal.{legal_is, limits_are}
use Rattle.worked_histories.proofs.Computed.Paces.{pace_shown}
use Rattle.worked_histories.proofs.paced.cap.Goals as goal

short : IsShort 3 2 cap_history
unfolding cap_history
short = record { bound = omega arith; acts = refl }

pub returns-clause-in_limits : goal.returns-clause-in_limits
unfolding cap_config
returns-clause-in_limits c = λ p. limits_are (cap_config p) refl

pub returns-clause-legal : goal.returns-clause-legal
unfolding computing cap_config cap_history
returns-clause-legal c = record {
  under_2dfq_plus = legal_is 3 2 (cap_config TwoDfqPlus) cap_history short refl;
  under_2dfq = legal_is 3 2 (cap_config TwoDfq) cap_history short refl;
}

pub returns-clause-capped : goal.returns-clause-capped
unfolding computing cap_config cap_history
returns-clause-capped c = pace_shown 3 2 (cap_config TwoDfqPlus) cap_history _ _ short refl refl

pub returns-clause-other_keys : goal.returns-clause-other_keys
unfolding computing cap_config cap_history
returns-clause-other_keys c = keys_are 3 2 (cap_config TwoDfqPlus) cap_history 10 0 short

pub returns-clause-choice : goal.returns-clause-choice
unfolding computing cap_config cap_history
returns-clause-choice c = choice_is 3 2 (cap_config TwoDfqPlus) cap_history 10 0 _ _ short refl refl

pub returns-clause-time_2dfq : goal.returns-clause-time_2dfq
unfolding computing cap_config cap_history
returns-clause-time_2dfq c = virtual_time_is 3 2 (cap_config TwoDfq) cap_history 10 short

pub returns-clause-choice_2dfq : goal.returns-clause-choice_2dfq
unfolding computing cap_config cap_history
returns-clause-choice_2dfq c = choice_is 3 2 (cap_config TwoDfq) cap_history 10 0 _ _ short refl refl
