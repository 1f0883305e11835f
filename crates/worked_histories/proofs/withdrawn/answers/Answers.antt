use Rattle.std.proofs.Common.{refl, arith}
use Rattle.fq_model.specs.declared.config.Policy.TheVariants.{TwoDfq}
use Rattle.worked_histories.specs.Withdrawn.{withdraw_config, both_wait, only_withdrawn, worker_free}
use Rattle.worked_histories.proofs.Computed.Histories.{IsShort, computing}
use Rattle.worked_histories.proofs.Computed.Legal.{other_take_unfit}
use Rattle.worked_histories.proofs.withdrawn.answers.Goals as goal

short : IsShort 3 2 worker_free
unfolding both_wait only_withdrawn worker_free
short = record { bound = omega arith; acts = refl }

pub returns-clause-withdrawn : goal.returns-clause-withdrawn
unfolding computing withdraw_config both_wait only_withdrawn
returns-clause-withdrawn c = (refl, refl)

pub returns-clause-not_again : goal.returns-clause-not_again
unfolding computing withdraw_config both_wait only_withdrawn
returns-clause-not_again c = (refl, refl)

pub returns-clause-running : goal.returns-clause-running
unfolding computing withdraw_config both_wait
returns-clause-running c = (refl, refl)

pub returns-clause-unknown : goal.returns-clause-unknown
unfolding computing withdraw_config both_wait
returns-clause-unknown c = (refl, refl)

pub returns-clause-not_taken : goal.returns-clause-not_taken
unfolding computing withdraw_config both_wait only_withdrawn worker_free
returns-clause-not_taken c = λ l. other_take_unfit 3 2 (withdraw_config TwoDfq) worker_free 10 0 _ _ 0 _ short refl refl refl l.3
