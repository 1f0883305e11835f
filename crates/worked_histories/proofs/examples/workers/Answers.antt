use Rattle.std.proofs.Common.{refl, arith, ◌∷◌}
use Rattle.fq_model.specs.declared.event.Act.TheVariants.{Take}
use Rattle.worked_histories.specs.Examples.{entry, workers_config, workers_history}
use Rattle.worked_histories.proofs.Computed.Histories.{IsShort, virtual_time_is, waiting_is, running_is, computing}
use Rattle.worked_histories.proofs.Computed.Legal.{legal_is, limits_are}
use Rattle.worked_histories.proofs.examples.workers.Goals as goal

short : IsShort 2 2 workers_history
unfolding workers_history
short = record { bound = omega arith; acts = refl }

short_taken : IsShort 2 2 (entry 10 4 (Take 0 1 4) ∷ workers_history)
unfolding workers_history
short_taken = record { bound = omega arith; acts = refl }

pub returns-clause-in_limits : goal.returns-clause-in_limits
unfolding workers_config
returns-clause-in_limits c = limits_are workers_config refl

pub returns-clause-legal : goal.returns-clause-legal
unfolding computing workers_config workers_history
returns-clause-legal c = legal_is 2 2 workers_config workers_history short refl

pub returns-clause-time : goal.returns-clause-time
unfolding computing workers_config workers_history
returns-clause-time c = virtual_time_is 2 2 workers_config workers_history 4 short

pub returns-clause-retired : goal.returns-clause-retired
unfolding computing workers_config workers_history
returns-clause-retired c = (refl, refl)

pub returns-clause-taken : goal.returns-clause-taken
unfolding computing workers_config workers_history
returns-clause-taken c = legal_is 2 2 workers_config _ short_taken refl

pub returns-clause-not_taken : goal.returns-clause-not_taken
unfolding computing workers_config workers_history
returns-clause-not_taken c = λ l. omega (arith, l.3.worker_known)

pub returns-clause-too_many : goal.returns-clause-too_many
unfolding computing workers_config workers_history
returns-clause-too_many c = refl

pub returns-clause-again : goal.returns-clause-again
unfolding computing workers_config workers_history
returns-clause-again c = rw (waiting_is 2 2 workers_history short, running_is 2 2 workers_history short) refl
