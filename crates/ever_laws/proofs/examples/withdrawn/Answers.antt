use Rattle.std.proofs.Common.{ℕ, ◌≡◌, refl, arith, ap}
use Rattle.vt_fixed.specs.Rounding.{part_of}
use Rattle.fq_model.specs.Ever.{longest_of_all, ever_bound, under_plus, measured_ever_bound}
use Rattle.worked_histories.specs.Examples.{units}
use Rattle.worked_histories.proofs.Computed.Histories.{IsShort, computing}
use Rattle.worked_histories.proofs.Computed.Legal.{legal_is}
use Rattle.ever_laws.specs.Examples.{single_config, withdrawn_history, waited_history}
use Rattle.ever_laws.proofs.Computed.{longest_is, computing_longest}
use Rattle.ever_laws.proofs.examples.withdrawn.Goals as goal

short : IsShort 3 2 withdrawn_history
unfolding withdrawn_history
short = record { bound = omega arith; acts = refl }

short_waited : IsShort 3 2 waited_history
unfolding waited_history
short_waited = record { bound = omega arith; acts = refl }

pub returns-clause-legal : goal.returns-clause-legal
unfolding computing single_config withdrawn_history
returns-clause-legal c = legal_is 3 2 single_config withdrawn_history short refl

longest : longest_of_all single_config withdrawn_history ≡ units 1
unfolding computing_longest single_config withdrawn_history
longest = longest_is 3 2 single_config withdrawn_history short

pub returns-clause-longest : goal.returns-clause-longest
returns-clause-longest c = longest

pub returns-clause-bound : goal.returns-clause-bound
unfolding measured_ever_bound part_of single_config
returns-clause-bound c = ap (λ (M : ℕ). under_plus single_config.policy (ever_bound single_config M)) longest

pub returns-clause-legal_waited : goal.returns-clause-legal_waited
unfolding computing single_config waited_history
returns-clause-legal_waited c = legal_is 3 2 single_config waited_history short_waited refl

longest_waited : longest_of_all single_config waited_history ≡ units 9
unfolding computing_longest single_config waited_history
longest_waited = longest_is 3 2 single_config waited_history short_waited

pub returns-clause-longest_waited : goal.returns-clause-longest_waited
returns-clause-longest_waited c = longest_waited

pub returns-clause-bound_waited : goal.returns-clause-bound_waited
unfolding measured_ever_bound part_of single_config
returns-clause-bound_waited c = ap (λ (M : ℕ). under_plus single_config.policy (ever_bound single_config M)) longest_waited
