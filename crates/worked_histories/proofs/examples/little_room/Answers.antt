use Rattle.std.proofs.Common.{refl, arith}
use Rattle.worked_histories.specs.Examples.{small_config, small_history, small_ended, small_reported, small_crowded}
use Rattle.worked_histories.proofs.Computed.Histories.{IsShort, waiting_is, running_is, computing}
use Rattle.worked_histories.proofs.Computed.Legal.{legal_is, limits_are}
use Rattle.worked_histories.proofs.examples.little_room.Goals as goal

short : IsShort 1 1 small_ended
unfolding small_ended
short = record { bound = omega arith; acts = refl }

short_begun : IsShort 1 1 small_history
unfolding small_history
short_begun = record { bound = omega arith; acts = refl }

pub returns-clause-in_limits : goal.returns-clause-in_limits
unfolding small_config
returns-clause-in_limits c = limits_are small_config refl

pub returns-clause-ended : goal.returns-clause-ended
unfolding computing small_config small_ended
returns-clause-ended c = legal_is 1 1 small_config small_ended short refl

pub returns-clause-no_report : goal.returns-clause-no_report
unfolding computing small_config small_history small_reported
returns-clause-no_report c = λ l. omega (arith, l.3.1, waiting_is 1 1 small_history short_begun, running_is 1 1 small_history short_begun)

pub returns-clause-no_second_request : goal.returns-clause-no_second_request
unfolding computing small_config small_history small_crowded
returns-clause-no_second_request c = λ l. omega (arith, l.3.room, waiting_is 1 1 small_history short_begun, running_is 1 1 small_history short_begun)

pub returns-clause-first_fault : goal.returns-clause-first_fault
unfolding computing small_config small_history
returns-clause-first_fault c = refl

pub returns-clause-other_fault : goal.returns-clause-other_fault
unfolding computing small_config small_history
returns-clause-other_fault c = refl
