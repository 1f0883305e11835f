use Rattle.std.proofs.Common.{refl, arith}
use Rattle.fq_model.specs.declared.config.Policy.TheVariants.{TwoDfq}
use Rattle.worked_histories.specs.Withdrawn.{withdraw_config, closed_waits, closed_ended, closed_withdrawn}
use Rattle.worked_histories.proofs.Computed.Histories.{IsShort, waiting_is, computing}
use Rattle.worked_histories.proofs.Computed.Legal.{legal_is}
use Rattle.worked_histories.proofs.withdrawn.after_close.Goals as goal

short_ended : IsShort 2 2 closed_ended
unfolding closed_waits closed_ended
short_ended = record { bound = omega arith; acts = refl }

short : IsShort 2 2 closed_withdrawn
unfolding closed_waits closed_ended closed_withdrawn
short = record { bound = omega arith; acts = refl }

pub returns-clause-legal : goal.returns-clause-legal
unfolding computing withdraw_config closed_waits closed_ended closed_withdrawn
returns-clause-legal c = legal_is 2 2 (withdraw_config TwoDfq) closed_withdrawn short refl

pub returns-clause-one_waits : goal.returns-clause-one_waits
unfolding computing withdraw_config closed_waits closed_ended
returns-clause-one_waits c = waiting_is 2 2 closed_ended short_ended

pub returns-clause-withdrawn : goal.returns-clause-withdrawn
unfolding computing withdraw_config closed_waits closed_ended closed_withdrawn
returns-clause-withdrawn c = (refl, refl)

pub returns-clause-none_waits : goal.returns-clause-none_waits
unfolding computing withdraw_config closed_waits closed_ended closed_withdrawn
returns-clause-none_waits c = waiting_is 2 2 closed_withdrawn short

pub returns-clause-drained : goal.returns-clause-drained
unfolding computing withdraw_config closed_waits closed_ended closed_withdrawn
returns-clause-drained c = rw (waiting_is 2 2 closed_withdrawn short) (refl, refl)
