use Rattle.std.proofs.Common.{refl, arith}
use Rattle.fq_model.specs.declared.config.Policy.TheVariants.{TwoDfqPlus}
use Rattle.worked_histories.specs.Served.{served_config, ended_at_cost}
use Rattle.worked_histories.proofs.Computed.Histories.{IsShort, virtual_time_is, computing}
use Rattle.worked_histories.proofs.Computed.Legal.{legal_is}
use Rattle.worked_histories.proofs.Computed.Paces.{pace_shown}
use Rattle.worked_histories.proofs.served.refund_below_time.Goals as goal

short_3 : IsShort 2 2 (ended_at_cost 3)
unfolding ended_at_cost
short_3 = record { bound = omega arith; acts = refl }

short_4 : IsShort 2 2 (ended_at_cost 4)
unfolding ended_at_cost
short_4 = record { bound = omega arith; acts = refl }

short_5 : IsShort 2 2 (ended_at_cost 5)
unfolding ended_at_cost
short_5 = record { bound = omega arith; acts = refl }

short_10 : IsShort 2 2 (ended_at_cost 10)
unfolding ended_at_cost
short_10 = record { bound = omega arith; acts = refl }

pub returns-clause-legal : goal.returns-clause-legal
unfolding computing served_config ended_at_cost
returns-clause-legal c = legal_is 2 2 (served_config TwoDfqPlus) (ended_at_cost 3) short_3 refl

pub returns-clause-below : goal.returns-clause-below
unfolding computing served_config ended_at_cost
returns-clause-below c = pace_shown 2 2 (served_config TwoDfqPlus) (ended_at_cost 3) _ _ short_3 refl refl

pub returns-clause-time_below : goal.returns-clause-time_below
unfolding computing served_config ended_at_cost
returns-clause-time_below c = virtual_time_is 2 2 (served_config TwoDfqPlus) (ended_at_cost 3) 10 short_3

pub returns-clause-time_at : goal.returns-clause-time_at
unfolding computing served_config ended_at_cost
returns-clause-time_at c = virtual_time_is 2 2 (served_config TwoDfqPlus) (ended_at_cost 4) 10 short_4

pub returns-clause-time_above : goal.returns-clause-time_above
unfolding computing served_config ended_at_cost
returns-clause-time_above c = virtual_time_is 2 2 (served_config TwoDfqPlus) (ended_at_cost 5) 10 short_5

pub returns-clause-time_whole : goal.returns-clause-time_whole
unfolding computing served_config ended_at_cost
returns-clause-time_whole c = virtual_time_is 2 2 (served_config TwoDfqPlus) (ended_at_cost 10) 10 short_10
