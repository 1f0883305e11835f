use Rattle.std.proofs.Common.{refl, arith}
use Rattle.fq_model.specs.declared.config.Policy.TheVariants.{TwoDfqPlus}
use Rattle.worked_histories.specs.Served.{served_config, before_lift, after_lift}
use Rattle.worked_histories.proofs.Computed.Histories.{IsShort, virtual_time_is, computing}
use Rattle.worked_histories.proofs.Computed.Choice.{choice_is}
use Rattle.worked_histories.proofs.Computed.Legal.{legal_is}
use Rattle.worked_histories.proofs.Computed.Paces.{pace_shown, weight_shown}
use Rattle.worked_histories.proofs.served.lift_passes_start.Goals as goal

before_short : IsShort 3 2 before_lift
unfolding before_lift
before_short = record { bound = omega arith; acts = refl }

short : IsShort 3 2 after_lift
unfolding before_lift after_lift
short = record { bound = omega arith; acts = refl }

pub returns-clause-legal : goal.returns-clause-legal
unfolding computing served_config before_lift after_lift
returns-clause-legal c = legal_is 3 2 (served_config TwoDfqPlus) after_lift short refl

pub returns-clause-before : goal.returns-clause-before
unfolding computing served_config before_lift
returns-clause-before c = pace_shown 3 2 (served_config TwoDfqPlus) before_lift _ _ before_short refl refl

pub returns-clause-counts : goal.returns-clause-counts
unfolding computing served_config before_lift
returns-clause-counts c = weight_shown 3 2 (served_config TwoDfqPlus) before_lift _ before_short refl

pub returns-clause-time_before : goal.returns-clause-time_before
unfolding computing served_config before_lift
returns-clause-time_before c = virtual_time_is 3 2 (served_config TwoDfqPlus) before_lift 8 before_short

pub returns-clause-choice : goal.returns-clause-choice
unfolding computing served_config before_lift
returns-clause-choice c = choice_is 3 2 (served_config TwoDfqPlus) before_lift 4 0 1 _ before_short refl refl

pub returns-clause-lifted : goal.returns-clause-lifted
unfolding computing served_config before_lift after_lift
returns-clause-lifted c = pace_shown 3 2 (served_config TwoDfqPlus) after_lift _ _ short refl refl

pub returns-clause-counts_no_more : goal.returns-clause-counts_no_more
unfolding computing served_config before_lift after_lift
returns-clause-counts_no_more c = weight_shown 3 2 (served_config TwoDfqPlus) after_lift _ short refl

pub returns-clause-time : goal.returns-clause-time
unfolding computing served_config before_lift after_lift
returns-clause-time c = virtual_time_is 3 2 (served_config TwoDfqPlus) after_lift 8 short
