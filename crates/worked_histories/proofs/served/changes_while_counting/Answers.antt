use Rattle.std.proofs.Common.{refl, arith}
use Rattle.fq_model.specs.declared.config.Policy.TheVariants.{TwoDfqPlus}
use Rattle.worked_histories.specs.Served.{changing_config, heavier, more_workers, heavier_passed}
use Rattle.worked_histories.proofs.Computed.Histories.{IsShort, virtual_time_is, tag_is, computing}
use Rattle.worked_histories.proofs.Computed.Legal.{legal_is}
use Rattle.worked_histories.proofs.Computed.Paces.{pace_shown, weight_shown}
use Rattle.worked_histories.proofs.served.changes_while_counting.Goals as goal

heavier_short : IsShort 2 2 heavier
unfolding heavier
heavier_short = record { bound = omega arith; acts = refl }

more_short : IsShort 2 2 more_workers
unfolding heavier more_workers
more_short = record { bound = omega arith; acts = refl }

short : IsShort 3 2 heavier_passed
unfolding heavier more_workers heavier_passed
short = record { bound = omega arith; acts = refl }

pub returns-clause-legal : goal.returns-clause-legal
unfolding computing changing_config heavier more_workers heavier_passed
returns-clause-legal c = legal_is 3 2 (changing_config TwoDfqPlus) heavier_passed short refl

pub returns-clause-heavier : goal.returns-clause-heavier
unfolding computing changing_config heavier
returns-clause-heavier c = pace_shown 2 2 (changing_config TwoDfqPlus) heavier _ _ heavier_short refl refl

pub returns-clause-start_stays : goal.returns-clause-start_stays
unfolding computing changing_config heavier
returns-clause-start_stays c = tag_is 2 2 (changing_config TwoDfqPlus) heavier 0 heavier_short

pub returns-clause-more_workers : goal.returns-clause-more_workers
unfolding computing changing_config heavier more_workers
returns-clause-more_workers c = pace_shown 2 2 (changing_config TwoDfqPlus) more_workers _ _ more_short refl refl

pub returns-clause-counts : goal.returns-clause-counts
unfolding computing changing_config heavier more_workers
returns-clause-counts c = weight_shown 2 2 (changing_config TwoDfqPlus) more_workers _ more_short refl

pub returns-clause-passed : goal.returns-clause-passed
unfolding computing changing_config heavier more_workers heavier_passed
returns-clause-passed c = pace_shown 3 2 (changing_config TwoDfqPlus) heavier_passed _ _ short refl refl

pub returns-clause-counts_no_more : goal.returns-clause-counts_no_more
unfolding computing changing_config heavier more_workers heavier_passed
returns-clause-counts_no_more c = weight_shown 3 2 (changing_config TwoDfqPlus) heavier_passed _ short refl

pub returns-clause-time : goal.returns-clause-time
unfolding computing changing_config heavier more_workers heavier_passed
returns-clause-time c = virtual_time_is 3 2 (changing_config TwoDfqPlus) heavier_passed 24 short
