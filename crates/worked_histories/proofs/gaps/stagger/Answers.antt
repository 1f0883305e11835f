use Rattle.std.proofs.Common.{refl, arith}
use Rattle.worked_histories.specs.Gaps.{stagger_config, stagger_history}
use Rattle.worked_histories.proofs.Computed.Histories.{IsShort, computing}
use Rattle.worked_histories.proofs.ComputedGaps.{premises_are, gap_is, computing_gap}
use Rattle.worked_histories.proofs.gaps.stagger.Goals as goal

short : IsShort 5 2 stagger_history
unfolding stagger_history
short = record { bound = omega arith; acts = refl }

pub returns-clause-premises : goal.returns-clause-premises
unfolding computing computing_gap stagger_config stagger_history
returns-clause-premises c = premises_are 5 2 stagger_config stagger_history short refl refl refl

pub returns-clause-longest : goal.returns-clause-longest
unfolding computing computing_gap stagger_config stagger_history
returns-clause-longest c = refl

pub returns-clause-gap : goal.returns-clause-gap
unfolding computing computing_gap stagger_config stagger_history
returns-clause-gap c = gap_is 5 2 stagger_config stagger_history 0 1 short
