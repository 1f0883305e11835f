use Rattle.std.proofs.Common.{refl, arith}
use Rattle.worked_histories.specs.Gaps.{weights_config, weights_history}
use Rattle.worked_histories.proofs.Computed.Histories.{IsShort, computing}
use Rattle.worked_histories.proofs.ComputedGaps.{premises_are, gap_is, computing_gap}
use Rattle.worked_histories.proofs.gaps.weights.Goals as goal

short : IsShort 4 2 weights_history
unfolding weights_history
short = record { bound = omega arith; acts = refl }

pub returns-clause-premises : goal.returns-clause-premises
unfolding computing computing_gap weights_config weights_history
returns-clause-premises c = premises_are 4 2 weights_config weights_history short refl refl refl

pub returns-clause-longest : goal.returns-clause-longest
unfolding computing computing_gap weights_config weights_history
returns-clause-longest c = refl

pub returns-clause-gap : goal.returns-clause-gap
unfolding computing computing_gap weights_config weights_history
returns-clause-gap c = gap_is 4 2 weights_config weights_history 0 1 short
