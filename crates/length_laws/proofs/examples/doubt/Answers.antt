use Rattle.std.proofs.Common.{◌≡◌, refl, subst, arith}
use Rattle.vt_fixed.specs.Rounding.{length_of}
use Rattle.fq_model.specs.Limits.{InLimits}
use Rattle.fq_model.specs.Rules.{IsLegal}
use Rattle.worked_histories.specs.Examples.{units}
use Rattle.worked_histories.proofs.Computed.Histories.{IsShort, computing}
use Rattle.worked_histories.proofs.Computed.Legal.{legal_is, limits_are}
use Rattle.worked_histories.specs.Gaps.{doubt_config, doubt_history}
use Rattle.gap_laws.specs.Words.{AreNoLonger}
use Rattle.length_laws.specs.Laws.{KeepLimits}
use Rattle.length_laws.proofs.Foretold.{lengths_foretold}
use Rattle.length_laws.proofs.Within.{limits_within}
use Rattle.length_laws.proofs.examples.doubt.Goals as goal

short : IsShort 6 2 doubt_history
unfolding doubt_history
short = record { bound = omega arith; acts = refl }

in_limits : InLimits doubt_config
unfolding doubt_config
in_limits = limits_are doubt_config refl

legal : IsLegal doubt_config doubt_history
unfolding computing doubt_config doubt_history
legal = legal_is 6 2 doubt_config doubt_history short refl

kept : KeepLimits doubt_config doubt_history 0 1 4 1
unfolding doubt_config doubt_history
kept = limits_within doubt_config doubt_history 0 1 4 in_limits legal (omega arith) (omega arith) (omega arith) (omega arith) refl

length_is : length_of 4 1 ≡ units 4
unfolding length_of
length_is = refl

pub returns-clause-limits : goal.returns-clause-limits
returns-clause-limits c = kept

pub returns-clause-lengths : goal.returns-clause-lengths
returns-clause-lengths c = subst (AreNoLonger doubt_config doubt_history 0 1) length_is (lengths_foretold doubt_config doubt_history 0 1 4 1 legal kept)
