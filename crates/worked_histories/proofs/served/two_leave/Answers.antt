use Rattle.std.proofs.Common.{refl, arith}
use Rattle.fq_model.specs.declared.config.Policy.TheVariants.{TwoDfq, TwoDfqPlus}
use Rattle.worked_histories.specs.Served.{weighted_config, two_left, one_passed, both_passed}
use Rattle.worked_histories.proofs.Computed.Histories.{IsShort, virtual_time_is, computing}
use Rattle.worked_histories.proofs.Computed.Legal.{legal_is, limits_are}
use Rattle.worked_histories.proofs.Computed.Paces.{pace_shown, weight_shown}
use Rattle.worked_histories.proofs.served.two_leave.Goals as goal

left_short : IsShort 3 3 two_left
unfolding two_left
left_short = record { bound = omega arith; acts = refl }

one_short : IsShort 4 3 one_passed
unfolding two_left one_passed
one_short = record { bound = omega arith; acts = refl }

both_short : IsShort 5 3 both_passed
unfolding two_left one_passed both_passed
both_short = record { bound = omega arith; acts = refl }

pub returns-clause-in_limits : goal.returns-clause-in_limits
unfolding weighted_config
returns-clause-in_limits c = λ p. limits_are (weighted_config p) refl

pub returns-clause-legal : goal.returns-clause-legal
unfolding computing weighted_config two_left one_passed both_passed
returns-clause-legal c = record {
  under_2dfq_plus = legal_is 5 3 (weighted_config TwoDfqPlus) both_passed both_short refl;
  under_2dfq = legal_is 5 3 (weighted_config TwoDfq) both_passed both_short refl;
}

pub returns-clause-left : goal.returns-clause-left
unfolding computing weighted_config two_left
returns-clause-left c = pace_shown 3 3 (weighted_config TwoDfqPlus) two_left _ _ left_short refl refl

pub returns-clause-count : goal.returns-clause-count
unfolding computing weighted_config two_left
returns-clause-count c = weight_shown 3 3 (weighted_config TwoDfqPlus) two_left _ left_short refl

pub returns-clause-one_passed : goal.returns-clause-one_passed
unfolding computing weighted_config two_left one_passed
returns-clause-one_passed c = pace_shown 4 3 (weighted_config TwoDfqPlus) one_passed _ _ one_short refl refl

pub returns-clause-one_counts : goal.returns-clause-one_counts
unfolding computing weighted_config two_left one_passed
returns-clause-one_counts c = weight_shown 4 3 (weighted_config TwoDfqPlus) one_passed _ one_short refl

pub returns-clause-both_passed : goal.returns-clause-both_passed
unfolding computing weighted_config two_left one_passed both_passed
returns-clause-both_passed c = pace_shown 5 3 (weighted_config TwoDfqPlus) both_passed _ _ both_short refl refl

pub returns-clause-none_counts : goal.returns-clause-none_counts
unfolding computing weighted_config two_left one_passed both_passed
returns-clause-none_counts c = weight_shown 5 3 (weighted_config TwoDfqPlus) both_passed _ both_short refl

pub returns-clause-time : goal.returns-clause-time
unfolding computing weighted_config two_left one_passed both_passed
returns-clause-time c = virtual_time_is 5 3 (weighted_config TwoDfqPlus) both_passed 30 both_short

pub returns-clause-time_2dfq : goal.returns-clause-time_2dfq
unfolding computing weighted_config two_left one_passed both_passed
returns-clause-time_2dfq c = virtual_time_is 5 3 (weighted_config TwoDfq) both_passed 30 both_short
