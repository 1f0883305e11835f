use Rattle.std.proofs.Common.{refl, arith}
use Rattle.fq_model.specs.declared.config.Policy.TheVariants.{TwoDfq, TwoDfqPlus}
use Rattle.worked_histories.specs.Served.{served_config, left_above, back_at, come_to, back_later}
use Rattle.worked_histories.proofs.Computed.Histories.{IsShort, virtual_time_is, tag_is, computing}
use Rattle.worked_histories.proofs.Computed.Legal.{legal_is, limits_are}
use Rattle.worked_histories.proofs.Computed.Paces.{pace_shown, weight_shown}
use Rattle.worked_histories.proofs.served.comes_back.Goals as goal

left_short : IsShort 2 2 left_above
unfolding left_above
left_short = record { bound = omega arith; acts = refl }

back_short_6 : IsShort 3 2 (back_at 6)
unfolding left_above back_at
back_short_6 = record { bound = omega arith; acts = refl }

back_short_8 : IsShort 3 2 (back_at 8)
unfolding left_above back_at
back_short_8 = record { bound = omega arith; acts = refl }

back_short_10 : IsShort 3 2 (back_at 10)
unfolding left_above back_at
back_short_10 = record { bound = omega arith; acts = refl }

come_short : IsShort 3 2 come_to
unfolding left_above come_to
come_short = record { bound = omega arith; acts = refl }

later_short : IsShort 4 2 back_later
unfolding left_above come_to back_later
later_short = record { bound = omega arith; acts = refl }

pub returns-clause-in_limits : goal.returns-clause-in_limits
unfolding served_config
returns-clause-in_limits c = λ p. limits_are (served_config p) refl

pub returns-clause-legal : goal.returns-clause-legal
unfolding computing served_config left_above
returns-clause-legal c = record {
  under_2dfq_plus = legal_is 2 2 (served_config TwoDfqPlus) left_above left_short refl;
  under_2dfq = legal_is 2 2 (served_config TwoDfq) left_above left_short refl;
}

pub returns-clause-left : goal.returns-clause-left
unfolding computing served_config left_above
returns-clause-left c = pace_shown 2 2 (served_config TwoDfqPlus) left_above _ _ left_short refl refl

pub returns-clause-counts : goal.returns-clause-counts
unfolding computing served_config left_above
returns-clause-counts c = weight_shown 2 2 (served_config TwoDfqPlus) left_above _ left_short refl

pub returns-clause-back_before : goal.returns-clause-back_before
unfolding computing served_config left_above back_at
returns-clause-back_before c = pace_shown 3 2 (served_config TwoDfqPlus) (back_at 6) _ _ back_short_6 refl refl

pub returns-clause-tag_before : goal.returns-clause-tag_before
unfolding computing served_config left_above back_at
returns-clause-tag_before c = tag_is 3 2 (served_config TwoDfqPlus) (back_at 6) 0 back_short_6

pub returns-clause-back_then : goal.returns-clause-back_then
unfolding computing served_config left_above back_at
returns-clause-back_then c = pace_shown 3 2 (served_config TwoDfqPlus) (back_at 8) _ _ back_short_8 refl refl

pub returns-clause-tag_then : goal.returns-clause-tag_then
unfolding computing served_config left_above back_at
returns-clause-tag_then c = tag_is 3 2 (served_config TwoDfqPlus) (back_at 8) 0 back_short_8

pub returns-clause-back_after : goal.returns-clause-back_after
unfolding computing served_config left_above back_at
returns-clause-back_after c = pace_shown 3 2 (served_config TwoDfqPlus) (back_at 10) _ _ back_short_10 refl refl

pub returns-clause-tag_after : goal.returns-clause-tag_after
unfolding computing served_config left_above back_at
returns-clause-tag_after c = tag_is 3 2 (served_config TwoDfqPlus) (back_at 10) 0 back_short_10

pub returns-clause-come_to : goal.returns-clause-come_to
unfolding computing served_config left_above come_to
returns-clause-come_to c = pace_shown 3 2 (served_config TwoDfqPlus) come_to _ _ come_short refl refl

pub returns-clause-counts_no_more : goal.returns-clause-counts_no_more
unfolding computing served_config left_above come_to
returns-clause-counts_no_more c = weight_shown 3 2 (served_config TwoDfqPlus) come_to _ come_short refl

pub returns-clause-legal_later : goal.returns-clause-legal_later
unfolding computing served_config left_above come_to back_later
returns-clause-legal_later c = record {
  under_2dfq_plus = legal_is 4 2 (served_config TwoDfqPlus) back_later later_short refl;
  under_2dfq = legal_is 4 2 (served_config TwoDfq) back_later later_short refl;
}

pub returns-clause-back_later : goal.returns-clause-back_later
unfolding computing served_config left_above come_to back_later
returns-clause-back_later c = pace_shown 4 2 (served_config TwoDfqPlus) back_later _ _ later_short refl refl

pub returns-clause-tag_later : goal.returns-clause-tag_later
unfolding computing served_config left_above come_to back_later
returns-clause-tag_later c = tag_is 4 2 (served_config TwoDfqPlus) back_later 0 later_short

pub returns-clause-time_2dfq : goal.returns-clause-time_2dfq
unfolding computing served_config left_above back_at
returns-clause-time_2dfq c = virtual_time_is 3 2 (served_config TwoDfq) (back_at 6) 6 back_short_6

pub returns-clause-tag_2dfq : goal.returns-clause-tag_2dfq
unfolding computing served_config left_above back_at
returns-clause-tag_2dfq c = tag_is 3 2 (served_config TwoDfq) (back_at 6) 0 back_short_6
