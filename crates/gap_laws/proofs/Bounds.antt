-- The largest difference is at most the bound: it is the difference at a shared prefix, and the bound is above the
-- difference where its run begins.
use Rattle.std.proofs.Common.{◌≡◌, arith, ℤ, ◌≤ℤ◌}
use Rattle.std.specs.Int.{int_max}
use Rattle.std.proofs.lemmas.Int.{ints, clamps}
use Rattle.fq_model.specs.History.{History}
use Rattle.fq_model.specs.Gap.{start_difference, run_start}
use Rattle.gap_laws.specs.Words.{IsSharedIn, IsFirstIn, IsGreatestAt, IsGreatestOver, RunBegins}
use Rattle.gap_laws.specs.Laws.{bound_length, LargestIsBounded}
use Rattle.gap_laws.proofs.Runs.{prefix_of_prefix, run_begins}
use Rattle.gap_laws.proofs.Gaps.{gap_below}
use Rattle.gap_laws.proofs.Told.{largest_greatest, bound_greatest}

below_bound : (x y z w b : ℤ) → w ≡ x → w ≤ℤ int_max y z → y ≤ℤ b → z ≤ℤ b → x ≤ℤ b
below_bound x y z w b is h first lengths = omega (arith, ints, clamps)

pub largest_bounded : LargestIsBounded
largest_bounded C H f g gap h is =
    let largest : IsGreatestAt (IsSharedIn H f g) (λ P. start_difference C P f g) gap.largest = largest_greatest C H f g gap is in
    let bound : IsGreatestOver (IsFirstIn H f g) (λ P. start_difference C P f g) (bound_length C H f g) gap.bound = bound_greatest C H f g gap is in
    let P : History = largest.reached.0 in
    let in_H : IsSharedIn H f g P = largest.reached.1 in
    let run : RunBegins P f g (run_start P f g) = run_begins P f g in_H.1 in
    let first : IsFirstIn H f g (run_start P f g) = ((prefix_of_prefix (run_start P f g) P H run.first.0.0 in_H.0, run.first.0.1), run.first.1) in
    below_bound gap.largest (start_difference C (run_start P f g) f g) (bound_length C H f g) (start_difference C P f g) gap.bound largest.reached.2
    (gap_below C H P f g h in_H) (bound.greatest (run_start P f g) first) bound.least
