use Rattle.std.proofs.Common.{ℕ, ◌+◌, ◌≤◌, ◌≡◌, ◌++◌, ◌∷◌, [], List, length, take, get_or, sum, arith, refl, ap, ap₂, sym, ◌∙◌, ℤ, pos, ◌-ℤ◌, add-one, w64}
use mir.Val.{SFits, to_z, of_z}
use Rattle.std.proofs.lemmas.Int.{ints}
use Rattle.std.proofs.lemmas.List.Sums.{sum_by_more, sum_by_more_le}
use Rattle.fq_model.specs.Sums.{list_below}
use Rattle.fq_laws.proofs.Lists.{list_length, list_none, list_more}
use Rattle.lag_report.specs.Work.{sample_at}
use Rattle.lag_report.proofs.samples.samples.Goals as goal

pub overflow_add-work : goal.overflow_add-work
overflow_add-work c = omega (arith, c.loop-k.invariant.work, sum_by_more_le (λ x. x) c.args.gains.now c.loop-k.k 0 (omega (arith, c.requires.same, c.loop-k-test.true)), c.requires.gained)

pub loop-k-init : goal.loop-k-init
loop-k-init c = record { work = refl; samples = c.in_ok-samples.ensures.items ∙ sym (list_none _); room = c.in_ok-samples.ensures.capacity }

-- the lag that is pushed: a difference of numbers that are in their limits
lag_is : (served work : ℕ) → served ≤ 2000000000000000 → work ≤ 2000000000000000 → to_z w64 (of_z w64 (to_z w64 served -ℤ to_z w64 work)) ≡ pos served -ℤ pos work
lag_is served work s w = omega (arith, ints)

pub loop-k-preserved : goal.loop-k-preserved
loop-k-preserved c =
    let work : c.loop-k.work + get_or c.args.gains.now c.loop-k.k 0 ≡ sum (take (c.loop-k.k + 1) c.args.gains.now) = ap (λ n. n + get_or c.args.gains.now c.loop-k.k 0) c.loop-k.invariant.work ∙ sym (sum_by_more (λ x. x) c.args.gains.now c.loop-k.k 0 (omega (arith, c.requires.same, c.loop-k-test.true))) in
    let few : c.loop-k.work + get_or c.args.gains.now c.loop-k.k 0 ≤ 2000000000000000 = omega (arith, c.loop-k.invariant.work, sum_by_more_le (λ x. x) c.args.gains.now c.loop-k.k 0 (omega (arith, c.requires.same, c.loop-k-test.true)), c.requires.gained) in
    let here : to_z w64 (of_z w64 (to_z w64 (get_or c.args.served.now c.loop-k.k 0) -ℤ to_z w64 (c.loop-k.work + get_or c.args.gains.now c.loop-k.k 0))) ≡ sample_at c.args.served.now (λ k. sum (take k c.args.gains.now)) c.loop-k.k =
    lag_is (get_or c.args.served.now c.loop-k.k 0) (c.loop-k.work + get_or c.args.gains.now c.loop-k.k 0) (c.requires.served c.loop-k.k 0 c.loop-k-test.true) few
    ∙ ap (λ n. pos (get_or c.args.served.now c.loop-k.k 0) -ℤ pos n) (work ∙ ap (λ n. sum (take n c.args.gains.now)) (add-one c.loop-k.k)) in
    record {
      work = work;
      samples = c.push_reserved.ensures.items ∙ ap₂ (λ (xs : List ℤ) z. xs ++ z ∷ []) c.loop-k.invariant.samples here ∙ sym (list_more (sample_at c.args.served.now (λ k. sum (take k c.args.gains.now))) c.loop-k.k);
      room = omega (arith, c.push_reserved.ensures.capacity, c.loop-k.invariant.room);
    }

pub push_reserved-requires : goal.push_reserved-requires
push_reserved-requires c = omega (
  arith,
  c.loop-k-test.true,
  c.loop-k.invariant.room,
  ap length c.loop-k.invariant.samples,
  list_length (sample_at c.args.served.now (λ k. sum (take k c.args.gains.now))) c.loop-k.k,
  c.loop-k.samples.ok.0,
)

pub bounds-gains-k : goal.bounds-gains-k
bounds-gains-k c = omega (arith, c.requires.same, c.loop-k-test.true)

-- each number is in its limits, and so is their difference
lag_fits : (served work : ℕ) → served ≤ 2000000000000000 → work ≤ 2000000000000000 → SFits w64 (to_z w64 served -ℤ to_z w64 work)
lag_fits served work s w = omega (arith, ints)

pub overflow_sub-served : goal.overflow_sub-served
overflow_sub-served c = lag_fits (get_or c.args.served.now c.loop-k.k 0) (c.loop-k.work + get_or c.args.gains.now c.loop-k.k 0) (c.requires.served c.loop-k.k 0 c.loop-k-test.true)
    (omega (arith, c.loop-k.invariant.work, sum_by_more_le (λ x. x) c.args.gains.now c.loop-k.k 0 (omega (arith, c.requires.same, c.loop-k-test.true)), c.requires.gained))

pub returns : goal.returns
returns c = c.loop-k.invariant.samples ∙ ap (list_below (sample_at c.args.served.now (λ k. sum (take k c.args.gains.now)))) (omega (arith, c.loop-k-test.false, c.loop-k.auto.k-end))

small_fits : (n : ℕ) → n ≤ 2000000000000000 → SFits w64 (pos n)
small_fits n h = omega (arith, ints, h)

pub overflow_cast-work : goal.overflow_cast-work
overflow_cast-work c = small_fits (c.loop-k.work + get_or c.args.gains.now c.loop-k.k 0) (omega (arith, c.loop-k.invariant.work, sum_by_more_le (λ x. x) c.args.gains.now c.loop-k.k 0 (omega (arith, c.requires.same, c.loop-k-test.true)), c.requires.gained))
