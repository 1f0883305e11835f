use Rattle.std.proofs.Common.{refl, ◌/◌, length-set, ℕ, suc, ◌+◌, ◌-◌, ◌*◌, ◌<◌, ◌≤◌, ◌≡◌, min, length, take, sum, arith, ap, sym, ◌∙◌, inl, inr, nat_le, add-one, subst}
use Rattle.std.proofs.lemmas.Bool.{cases_Bool, leb-true, leb-false}
use Rattle.std.proofs.lemmas.List.Sums.{get_or-le-sum_by}
use Rattle.std.proofs.lemmas.List.{take_all}
use Rattle.lag_report.specs.Work.{work_in, worked}
use Rattle.lag_report.proofs.Gains.{in_low, in_rises, in_none, in_whole, gained_more}
use Rattle.lag_report.proofs.work.spread.Goals as goal
use Rattle.lag_report.proofs.work.spread.Goals.{After-worked-after}

after_is : (c : After-worked-after) → c.worked-after.result ≡ work_in c.args.slot (suc c.loop-k.k) c.args.course
after_is c = c.worked-after.ensures ∙ ap (λ n. worked (n * c.args.slot) c.args.course) (add-one c.loop-k.k)

inside : (c : After-worked-after) → c.loop-k.k < length c.args.gains.now
inside c =
    let last : (c.args.course.ended - 1) / c.args.slot < length c.args.gains.now = c.requires.ends.slot in
    let to : c.loop-k.k < (c.args.course.ended - 1) / c.args.slot + 1 = subst (λ n. c.loop-k.k < n / c.args.slot + 1) c.saturating_sub-2.ensures c.loop-k-test.true in
    omega (arith, last, to)

rises : (c : After-worked-after) → c.loop-k.before ≤ c.worked-after.result
rises c = omega (arith, after_is c, c.loop-k.invariant.before, in_rises c.args.slot c.loop-k.k c.args.course)

pub loop-k-init : goal.loop-k-init
loop-k-init c =
    let early : (k : ℕ) → k ≤ c.saturating_sub.result / c.args.slot → work_in c.args.slot k c.args.course ≡ 0 = λ k l. in_none c.args.slot k c.args.course c.requires.positive c.requires.ends.in_order (subst (λ n. k ≤ n / c.args.slot) c.saturating_sub.ensures l) in
    record {
      len = refl;
      low = omega arith;
      before = sym (early _ (omega arith));
      gained = λ k l. omega (arith, early (min k (c.saturating_sub.result / c.args.slot)) (omega arith));
    }

pub loop-k-preserved : goal.loop-k-preserved
loop-k-preserved c =
    let first : After-worked-after = (goal.at.loop-k-preserved c).After-worked-after in
    record {
      len = length-set _ _ _ ∙ c.loop-k.invariant.len;
      low = omega (arith, c.loop-k.invariant.low);
      before = after_is first ∙ ap (λ n. work_in c.args.slot n c.args.course) (sym (add-one c.loop-k.k));
      gained = λ k l. gained_more c.loop-k.gains c.args.gains.now c.loop-k.k k c.loop-k.before c.worked-after.result (λ n. work_in c.args.slot n c.args.course) c.loop-k.invariant.len (inside first) c.loop-k.invariant.before (after_is first) (rises first) c.loop-k.invariant.gained l;
    }

pub overflow_sub-gains : goal.overflow_sub-gains
overflow_sub-gains c = rises c

pub overflow_add-gains : goal.overflow_add-gains
overflow_add-gains c =
    let first : After-worked-after = (goal.at.overflow_add-gains c).After-worked-after in
    let long : length c.loop-k.gains ≡ length c.args.gains.now = c.loop-k.invariant.len in
    let all : sum (take (length c.args.gains.now) c.loop-k.gains) ≡ sum c.loop-k.gains = ap sum (take_all _ c.loop-k.gains (omega (arith, long))) in
    let old : sum (take (length c.args.gains.now) c.args.gains.now) ≡ sum c.args.gains.now = ap sum (take_all _ c.args.gains.now (omega arith)) in
    omega (
      arith,
      get_or-le-sum_by (λ x. x) c.loop-k.gains c.loop-k.k 0 (omega (arith, inside first, long)),
      all,
      old,
      c.loop-k.invariant.gained (length c.args.gains.now) (omega arith),
      in_low c.args.slot (min (length c.args.gains.now) c.loop-k.k) c.args.course,
      in_low c.args.slot (suc c.loop-k.k) c.args.course,
      after_is first,
      c.requires.room,
      c.requires.ends.cost,
    )

pub returns : goal.returns
returns c = λ k l. elim (cases_Bool (nat_le k c.loop-k.k)) [
  | inl e ↦
      let early : min k c.loop-k.k ≡ k = omega (arith, leb-true _ _ e) in
      c.loop-k.invariant.gained k l ∙ ap (λ n. sum (take k c.args.gains.now) + work_in c.args.slot n c.args.course) early
  | inr e ↦
      let late : c.loop-k.k < k = leb-false _ _ e in
      let least : min k c.loop-k.k ≡ c.loop-k.k = omega (arith, late) in
      let ended : (c.args.course.ended - 1) / c.args.slot < c.loop-k.k = subst (λ n. n / c.args.slot < c.loop-k.k) c.saturating_sub-2.ensures (omega arith) in
      let here : work_in c.args.slot c.loop-k.k c.args.course ≡ c.args.course.cost = in_whole c.args.slot c.loop-k.k c.args.course c.requires.positive ended in
      let there : work_in c.args.slot k c.args.course ≡ c.args.course.cost = in_whole c.args.slot k c.args.course c.requires.positive (omega (arith, ended, late)) in
      c.loop-k.invariant.gained k l ∙ ap (λ n. sum (take k c.args.gains.now) + n) (ap (λ n. work_in c.args.slot n c.args.course) least ∙ here ∙ sym there)
]

pub bounds-gains-k : goal.bounds-gains-k
bounds-gains-k c = omega (arith, inside (goal.at.bounds-gains-k c).After-worked-after, c.loop-k.invariant.len)
