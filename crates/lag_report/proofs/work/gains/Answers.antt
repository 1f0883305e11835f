use Rattle.std.proofs.Common.{◌≡◌, ◌++◌, length, take, drop, replicate, arith, rules, ap, sym, ◌∙◌, subst, ℕ, sum, ◌+◌, ◌≤◌}
use Rattle.std.proofs.lemmas.List.{length-replicate, take_all}
use Rattle.std.proofs.lemmas.List.Sums.{sum_by-take-le}
use Rattle.fluid_reference.proofs.Known.{written_back}
use Rattle.lag_report.specs.declared.course.Course.{Course}
use Rattle.lag_report.specs.Courses.{course_at}
use Rattle.lag_report.specs.Work.{EndsWithin, GainsAre, work_in}
use Rattle.lag_report.proofs.Gains.{gains_none, gains_step, gains_low}
use Rattle.lag_report.proofs.work.gains.Goals as goal

pub loop-course-init : goal.loop-course-init
loop-course-init c =
    let zeros : c.in_ok-gains.gains.items ≡ replicate c.args.slots 0 = search rules in
    record {
      len = ap length zeros ∙ length-replicate c.args.slots 0;
      gains = gains_none c.args.slot c.args.slots c.in_ok-gains.gains.items zeros;
    }

pub loop-course-preserved : goal.loop-course-preserved
loop-course-preserved c =
    let same : length c.spread.new.gains ≡ length c.loop-course.gains.items = c.spread.auto.gains ∙ ap length c.as_mut_slice.ensures.value in
    let back : take c.loop-course.gains.len (c.spread.new.gains ++ drop (length c.spread.new.gains) c.loop-course.gains.items) ≡ c.spread.new.gains = written_back c.loop-course.gains.len c.loop-course.gains.items c.spread.new.gains same c.loop-course.gains.ok.0 in
    let course : Course = course_at c.args.courses.now c.loop-course.course-index in
    let more : (k : ℕ) → k ≤ length c.loop-course.gains.items → sum (take k c.spread.new.gains) ≡ sum (take k c.loop-course.gains.items) + work_in c.args.slot k course = subst (λ xs. (k : ℕ) → k ≤ length xs → sum (take k c.spread.new.gains) ≡ sum (take k xs) + work_in c.args.slot k course) c.as_mut_slice.ensures.value c.spread.ensures in
    record {
      len = ap length back ∙ same ∙ c.loop-course.invariant.len;
      gains = subst (GainsAre c.args.slot (take (c.loop-course.course-index + 1) c.args.courses.now)) (sym back) (gains_step c.args.slot c.loop-course.course-index c.args.courses.now c.loop-course.gains.items c.spread.new.gains _ c.loop-course-test.true same c.loop-course.invariant.gains more);
    }

pub spread-requires-clause-room : goal.spread-requires-clause-room
spread-requires-clause-room c = omega (
  arith,
  ap sum c.as_mut_slice.ensures.value,
  gains_low c.args.slot (take c.loop-course.course-index c.args.courses.now) c.loop-course.gains.items
      (omega (arith, sum_by-take-le (λ (x : Course). x.cost) c.args.courses.now c.loop-course.course-index, c.requires.costs))
      c.loop-course.invariant.gains,
)

pub spread-requires-clause-ends : goal.spread-requires-clause-ends
spread-requires-clause-ends c = subst (λ n. EndsWithin c.args.slot n (course_at c.args.courses.now c.loop-course.course-index)) (sym (ap length c.as_mut_slice.ensures.value ∙ c.loop-course.invariant.len)) (c.requires.end c.loop-course.course-index _ c.loop-course-test.true)

pub returns-clause-len : goal.returns-clause-len
returns-clause-len c = c.loop-course.invariant.len

pub returns-clause-gains : goal.returns-clause-gains
returns-clause-gains c = subst (λ cs. GainsAre c.args.slot cs c.loop-course.gains.items) (take_all c.loop-course.course-index c.args.courses.now c.loop-course-test.false) c.loop-course.invariant.gains
