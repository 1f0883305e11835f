use Rattle.std.proofs.Common.{arith, ◌≤◌, ◌-◌, ◌*◌}
use Rattle.std.proofs.lemmas.Int.{ints, clamps}
use Rattle.vt_fixed.specs.Rounding.{advance_of}
use Rattle.fq_laws.specs.Words.{greatest_rate}
use Rattle.fq_laws.proofs.Time.Clock.{advance_low}
use Rattle.virtual_clock.proofs.clock.Clock128.at.Goals as goal

pub overflow_add-moved : goal.overflow_add-moved
overflow_add-moved c =
    let low : advance_of (c.args.moment - c.self.inside.moment) c.self.inside.workers c.self.inside.weights ≤ (c.args.moment - c.self.inside.moment) * greatest_rate = advance_low _ _ _ c.self.invariant.workers_in_range in
    let moved = c.advance.ensures in
    omega (arith, ints)

pub returns-clause-value : goal.returns-clause-value
returns-clause-value c =
    let low : advance_of (c.args.moment - c.self.inside.moment) c.self.inside.workers c.self.inside.weights ≤ (c.args.moment - c.self.inside.moment) * greatest_rate = advance_low _ _ _ c.self.invariant.workers_in_range in
    let moved = c.advance.ensures in
    rw (← c.self.view_is) (omega (arith, ints, clamps, c.min.ensures.value))

pub returns-clause-low : goal.returns-clause-low
returns-clause-low c =
    let low : advance_of (c.args.moment - c.self.inside.moment) c.self.inside.workers c.self.inside.weights ≤ (c.args.moment - c.self.inside.moment) * greatest_rate = advance_low _ _ _ c.self.invariant.workers_in_range in
    let moved = c.advance.ensures in
    omega (arith, ints, clamps, c.min.ensures.value)
