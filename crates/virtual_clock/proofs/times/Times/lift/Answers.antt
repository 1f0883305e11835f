use Rattle.std.proofs.Common.{arith, refl, ◌∙◌, ◌≡◌, pos, unsigned_abs, ◌+ℤ◌, ◌-ℤ◌}
use mir.Val.{to_z, of_z}
use Rattle.std.specs.Int.{w128}
use Rattle.vt_fixed.specs.Rounding.{part_of}
use Rattle.vt_fixed.proofs.Bounds.{part_le}
use Rattle.std.proofs.lemmas.Int.{ints}
use Rattle.virtual_clock.proofs.TakeSteps.{may_lift, lifted_alike, counted_lifted, follows_take}
use Rattle.virtual_clock.proofs.times.Times.lift.Goals as goal

pub part-requires-clause-len_positive : goal.part-requires-clause-len_positive
part-requires-clause-len_positive c =
    let may = may_lift c.args.worker c.args.start c.args.len c.args.self.now c.requires in
    omega (arith, ints, may.len_low, may.len_high)

pub part-requires-clause-len_in_range : goal.part-requires-clause-len_in_range
part-requires-clause-len_in_range c =
    let may = may_lift c.args.worker c.args.start c.args.len c.args.self.now c.requires in
    omega (arith, ints, may.len_low, may.len_high)

pub part-requires-clause-worker_in_range : goal.part-requires-clause-worker_in_range
part-requires-clause-worker_in_range c =
    let may = may_lift c.args.worker c.args.start c.args.len c.args.self.now c.requires in
    omega (arith, may.worker_known, c.workers.ensures.value)

pub overflow_sub-key : goal.overflow_sub-key
overflow_sub-key c =
    let may = may_lift c.args.worker c.args.start c.args.len c.args.self.now c.requires in
    omega (arith, ints, may.start_low, may.len_low, may.finish_high, c.part.ensures)

pub overflow_add-start : goal.overflow_add-start
overflow_add-start c =
    let may = may_lift c.args.worker c.args.start c.args.len c.args.self.now c.requires in
    omega (arith, ints, may.start_low, may.len_low, may.finish_high)

pub lift-requires-clause-ordered : goal.lift-requires-clause-ordered
lift-requires-clause-ordered c =
    let may = may_lift c.args.worker c.args.start c.args.len c.args.self.now c.requires in
    omega (arith, ints, may.start_low, may.len_low, may.finish_high, c.part.ensures)

pub lift-requires-clause-in_range : goal.lift-requires-clause-in_range
lift-requires-clause-in_range c =
    let may = may_lift c.args.worker c.args.start c.args.len c.args.self.now c.requires in
    omega (arith, ints, may.start_low, may.len_low, may.finish_high)

pub settle-requires : goal.settle-requires
settle-requires c = rw (c.lift.ensures) (counted_lifted _ _ c.args.self.now (may_lift c.args.worker c.args.start c.args.len c.args.self.now c.requires).is_counted)

pub returns : goal.returns
returns c =
    let may = may_lift c.args.worker c.args.start c.args.len c.args.self.now c.requires in
    let len_is : to_z w128 (of_z w128 c.args.len) ≡ c.args.len = omega (arith, ints, may.start_low, may.len_low, may.finish_high) in
    let exact : c.part.result ≡ pos (part_of (unsigned_abs c.args.len) c.args.worker c.args.self.now.clock.workers) = c.part.ensures ∙ rw (len_is, c.workers.ensures.value) refl in
    let low = part_le (unsigned_abs c.args.len) c.args.worker c.args.self.now.clock.workers (omega (arith, may.worker_known)) in
    let part_is : to_z w128 (of_z w128 c.part.result) ≡ pos (part_of (unsigned_abs c.args.len) c.args.worker c.args.self.now.clock.workers) = omega (arith, ints, exact, low, may.len_low, may.len_high) in
    let key_is : to_z w128 (of_z w128 (to_z w128 (of_z w128 c.args.start) -ℤ to_z w128 (of_z w128 c.part.result))) ≡ c.args.start -ℤ pos (part_of (unsigned_abs c.args.len) c.args.worker c.args.self.now.clock.workers) = omega (arith, ints, may.start_low, may.len_low, may.finish_high, part_is) in
    let finish_is : to_z w128 (of_z w128 (to_z w128 (of_z w128 c.args.start) +ℤ to_z w128 (of_z w128 c.args.len))) ≡ c.args.start +ℤ c.args.len = omega (arith, ints, may.start_low, may.len_low, may.finish_high) in
    follows_take c.args.worker c.args.start c.args.len c.args.self.now _
    (rw (c.lift.ensures ∙ lifted_alike c.args.self.now.clock _ _ _ _ key_is finish_is) at c.settle.ensures)
