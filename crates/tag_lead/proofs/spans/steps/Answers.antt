use Rattle.std.proofs.Common.{◌≡◌, arith, pos}
use Rattle.std.proofs.lemmas.Int.{ints}
use Rattle.std.specs.Int.{w128}
use mir.Val.{to_z, of_z}
use Rattle.vt_fixed.specs.Rounding.{length_of}
use Rattle.vt_fixed.proofs.Bounds.{length_high}
use Rattle.tag_lead.proofs.spans.steps.Goals as goal

pub overflow_cast-result : goal.overflow_cast-result
overflow_cast-result c =
    let high = length_high c.args.charge c.args.weight c.requires.charge c.requires.weight_positive in
    let back : to_z w128 (of_z w128 c.length.result) ≡ pos (length_of c.args.charge c.args.weight) = omega (arith, ints, c.length.ensures, high) in
    rw back (tt, omega (arith, high))
