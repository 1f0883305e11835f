use Rattle.std.proofs.Common.{arith}
use Rattle.std.proofs.lemmas.Int.{ints}
use Rattle.vt_fixed.proofs.Bounds.{length_high}
use Rattle.tag_rules.proofs.keys.keys.Goals as goal

pub invariant_of-result : goal.invariant_of-result
invariant_of-result c =
    let high = length_high c.args.estimate c.args.weight c.requires.estimate_in_range c.requires.weight_positive in
    record {
      start_low = omega (arith, ints, c.requires.start_low, c.requires.start_high);
      start_high = omega (arith, ints, c.requires.start_low, c.requires.start_high);
      len_low = omega (arith, ints, c.length.ensures, high);
      len_high = omega (arith, ints, c.length.ensures, high);
    }
