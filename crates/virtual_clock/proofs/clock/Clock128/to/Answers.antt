use Rattle.std.proofs.Common.{arith, ap, ℤ, ◌≡◌, ◌∙◌}
use Rattle.std.proofs.lemmas.Int.{ints}
use Rattle.std.specs.Int.{w128}
use mir.Val.{to_z, of_z}
use Rattle.virtual_clock.proofs.clock.Clock128.to.Goals as goal

pub returns : goal.returns
returns c =
    let at = c.at-self-inside.ensures in
    let back : to_z w128 (of_z w128 c.at-self-inside.result) ≡ c.at-self-inside.result = omega (arith, ints, at.low, at.high) in
    rw (← c.self.view_is) (ap (λ (t : ℤ). record {
      workers = c.self.inside.workers;
      moment = c.args.moment;
      weights = c.self.inside.weights;
      time = t;
      cap = c.self.inside.cap;
    }) (back ∙ (rw (← c.self.view_is) at at.value)))
