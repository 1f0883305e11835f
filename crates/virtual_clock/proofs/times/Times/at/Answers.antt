use Rattle.std.proofs.Common.{◌≡◌, ◌∙◌, arith}
use Rattle.std.proofs.lemmas.Int.{ints}
use Rattle.std.specs.Int.{w128}
use mir.Val.{to_z, of_z}
use Rattle.virtual_clock.proofs.TimeSteps.{times_come}
use Rattle.virtual_clock.proofs.times.Times.at.Goals as goal

pub returns-clause-value : goal.returns-clause-value
returns-clause-value c = λ C P lim l is.
    let back : to_z w128 (of_z w128 c.at.result) ≡ c.at.result = omega (arith, ints, c.at.ensures.low, c.at.ensures.high) in
    back ∙ (c.at.ensures.value ∙ (times_come C P c.args.moment c.args.self.now lim l (rw is.clock_is.moment at c.requires.later) c.requires.in_range is).clock_is.time)
