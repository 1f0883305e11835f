use Rattle.std.proofs.Common.{◌≡◌, arith, subst}
use Rattle.std.proofs.lemmas.Int.{ints}
use mir.Val.{to_z, of_z}
use Rattle.std.specs.Int.{w128}
use Rattle.virtual_clock.specs.Lingering.{Ended}
use Rattle.virtual_clock.proofs.EndSteps.{may_end, follows_end}
use Rattle.virtual_clock.proofs.times.Times.end.Goals as goal
use Rattle.virtual_clock.proofs.times.Times.end.Goals.{After-close_request}

ends : (c : After-close_request) → Ended c.args.policy c.args.moment c.args.tenant c.args.start c.args.self.now c.close_request.new.self
ends c =
    let back : to_z w128 (of_z w128 c.args.start) ≡ c.args.start = omega (arith, ints, c.ranges.start.sfits) in
    subst (λ s. Ended c.args.policy c.args.moment c.args.tenant s c.args.self.now c.close_request.new.self) back c.close_request.ensures

pub settle-requires : goal.settle-requires
settle-requires c = (may_end c.args.policy c.args.moment c.args.tenant c.args.start c.args.self.now c.requires).is_counted _ (ends (goal.at.settle-requires c).After-close_request)

pub returns : goal.returns
returns c = follows_end c.args.policy c.args.moment c.args.tenant c.args.start c.args.self.now _ _ (ends (goal.at.returns c).After-close_request) c.settle.ensures
