use Rattle.std.proofs.Common.{sym}
use Rattle.gate_rules.proofs.Stepping.{counted}
use Rattle.gate_rules.proofs.steps.Steps.count.Goals as goal

pub returns : goal.returns
returns c = rw (sym c.self.view_is) (counted c.self.inside.step c.self.inside.cost c.self.invariant)
