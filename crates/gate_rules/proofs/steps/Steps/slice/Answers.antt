use Rattle.std.proofs.Common.{arith, sym, ap, length}
use Rattle.gate_rules.proofs.Stepping.{raised, more_follows, end_follows}
use Rattle.gate_rules.proofs.steps.Steps.slice.Goals as goal

pub returns-then-number-count-clause-follows : goal.returns-then-number-count-clause-follows
returns-then-number-count-clause-follows c =
    let s = c.self.inside in
    let is = raised s.step s.cost c.args.k c.min.result c.args.last _ c.min.ensures c.greater-counters.ensures in
    rw is rw (sym c.self.view_is) (more_follows s.step s.cost c.args.k c.args.last c.self.invariant
    (omega (arith, c.if-number-count.true, c.count.ensures, ap length (sym c.self.view_is))))

pub returns-else-number-count-clause-follows : goal.returns-else-number-count-clause-follows
returns-else-number-count-clause-follows c =
    let s = c.self.inside in
    let is = raised s.step s.cost c.args.k c.min.result c.args.last _ c.min.ensures c.greater-counters.ensures in
    rw is rw (sym c.self.view_is) (end_follows s.step s.cost c.args.k c.args.last c.self.invariant
    (omega (arith, c.if-number-count.false, c.count.ensures, ap length (sym c.self.view_is))))
