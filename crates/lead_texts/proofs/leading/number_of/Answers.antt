use Rattle.std.proofs.Common.{arith, sym}
use Rattle.lead_texts.proofs.Leads.{none_first, found_here, none_here, none_at_all}
use Rattle.lead_texts.proofs.leading.number_of.Goals as goal

pub loop-t-init : goal.loop-t-init
loop-t-init c = none_first c.args.tenants.now c.args.name.now

pub returns-then-eq-clause-value : goal.returns-then-eq-clause-value
returns-then-eq-clause-value c =
    found_here c.args.tenants.now c.args.name.now c.name.result.now c.loop-t.t c.name.ensures.limits (omega arith) c.name.ensures.value (sym c.if-eq.ensures)

pub loop-t-preserved : goal.loop-t-preserved
loop-t-preserved c =
    none_here c.args.tenants.now c.args.name.now c.name.result.now c.loop-t.t c.name.ensures.value (sym c.if-eq.ensures) c.loop-t.invariant

pub returns-clause-value : goal.returns-clause-value
returns-clause-value c = none_at_all c.args.tenants.now c.args.name.now c.loop-t.t (omega arith) c.loop-t.invariant
