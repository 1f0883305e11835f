use Rattle.lead_texts.proofs.Leads.{NoneBefore}
use Rattle.lead_texts.proofs.leading.number_of.Given as goal

abbrev pub invariant-loop-t : goal.invariant-loop-t
invariant-loop-t l = NoneBefore l.tenants l.name l.t
