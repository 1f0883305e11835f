use Rattle.tag_rules.proofs.Shorter.{NoneIsShort}
use Rattle.tag_rules.proofs.foresees.has_smaller.Given as goal

abbrev pub invariant-loop-tenant : goal.invariant-loop-tenant
invariant-loop-tenant l = NoneIsShort l.turn l.table l.weights l.below l.tenant
