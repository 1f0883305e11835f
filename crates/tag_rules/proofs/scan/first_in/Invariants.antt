use Rattle.tag_rules.specs.Passes.{GoesIn, BeforeIn}
use Rattle.tag_rules.specs.Scan.{IsFirstBelow}
use Rattle.tag_rules.proofs.scan.first_in.Given as goal

abbrev pub invariant-loop-tenant : goal.invariant-loop-tenant
invariant-loop-tenant l = IsFirstBelow (GoesIn l.pass l.turn) (BeforeIn l.pass l.turn) l.table l.tenant l.first
