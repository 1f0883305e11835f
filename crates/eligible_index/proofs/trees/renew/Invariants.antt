use Rattle.eligible_index.specs.Trees.{SameSizes}
use Rattle.eligible_index.proofs.Places.{StandTo}
use Rattle.eligible_index.proofs.trees.renew.Given as goal

abbrev pub invariant-loop-tenant : goal.invariant-loop-tenant
invariant-loop-tenant l = record { same : SameSizes l.initial.later l.initial.eligible l.later l.eligible; stand : StandTo l.at l.table l.tenants l.later l.eligible l.tenant-index }
