use Rattle.eligible_index.specs.Trees.{cleared}
use Rattle.eligible_index.proofs.Rows.{IsChangedTo}
use Rattle.eligible_index.proofs.index.restart_all.Given as goal

abbrev pub invariant-loop-worker : goal.invariant-loop-worker
invariant-loop-worker l = IsChangedTo (λ w. cleared l.tenants) l.initial.trees l.trees l.worker
