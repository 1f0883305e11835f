use Rattle.eligible_index.specs.Trees.{with_noted}
use Rattle.eligible_index.proofs.Rows.{IsChangedTo}
use Rattle.eligible_index.proofs.index.note_for_all.Given as goal

abbrev pub invariant-loop-worker : goal.invariant-loop-worker
invariant-loop-worker l = IsChangedTo (λ w. with_noted w l.tenant) l.initial.trees l.trees l.worker
