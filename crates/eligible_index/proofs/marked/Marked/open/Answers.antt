use Rattle.eligible_index.proofs.Marks.{marks_open}
use Rattle.eligible_index.proofs.marked.Marked.open.Goals as goal

pub invariant_of-result : goal.invariant_of-result
invariant_of-result c = marks_open c.args.leaves _ _ (c.in_ok-marks.ensures.items_if_clones_equal (λ _ e. e)) c.in_ok-tree.ensures
