use Rattle.eligible_index.proofs.Notes.{keeps_none}
use Rattle.eligible_index.proofs.noted.Noted.open.Goals as goal

pub invariant_of-result : goal.invariant_of-result
invariant_of-result c = keeps_none _ _ c.args.bound _ (c.in_ok-flags.ensures.items_if_clones_equal (λ _ e. e)) (c.in_ok-numbers.ensures.items) (c.in_ok-numbers.ensures.exact)
