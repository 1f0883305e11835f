use Rattle.std.proofs.Common.{Bool, List, false, replicate, length, ap, ◌∙◌}
use Rattle.eligible_index.proofs.Notes.{keeps_cleared}
use Rattle.eligible_index.proofs.noted.Noted.clear.Goals as goal

pub invariant_of-self : goal.invariant_of-self
invariant_of-self c = keeps_cleared c.self.inside.flags.items c.forget.new.flags _ _ _ _ c.self.inside.flags.ok.0 c.self.invariant.1 (c.forget.ensures ∙ ap (λ (fs : List Bool). replicate (length fs) false) c.deref_mut.ensures.value) c.clear.ensures.items c.clear.ensures.capacity
