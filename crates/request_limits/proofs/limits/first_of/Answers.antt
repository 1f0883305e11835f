use Rattle.std.proofs.Common.{ℕ, ◌+◌, Option, sym, subst, ◌∙◌}
use Rattle.request_limits.specs.declared.held.Held.{Held}
use Rattle.request_limits.specs.Next.{IsFoundBelow}
use Rattle.request_limits.proofs.Searches.{first_stays, none_more}
use Rattle.request_limits.proofs.limits.first_of.Goals as goal

pub returns-in_default-None : goal.returns-in_default-None
returns-in_default-None c = λ v slot f may. none_more v slot c.args.kind c.args.found f (may ∙ c.in_default-None.is-1)

pub returns-else-held-first : goal.returns-else-held-first
returns-else-held-first c =
    λ v slot f may.
    let at = c.in-Some-Some in
    let first = subst (λ (o : Option (ℕ × Held)). IsFoundBelow v slot c.args.kind o) at.is-0 f in
    subst (λ (o : Option (ℕ × Held)). IsFoundBelow v slot (c.args.kind + 1) o) (sym at.is-0)
    (first_stays v slot c.args.kind at.field-0-0-0 at.first at.held first (may ∙ at.is-1) c.if-held-first.false)
