use Rattle.std.proofs.Common.{ℕ, ◌≡◌, ◌∙◌, ap, rules, replicate}
use Rattle.tag_rules.specs.Accounts.{at_first}
use Rattle.tag_gap.proofs.ReadingLemmas.{keeps_nil}
use Rattle.tag_gap.proofs.reading.Reading.open.Goals as goal

pub returns-clause-keeps : goal.returns-clause-keeps
returns-clause-keeps c =
    let waiting : c.in_ok-vec.field-0.items ≡ replicate c.tenants-2.result 0 = search rules in
    keeps_nil c.args.config.now _ c.tenants.ensures.limits c.policy.ensures.value c.in_ok-open.ensures (c.in_ok-open-2.ensures ∙ ap at_first c.tenants.ensures.value) (waiting ∙ ap (λ (n : ℕ). replicate n 0) c.tenants-2.ensures.value)
