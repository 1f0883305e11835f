use Rattle.std.proofs.Common.{◌≡◌, ◌≤◌, ◌∙◌, refl, rules, replicate, None, arith}
use Rattle.fq_model.specs.declared.limits.TheConstants.{MOST_TENANTS}
use Rattle.eligible_index.specs.Trees.{empty_trees}
use Rattle.eligible_index.proofs.Kept.{keeps_opened}
use Rattle.eligible_index.proofs.index.IndexChooserChooser.open.Goals as goal

pub invariant_of-result : goal.invariant_of-result
invariant_of-result c =
    let table : c.in_ok-table.table.items ≡ replicate c.tenants.result None = search rules in
    let trees : c.in_ok-trees.trees.items ≡ replicate c.workers.result (empty_trees c.tenants-2.result) = search rules in
    let same : replicate c.workers.result (empty_trees c.tenants-2.result) ≡ replicate c.workers-2.result (empty_trees c.tenants.result) = rw (c.workers.ensures.value, c.workers-2.ensures.value, c.tenants.ensures.value, c.tenants-2.ensures.value) refl in
    let few : c.tenants.result ≤ MOST_TENANTS = omega (arith, c.tenants.ensures.value, c.tenants.ensures.limits.tenants.1) in
    keeps_opened c.policy.result c.workers-2.result c.tenants.result c.in_ok-table.table.items c.in_ok-trees.trees.items table (trees ∙ same) few
