use Rattle.std.proofs.Common.{◌∙◌, subst, None}
use Rattle.std.proofs.lemmas.List.{length-set, get_or_read, get_or_default}
use Rattle.eligible_index.specs.Trees.{Stands}
use Rattle.eligible_index.proofs.Places.{stand_next}
use Rattle.eligible_index.proofs.trees.renew.Goals as goal

pub loop-tenant-preserved : goal.loop-tenant-preserved
loop-tenant-preserved c =
    let known = c.requires.known c.loop-tenant.tenant-index 0 c.loop-tenant-test.true in
    rw (c.set.ensures, c.set-in-loop-tenant.ensures) (record {
      same = (length-set _ _ _ ∙ c.loop-tenant.invariant.same.0, length-set _ _ _ ∙ c.loop-tenant.invariant.same.1);
      stand = stand_next c.args.at c.args.table.now c.args.tenants.now c.loop-tenant.later c.loop-tenant.eligible c.loop-tenant.tenant-index _ _ _ (c.loop-tenant.invariant.same.0 ∙ c.requires.sized.0) (c.loop-tenant.invariant.same.1 ∙ c.requires.sized.1) c.loop-tenant-test.true (get_or_default c.args.tenants.now c.loop-tenant.tenant-index 0 _ c.loop-tenant-test.true) known (subst (λ k. Stands c.args.at k c.keys_in_trees-not_yet.result.0 c.keys_in_trees-not_yet.result.1) (get_or_read c.args.table.now _ c.index-table-tenant.result known c.index-table-tenant.is None) c.keys_in_trees-not_yet.ensures) c.loop-tenant.invariant.stand;
    })
