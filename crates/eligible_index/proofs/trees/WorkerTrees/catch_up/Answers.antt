use Rattle.std.proofs.Common.{sym, subst, ap, ◌∙◌, length}
use Rattle.std.proofs.lemmas.List.{length-replicate}
use Rattle.eligible_index.specs.Trees.{Follow, AllStand, AreExact}
use Rattle.eligible_index.proofs.Places.{stand_but, all_follow}
use Rattle.eligible_index.proofs.trees.WorkerTrees.catch_up.Goals as goal

pub renew-requires-clause-others : goal.renew-requires-clause-others
renew-requires-clause-others c = stand_but c.args.at c.args.table.now _ c.numbers.result.now (subst (Follow c.args.at c.args.table.now) (sym c.self.view_is) c.requires) c.numbers.ensures.all

caught_up : (c : goal.After-move_over) → AllStand c.args.at c.args.table.now c.move_over.new.later c.move_over.new.eligible × AreExact c.args.at c.args.table.now c.move_over.new.later c.move_over.new.eligible
caught_up c =
    let before = subst (Follow c.args.at c.args.table.now) (sym c.self.view_is) c.requires in
    c.move_over.ensures.moved c.args.table.now (c.renew.ensures.same.0 ∙ before.sized.later) c.renew.ensures.stand

pub returns-clause-follow : goal.returns-clause-follow
returns-clause-follow c =
    let before = subst (Follow c.args.at c.args.table.now) (sym c.self.view_is) c.requires in
    all_follow c.args.at c.args.table.now c.move_over.new.later c.move_over.new.eligible c.clear.new.self (c.move_over.ensures.same.0 ∙ (c.renew.ensures.same.0 ∙ before.sized.later)) (c.move_over.ensures.same.1 ∙ (c.renew.ensures.same.1 ∙ before.sized.eligible)) (ap length c.clear.ensures ∙ (length-replicate _ _ ∙ before.sized.noted)) (caught_up c).0

pub returns-clause-exact : goal.returns-clause-exact
returns-clause-exact c = (caught_up c).1
