use Rattle.std.proofs.Common.{sym, subst, IfSome, List}
use Rattle.tag_rules.specs.Tables.{IsNewTo}
use Rattle.eligible_index.specs.Trees.{TreesView}
use Rattle.eligible_index.specs.Index.{IndexView, AreNoted}
use Rattle.eligible_index.proofs.Kept.{keeps_set, differ_set, whole}
use Rattle.eligible_index.proofs.index.IndexChooserChooser.set.Goals as goal

pub invariant_of-self : goal.invariant_of-self
invariant_of-self c =
    let noted : AreNoted c.args.tenant c.self.inside.trees.items c.note_for_all.new.trees = subst (λ (old : List TreesView). AreNoted c.args.tenant old c.note_for_all.new.trees) c.deref_mut.ensures.value c.note_for_all.ensures in
    rw (whole c.self.inside.trees.items c.note_for_all.new.trees _ c.self.inside.trees.ok.0 noted.0) (keeps_set c.self.inside.policy c.self.inside.workers c.self.inside.table.items c.self.inside.latest c.self.inside.trees.items c.note_for_all.new.trees c.args.tenant c.args.keys c.self.invariant (differ_set c.self.inside.table.items c.args.tenant c.args.keys c.self.invariant.differ (subst (λ (x : IndexView). IfSome c.args.keys (IsNewTo x.chooser.table c.args.tenant)) (sym c.self.view_is) c.requires.new_request)) noted)
