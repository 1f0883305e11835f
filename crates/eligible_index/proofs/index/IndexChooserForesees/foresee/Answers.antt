use Rattle.std.proofs.Common.{refl}
use Rattle.tag_rules.proofs.Comparing.{read}
use Rattle.eligible_index.proofs.index.IndexChooserForesees.foresee.Goals as goal

pub returns : goal.returns
returns c = rw (← c.self.view_is) (rw (read c.args.v c.args.v c.ranges.v.sfits refl, c.deref.ensures.value) at c.foreseen_in.ensures)
