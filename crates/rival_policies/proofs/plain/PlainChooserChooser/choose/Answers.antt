use Rattle.std.proofs.Common.{refl}
use Rattle.tag_rules.proofs.Comparing.{read}
use Rattle.rival_policies.proofs.plain.PlainChooserChooser.choose.Goals as goal

pub returns-clause-chosen : goal.returns-clause-chosen
returns-clause-chosen c = rw (← c.self.view_is) (c.in_ok-found.found.keys, rw (c.turn.ensures, read c.args.v c.args.v c.ranges.v.sfits refl, c.deref.ensures.value) at c.in_ok-found.ensures.chosen)
