use Rattle.tag_rules.proofs.Comparing.{compared}
use Rattle.tag_rules.proofs.turn.Turn.eligible_before.Goals as goal

pub returns : goal.returns
returns c = compared c.eligible_key.result c.eligible_key-2.result _ _ c.is_before.result c.finishes_before.result _ c.eligible_key.type_inv c.eligible_key-2.type_inv c.eligible_key.ensures c.eligible_key-2.ensures c.is_before.ensures c.finishes_before.ensures
