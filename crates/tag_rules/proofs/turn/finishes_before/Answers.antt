use Rattle.std.proofs.Common.{nat_lt, ap}
use Rattle.fq_model.specs.Keys.{HeadKeys}
use Rattle.tag_rules.proofs.Comparing.{compared, by_number}
use Rattle.tag_rules.proofs.turn.finishes_before.Goals as goal

pub returns : goal.returns
returns c = compared c.finish.result c.finish-2.result _ _ c.is_before.result (nat_lt c.a.inside.request c.b.inside.request) _ c.finish.type_inv c.finish-2.type_inv c.finish.ensures c.finish-2.ensures c.is_before.ensures (by_number c.a.inside.request c.b.inside.request _ _ (ap (λ (k : HeadKeys). k.request) c.a.view_is) (ap (λ (k : HeadKeys). k.request) c.b.view_is))
