use Rattle.std.proofs.Common.{ap, ◌∙◌}
use Rattle.fq_model.specs.Keys.{Turn, eligible_key}
use Rattle.tag_rules.proofs.Comparing.{read}
use Rattle.tag_rules.proofs.turn.Turn.eligible_key.Goals as goal

pub returns : goal.returns
returns c = read c.eligible_key.result _ c.eligible_key.type_inv (c.eligible_key.ensures ∙ ap (λ (at : Turn). eligible_key at c.args.keys) c.self.view_is)
