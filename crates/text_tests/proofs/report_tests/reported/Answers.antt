use Rattle.std.proofs.Common.{sym, subst, ap, length, ◌∙◌}
use Rattle.fq_laws.proofs.Lists.{list_length}
use Rattle.fq_model.specs.History.{history_of}
use Rattle.fq_model.specs.Rules.{IsLegal}
use Rattle.text_tests.proofs.report_tests.reported.Goals as goal

pub report-told-requires-clause-legal : goal.report-told-requires-clause-legal
report-told-requires-clause-legal g c = subst (λ C. IsLegal C (history_of c.args.past.now)) (sym c.two_tenants-config.ensures) c.requires.legal

pub returns : goal.returns
returns g c = ap (λ r. length r.rows) c.in-Ok.ensures.report ∙ list_length _ (length c.two_tenants-config.result.weights) ∙ ap (λ C. length C.weights) c.two_tenants-config.ensures
