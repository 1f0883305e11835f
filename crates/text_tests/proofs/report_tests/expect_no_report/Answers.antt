use Rattle.std.proofs.Common.{sym, subst}
use Rattle.fq_model.specs.History.{history_of}
use Rattle.fq_model.specs.Rules.{IsLegal}
use Rattle.text_tests.proofs.report_tests.expect_no_report.Goals as goal

pub report-requires-clause-legal : goal.report-requires-clause-legal
report-requires-clause-legal g c = subst (λ C. IsLegal C (history_of c.args.past.now)) (sym c.two_tenants-config.ensures) c.requires.legal
