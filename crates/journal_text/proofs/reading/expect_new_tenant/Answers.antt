use Rattle.std.proofs.Common.{◌∙◌, sym}
use Rattle.tenant_table.specs.Names.{names_of}
use Rattle.journal_text.proofs.Names.{told_twice, told_first}
use Rattle.journal_text.proofs.reading.expect_new_tenant.Goals as goal

pub returns-in-Some-clause-given : goal.returns-in-Some-clause-given
returns-in-Some-clause-given c = told_twice (names_of c.args.tenants.now) c.args.name.now _ (sym c.find.ensures.number ∙ c.in-Some.is)

pub returns-in-None-clause-given : goal.returns-in-None-clause-given
returns-in-None-clause-given c = told_first (names_of c.args.tenants.now) c.args.name.now (sym c.find.ensures.number ∙ c.in-None.is)
