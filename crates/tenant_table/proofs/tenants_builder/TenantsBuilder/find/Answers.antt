use Rattle.std.proofs.Common.{sym, ◌∙◌}
use Rattle.tenant_table.specs.Names.{names_of}
use Rattle.tenant_table.specs.Rows.{tenants_of}
use Rattle.tenant_table.proofs.Tables.{number_rows, found, absent}
use Rattle.tenant_table.proofs.tenants_builder.TenantsBuilder.find.Goals as goal

pub returns-in_err-found-clause-number : goal.returns-in_err-found-clause-number
returns-in_err-found-clause-number c = rw (c.from_residual.ensures, ← c.self.view_is) (c.in_err-found.ensures.index ∙ sym (number_rows c.args.name.now c.self.inside.rows.entries))

pub returns-in_err-found-clause-absent : goal.returns-in_err-found-clause-absent
returns-in_err-found-clause-absent c = rw (c.from_residual.ensures, ← c.self.view_is) (absent (names_of (tenants_of c.self.inside.rows.entries)) c.args.name.now (number_rows c.args.name.now c.self.inside.rows.entries ∙ sym c.in_err-found.ensures.index))

pub returns-clause-number : goal.returns-clause-number
returns-clause-number c = rw (← c.self.view_is) (c.in_ok-found.ensures.index ∙ sym (number_rows c.args.name.now c.self.inside.rows.entries))

pub returns-clause-found : goal.returns-clause-found
returns-clause-found c = rw (← c.self.view_is) (found (names_of (tenants_of c.self.inside.rows.entries)) c.args.name.now c.in_ok-found.found (number_rows c.args.name.now c.self.inside.rows.entries ∙ sym c.in_ok-found.ensures.index))
