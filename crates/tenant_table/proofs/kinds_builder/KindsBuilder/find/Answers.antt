use Rattle.std.proofs.Common.{sym, ◌∙◌}
use Rattle.tenant_table.specs.Rows.{kinds_of}
use Rattle.tenant_table.proofs.Tables.{number_kinds, found, absent}
use Rattle.tenant_table.proofs.kinds_builder.KindsBuilder.find.Goals as goal

pub returns-in_err-found-clause-number : goal.returns-in_err-found-clause-number
returns-in_err-found-clause-number c = rw (c.from_residual.ensures, ← c.self.view_is) (c.in_err-found.ensures.index ∙ sym (number_kinds c.args.name.now c.self.inside.names.keys))

pub returns-in_err-found-clause-absent : goal.returns-in_err-found-clause-absent
returns-in_err-found-clause-absent c = rw (c.from_residual.ensures, ← c.self.view_is) (absent (kinds_of c.self.inside.names.keys) c.args.name.now (number_kinds c.args.name.now c.self.inside.names.keys ∙ sym c.in_err-found.ensures.index))

pub returns-clause-number : goal.returns-clause-number
returns-clause-number c = rw (← c.self.view_is) (c.in_ok-found.ensures.index ∙ sym (number_kinds c.args.name.now c.self.inside.names.keys))

pub returns-clause-found : goal.returns-clause-found
returns-clause-found c = rw (← c.self.view_is) (found (kinds_of c.self.inside.names.keys) c.args.name.now c.in_ok-found.found (number_kinds c.args.name.now c.self.inside.names.keys ∙ sym c.in_ok-found.ensures.index))
