use Rattle.std.proofs.Common.{ap, ◌∙◌, ◌++◌, [], ◌∷◌}
use Rattle.std.specs.String.{string_eq}
use Rattle.indexmap.proofs.CallerLemmas.{insert_entry-new}
use Rattle.tenant_table.specs.Rows.{tenants_of}
use Rattle.tenant_table.proofs.Tables.{no_row, rows_push}
use Rattle.tenant_table.proofs.tenants_builder.put.Goals as goal

pub returns-clause-ok : goal.returns-clause-ok
returns-clause-ok c =
    let rows = c.args.rows.now in
    let key = c.in_ok-to_string.field-0 in
    let absent = rw (← c.in_ok-to_string.ensures.ok) at (no_row c.args.name.now rows.entries c.requires) in
    let last = insert_entry-new string_eq rows key c.args.weight absent in
    ap tenants_of (c.in_ok-insert.ensures.entries ∙ last) ∙ (rows_push rows.entries key c.args.weight ∙ ap (λ n. tenants_of rows.entries ++ (n, c.args.weight) ∷ []) c.in_ok-to_string.ensures.ok)
