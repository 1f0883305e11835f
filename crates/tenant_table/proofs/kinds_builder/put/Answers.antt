use Rattle.std.proofs.Common.{ap, ◌∙◌, ◌++◌, [], ◌∷◌, cond}
use Rattle.tenant_table.specs.Rows.{kinds_of}
use Rattle.tenant_table.proofs.Tables.{no_key, keys_push}
use Rattle.tenant_table.proofs.kinds_builder.put.Goals as goal

pub returns-clause-ok : goal.returns-clause-ok
returns-clause-ok c =
    let keys = c.args.names.now.keys in
    let key = c.in_ok-to_string.field-0 in
    let absent = rw (← c.in_ok-to_string.ensures.ok) at (no_key c.args.name.now keys c.requires) in
    let last = ap (λ b. cond b keys (keys ++ key ∷ [])) absent in
    ap kinds_of (c.in_ok-insert.ensures.keys ∙ last) ∙ (keys_push keys key ∙ ap (λ n. kinds_of keys ++ n ∷ []) c.in_ok-to_string.ensures.ok)
