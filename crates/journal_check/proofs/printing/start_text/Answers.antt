use Rattle.std.proofs.Common.{◌≡◌, ◌∙◌, [], arith, sym, get_or, append_assoc}
use Rattle.std.proofs.lemmas.Int.{ints}
use Rattle.std.proofs.lemmas.Option.{get_or_from_slice_get}
use Rattle.std.proofs.lemmas.Result.{IfOk-weaker}
use Rattle.std.specs.Int.{w128}
use mir.Val.{to_z, of_z}
use Rattle.tenant_table.specs.Names.{names_of}
use Rattle.journal_check.proofs.printing.start_text.Goals as goal

pub returns : goal.returns
returns c =
    let name : get_or (names_of c.args.tenants.now) c.args.row.tenant [] ≡ c.name-name.result.now = get_or_from_slice_get (names_of c.args.tenants.now) c.args.row.tenant c.name-name.result.now [] c.name-name.ensures.value in
    let start : to_z w128 (of_z w128 c.args.row.start) ≡ c.args.row.start = omega (arith, ints) in
    IfOk-weaker c.format.result _ _ (λ line is. is ∙ simp (append_assoc, start, sym name)) c.format.ensures.ok
