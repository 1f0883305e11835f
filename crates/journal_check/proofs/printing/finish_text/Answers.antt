use Rattle.std.proofs.Common.{◌≡◌, ◌∙◌, arith, append_assoc}
use Rattle.std.proofs.lemmas.Int.{ints}
use Rattle.std.proofs.lemmas.Result.{IfOk-weaker}
use Rattle.std.specs.Int.{w128}
use mir.Val.{to_z, of_z}
use Rattle.journal_check.proofs.printing.finish_text.Goals as goal

pub returns : goal.returns
returns c =
    let finish : to_z w128 (of_z w128 c.args.row.finish) ≡ c.args.row.finish = omega (arith, ints) in
    let key : to_z w128 (of_z w128 c.args.row.key) ≡ c.args.row.key = omega (arith, ints) in
    let word = c.eligible_word-word.ensures in
    IfOk-weaker c.format.result _ _ (λ line is. is ∙ simp (append_assoc, finish, key, word)) c.format.ensures.ok
