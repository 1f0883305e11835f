use Rattle.std.proofs.Common.{sym}
use Rattle.std.proofs.lemmas.Result.{IfOk-weaker}
use Rattle.journal_text.proofs.Bodies.{under_config}
use Rattle.journal_text.proofs.reading.below_header.Goals as goal

pub returns-in-Ok-clause-divided : goal.returns-in-Ok-clause-divided
returns-in-Ok-clause-divided g c =
    IfOk-weaker c.with_lines.result _ _
    (λ r divided. under_config c.args.version c.in-Ok.draft r.0 c.args.text.now c.in-Some.line.now c.in-Some.below.now r.1 c.in-Some.ensures.lines (sym (rw c.of.ensures at c.in-Ok.ensures)) divided)
    c.with_lines.ensures.divided
