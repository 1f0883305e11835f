use Rattle.std.proofs.Common.{sym}
use Rattle.std.proofs.lemmas.Result.{IfOk-weaker}
use Rattle.journal_text.proofs.Bodies.{IfOk-both, under_header}
use Rattle.journal_text.proofs.reading.read_draft.Goals as goal

pub returns-in-Some-version-clause-divided : goal.returns-in-Some-version-clause-divided
returns-in-Some-version-clause-divided g c =
    IfOk-weaker c.below_header.result _ _
    (λ r both. under_header g.A.Line.title c.in-Some-version.version r.0 c.args.bytes.now c.in-Some.line.now c.in-Some.below.now r.1 c.in-Some.ensures.lines
    (sym c.in-Some-version.ensures) both.1 both.0)
    (IfOk-both c.below_header.result _ _ c.below_header.ensures.divided c.below_header.ensures.version)
