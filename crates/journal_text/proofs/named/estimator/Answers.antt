use Rattle.std.proofs.Common.{◌∙◌}
use Rattle.fq_model.specs.Spelling.{estimator_of}
use Rattle.journal_text.proofs.Names.{named, no_estimator}
use Rattle.journal_text.proofs.named.estimator.Goals as goal

pub returns-in-Ok : goal.returns-in-Ok
returns-in-Ok c =
    let read = rw c.in-Ok.ensures.cases.0 at c.parse.ensures.value in
    c.ok.ensures.value ∙ named (estimator_of c.args.word.now) _ c.parse.result read

pub returns-in-Err : goal.returns-in-Err
returns-in-Err c = no_estimator c.args.word.now c.in-Err.ensures.cases.0
