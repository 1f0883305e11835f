use Rattle.std.proofs.Common.{◌∙◌}
use Rattle.fq_model.specs.Spelling.{policy_of}
use Rattle.journal_text.proofs.Names.{named, no_policy}
use Rattle.journal_text.proofs.named.policy.Goals as goal

pub returns-in-Ok : goal.returns-in-Ok
returns-in-Ok c =
    let read = rw c.in-Ok.ensures.cases.0 at c.parse.ensures.value in
    c.ok.ensures.value ∙ named (policy_of c.args.word.now) _ c.parse.result read

pub returns-in-Err : goal.returns-in-Err
returns-in-Err c = no_policy c.args.word.now c.in-Err.ensures.cases.0
