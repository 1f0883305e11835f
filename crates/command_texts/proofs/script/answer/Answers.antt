use Rattle.command_texts.proofs.Serving.{head_stop}
use Rattle.command_texts.proofs.script.answer.Goals as goal

pub returns-in-Ok : goal.returns-in-Ok
returns-in-Ok g c = c.opened.ensures c.args.input.now c.in-Ok.ensures.ok

pub returns-in-Err : goal.returns-in-Err
returns-in-Err g c = head_stop c.args.what c.args.input.now c.in-Err.fault c.document_stop.result c.in-Err.ensures.fault c.document_stop.ensures
