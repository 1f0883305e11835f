use Rattle.std.proofs.Common.{◌≡◌, length}
use Rattle.program_model.specs.Script.{call_of_words}
use Rattle.journal_text.specs.Body.{said_below}
use Rattle.command_texts.proofs.Serving.{IsPartAnswered}
use Rattle.command_texts.proofs.serve.answer_all.Given as goal

abbrev pub invariant-calls : goal.invariant-calls
invariant-calls g l = record {
  part : IsPartAnswered l.fn.scheduler.config l.fn.tells (said_below call_of_words l.fn.body) (said_below call_of_words l.body) l.text.items l.scheduler.past;
  config_is : l.scheduler.config ≡ l.fn.scheduler.config;
}

abbrev pub decreases-calls : goal.decreases-calls
decreases-calls g l = length l.body.lines
