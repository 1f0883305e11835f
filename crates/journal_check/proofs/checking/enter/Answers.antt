use Rattle.std.proofs.Common.{subst}
use Rattle.fq_model.specs.declared.event.Call.{Call}
use Rattle.fq_model.specs.History.{history_of}
use Rattle.fq_model.specs.Rules.{Answers}
use Rattle.journal_check.proofs.Fitting.{call_enters}
use Rattle.journal_check.proofs.checking.enter.Goals as goal

pub returns-clause-past : goal.returns-clause-past
returns-clause-past g c =
    let old = c.args.scheduler.now in
    let new = c.answer.new.scheduler in
    let answers = subst (λ (a : Call). Answers old.config (history_of old.past) a c.answer.result (history_of new.past)) c.call_of.ensures c.answer.ensures.answers in
    call_enters old.config (history_of old.past) (history_of new.past) c.args.entry c.answer.result c.requires.limits c.requires.legal answers
