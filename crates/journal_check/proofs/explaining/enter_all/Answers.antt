use Rattle.std.proofs.Common.{◌∙◌, subst, get_or}
use Rattle.fq_model.specs.declared.config.Config.{Config}
use Rattle.fq_model.specs.declared.event.Call.{Call}
use Rattle.fq_model.specs.declared.event.Entry.{Entry}
use Rattle.fq_model.specs.History.{history_of}
use Rattle.fq_model.specs.Rules.{Answers}
use Rattle.program_model.specs.Journal.{call_of}
use Rattle.journal_check.proofs.Turns.{no_entry, next_entered}
use Rattle.journal_check.proofs.explaining.enter_all.Goals as goal

pub loop-entry-preserved : goal.loop-entry-preserved
loop-entry-preserved g c =
    let C = c.args.scheduler.now.config in
    let old = c.loop-entry.scheduler in
    let new = c.answer.new.scheduler in
    let given : Entry = get_or c.args.entries.now c.loop-entry.entry-index no_entry in
    let made : Answers old.config (history_of old.past) (call_of given) c.answer.result (history_of new.past) =
    subst (λ (a : Call). Answers old.config (history_of old.past) a c.answer.result (history_of new.past)) c.call_of.ensures c.answer.ensures.answers in
    let answers : Answers C (history_of old.past) (call_of given) c.answer.result (history_of new.past) =
    subst (λ (B : Config). Answers B (history_of old.past) (call_of given) c.answer.result (history_of new.past)) c.loop-entry.invariant.config_is made in
    record {
      config_is = c.answer.ensures.config_is ∙ c.loop-entry.invariant.config_is;
      past_is = next_entered C c.args.entries.now old.past new.past c.loop-entry.entry-index no_entry c.answer.result c.requires.limits c.requires.legal c.loop-entry-test.true c.loop-entry.invariant.past_is answers;
    }
