use Rattle.std.proofs.Common.{ℕ, subst}
use Rattle.sched_state.specs.Replies.{AnswersCall}
use Rattle.sched_state.specs.Scheduler.{SchedulerView}
use Rattle.twodfq_c.specs.Answering.{AnswersHeld}
use Rattle.twodfq_c.proofs.handle.Handle.call.Goals as goal

pub returns : goal.returns
returns c =
    let reply = c.answer-reply.result in let left = c.answer-reply.new.scheduler in
    let same = c.deref_mut.ensures.value in
    let answers : AnswersCall c.in-Some.served.value c.args.call reply left = subst (λ (s : SchedulerView ℕ). AnswersCall s c.args.call reply left) same c.answer-reply.ensures in
    subst (λ o. AnswersHeld o c.args.call c.of.result c.holding.result.slot.held) c.in-Some.ensures.taken (record {
      reply = reply;
      left = left;
      numbers = c.of.ensures;
      held = c.holding.ensures;
      answers = answers;
    })
