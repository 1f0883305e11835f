-- The scheduler after the call of an entry whose verdict is bad.
use Rattle.std.specs.Prelude.{ℕ, ◌≡◌, Option}
use Rattle.fq_model.specs.declared.event.Entry.{Entry}
use Rattle.fq_model.specs.declared.event.Reply.{Reply}
use Rattle.fq_model.specs.History.{history_of}
use Rattle.program_model.specs.Journal.{call_of}
use Rattle.program_model.specs.declared.verdict.Verdict.{Verdict}
use Rattle.program_model.specs.declared.verdict.Verdict.TheVariants.{Legal, Bad}
use Rattle.program_model.specs.Verdicts.{with_gained}
use Rattle.sched_state.specs.Scheduler.{SchedulerView}
use Rattle.sched_state.specs.Replies.{AnswersCall}

-- it answered the call of this entry so, and gained the entry that is wanted in its place, or none
pub record AnswersInstead
    (old : SchedulerView ℕ) (given : Entry) (reply : Reply) (wanted : Option Entry)
    (new : SchedulerView ℕ) : Type 0 where
  pub answers : AnswersCall old (call_of given) reply new
  pub gained : history_of new.past ≡ with_gained wanted (history_of old.past)

-- where this verdict on an entry is bad, the scheduler made the entry's call alone, with the verdict's reply and entry
abbrev pub IsAsAnswered : SchedulerView ℕ → Entry → Verdict → SchedulerView ℕ → Type 0
IsAsAnswered old given Legal new = Unit {0}
IsAsAnswered old given (Bad place reply wanted) new = AnswersInstead old given reply wanted new
