-- Whether a history is closed, and counts of its requests.
use Rattle.std.specs.Prelude.{◌+◌, ◌-◌, ◌<◌, ◌≤◌, ◌≡◌, ◌^◌, true}
use Rattle.fq_model.specs.declared.event.Act.{Act}
use Rattle.fq_model.specs.declared.event.Act.TheVariants.{Submit, Take, Done, Close}
use Rattle.fq_model.specs.History.{History, is_closed, submits, running}
use Rattle.sched_journal.specs.declared.tally.Tally.{Tally}

pub record TallyIs (P : History) (t : Tally) : Type 0 where
  pub closed_is : t.closed ≡ is_closed P
  pub submits_are : t.submits ≡ submits P
  pub running_are : t.running ≡ running P

-- the tally with one act more
abbrev pub counted : Tally → Act → Tally
counted t (Submit request tenant kind declared label) = record t { submits = t.submits + 1 }
counted t (Take worker request estimate) = record t { running = t.running + 1 }
counted t (Done worker request cost) = record t { running = t.running - 1 }
counted t Close = record t { closed = true }
counted t _ = t

-- the act's count stays in 32 bits
abbrev pub CanCount : Tally → Act → Type 0
CanCount t (Submit request tenant kind declared label) = t.submits + 1 < 2 ^ 32
CanCount t (Take worker request estimate) = t.running + 1 < 2 ^ 32
CanCount t (Done worker request cost) = 1 ≤ t.running
CanCount t _ = Unit {0}
