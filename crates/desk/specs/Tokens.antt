-- The invariants of tokens, and the results of their calls.
use Rattle.std.specs.Prelude.{ℕ, ◌+◌, ◌<◌, ◌≡◌, List, Option, Some, None}
use Rattle.fq_model.specs.declared.event.Call.{Call}
use Rattle.fq_model.specs.declared.event.Reply.{Reply}
use Rattle.fq_model.specs.declared.event.Entry.{Entry}
use Rattle.fq_model.specs.History.{history_of}
use Rattle.fq_model.specs.Outcome.{own_entries}
use Rattle.fq_model.specs.Rules.{IsLegal, Answers}
use Rattle.history_lock.specs.Histories.{IsPrefix, Gains}
use Rattle.history_lock.specs.Passes.{LockView, PassView, IsOf}
use Rattle.desk.specs.declared.floor.Crew.{Crew}
use Rattle.desk.specs.Staffed.{IsStaffed}

-- how many submitters its desk has
abbrev pub submitters_of : Option Crew → ℕ
submitters_of None = 0
submitters_of (Some crew) = crew.submitters

-- how many workers its desk was opened with
abbrev pub workers_of : Option Crew → ℕ
workers_of None = 0
workers_of (Some crew) = crew.config.workers

-- it is the pass of this worker of its desk, and its own entries are those in the history that it has seen
pub record IsOfWorker (pass : PassView Crew) (worker : ℕ) : Type 0 where
  pub own : pass.mine ≡ own_entries pass.seen pass.number
  pub numbered : pass.number ≡ submitters_of pass.frame + worker
  pub known : worker < workers_of pass.frame

-- it is the pass of the same caller of this lock, and the passes that it has made and ended stay
pub record Stays (lock : LockView Crew) (old new : PassView Crew) : Type 0 where
  pub own : IsOf lock new
  pub number : new.number ≡ old.number
  pub made : new.made ≡ old.made
  pub ended : new.ended ≡ old.ended

-- The call is answered so at one history P, which begins with all that the pass had seen; the pass has then seen the
-- history after the call, and its own entries have gained the new entry, if there is one
pub record IsAnswered
    (crew : Crew) (old : PassView Crew) (c : Call) (reply : Reply) (new : PassView Crew) : Type 0 where
  pub P : List Entry
  pub begins : IsPrefix old.seen P
  pub own : own_entries P old.number ≡ old.mine
  pub legal : IsLegal crew.config (history_of P)
  pub staffed : IsStaffed crew.submitters (history_of P)
  pub answers : Answers crew.config (history_of P) c reply (history_of new.seen)
  pub gains : Gains old.number P new.seen old.mine new.mine
