-- The take that a desk foresees for a worker.
use Rattle.std.specs.Prelude.{ℕ, ◌≡◌, List}
use Rattle.fq_model.specs.declared.event.Foreseen.{Foreseen}
use Rattle.fq_model.specs.declared.event.Entry.{Entry}
use Rattle.fq_model.specs.Foresee.{IsForeseen}
use Rattle.fq_model.specs.History.{history_of}
use Rattle.fq_model.specs.Rules.{IsLegal}
use Rattle.history_lock.specs.Histories.{IsPrefix}
use Rattle.history_lock.specs.Passes.{PassView}
use Rattle.desk.specs.declared.floor.Crew.{Crew}
use Rattle.desk.specs.declared.asking.AskForeseen.{AskForeseen}
use Rattle.desk.specs.Staffed.{IsStaffed}

-- at P, which is legal and staffed, a take by worker i at the moment m is foreseen so
pub record FindsForeseen (crew : Crew) (P : List Entry) (m i below : ℕ) (foreseen : Foreseen) : Type 0 where
  pub legal : IsLegal crew.config (history_of P)
  pub staffed : IsStaffed crew.submitters (history_of P)
  pub is_foreseen : IsForeseen crew.config (history_of P) m i below foreseen

abbrev pub finds_foreseen : Crew → List Entry → AskForeseen → Foreseen → Type 0
finds_foreseen crew P asked foreseen = FindsForeseen crew P asked.moment asked.worker asked.below foreseen

-- a take is foreseen so at the history that the pass has then seen, which begins with all that it had seen; its own
-- entries are those that it had
pub record IsFound (crew : Crew) (old : PassView Crew) (m i below : ℕ) (foreseen : Foreseen) (new : PassView Crew)
    : Type 0 where
  pub begins : IsPrefix old.seen new.seen
  pub own : new.mine ≡ old.mine
  pub finds : FindsForeseen crew new.seen m i below foreseen
