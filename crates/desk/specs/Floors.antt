-- The view of a floor, and its invariant.
use Rattle.std.specs.Prelude.{ℕ, refl, Option}
use Rattle.std.specs.Coded.{Coded, code_by, coded×, coded_option, coded_ℕ}
use Rattle.fq_model.specs.declared.config.Config.{Config}
use Rattle.fq_model.specs.Limits.{InLimits}
use Rattle.fq_model.specs.History.{history_of}
use Rattle.fq_model.specs.Rules.{IsLegal}
use Rattle.sched_state.specs.Scheduler as scheduler
use Rattle.sched_state.specs.Scheduler.{SchedulerView, scheduler_code}
use Rattle.status_board.specs.Boards.{BoardView}
use Rattle.desk.specs.declared.floor.Crew.{Crew}
use Rattle.desk.specs.Shown.{board_code}
use Rattle.desk.specs.Staffed.{IsStaffed}

-- a scheduler, how many submitters it has, and the board that shows its past, if there is one
pub record FloorView (J : Type 0) : Type 0 where
  pub scheduler : SchedulerView J
  pub submitters : ℕ
  pub board : Option BoardView

-- as the tuple of its fields
abbrev pub floor_code : {J : Type 0} → Coded J → Coded (FloorView J)
floor_code {J} c =
    code_by (SchedulerView J × (ℕ × Option BoardView))
    (coded× (scheduler_code c) (coded× coded_ℕ (coded_option board_code)))
    (λ f. (f.scheduler, (f.submitters, f.board)))
    (λ p. record { scheduler = p.0; submitters = p.1.0; board = p.1.1 })
    (λ _. refl)

-- the crew that a desk is opened for: its configuration, its submitters, and the board that shows its past, if any
abbrev pub crew_for : Config → ℕ → Option BoardView → Crew
crew_for config submitters board = record { config = config; submitters = submitters; board = board }

-- the crew of a floor, which no call changes
abbrev pub crew_of : {J : Type 0} → FloorView J → Crew
crew_of f = crew_for f.scheduler.config f.submitters f.board

-- a floor with no past
abbrev pub opened : {J : Type 0} → Config → ℕ → Option BoardView → FloorView J
opened config submitters board =
    record { scheduler = scheduler.opened config; submitters = submitters; board = board }

-- its past is legal, and each entry of it is made by the caller that may make it
pub record KeepsFloor {J : Type 0} (scheduler : SchedulerView J) (submitters : ℕ) : Type 0 where
  pub limits : InLimits scheduler.config
  pub legal : IsLegal scheduler.config (history_of scheduler.past)
  pub staffed : IsStaffed submitters (history_of scheduler.past)
