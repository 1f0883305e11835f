-- Reports to the scheduler of what running requests have used.
use Rattle.std.specs.Prelude.{ℕ, ◌-◌, ◌/◌, ◌≡◌, ◌==◌, nat_lt, nat_le, Bool, ◌&&◌, min, max, is_none, MatchBool}
use Rattle.std.specs.List.{FoldsTo, range_with_len}
use Rattle.vt_fixed.specs.declared.limits.TheConstants.{GREATEST_COST}
use Rattle.fq_model.specs.declared.event.Call.TheVariants as call
use Rattle.fq_model.specs.declared.event.Reply.{Reply}
use Rattle.service_model.specs.declared.config.ServiceConfig.{ServiceConfig}
use Rattle.service_model.specs.declared.outcome.ServiceOutcome.{ServiceOutcome}
use Rattle.service_model.specs.declared.outcome.ServiceOutcome.TheVariants.{Accepted, Refused}
use Rattle.service_model.specs.declared.refusal.ServiceRefusal.TheVariants.{NotRunning}
use Rattle.service_model.specs.View.{Run, Runs, Admitted, ServiceView, IsOnWorker, ticket_on, reported, with_standing}
use Rattle.service_model.specs.Scheduling.{MakesAt}
use Rattle.service_model.specs.Rows.{IsAnswered}

-- a use is reported where it is above the charge, and above the last report by a quarter of that, and by `refresh`
abbrev pub is_due : ServiceConfig → ServiceView → Run → ℕ → Bool
is_due c v run used =
    nat_lt (max run.estimate (reported v run)) used
    && nat_le (max c.refresh (reported v run / 4)) (used - reported v run)

-- the use is reported to the scheduler of the run, which may refuse it for want of room: then it is left out
pub record ReportsDue (m : ℕ) (v : ServiceView) (run : Run) (used : ℕ) (w : ServiceView) : Type 0 where
  pub reply : Reply
  pub makes : MakesAt v run.scheduler (call.Report run.worker m run.worker used) reply w

-- the use is reported at m where it is due
abbrev pub ReportsUse : ServiceConfig → ℕ → ServiceView → Run → ℕ → ServiceView → Type 0
ReportsUse c m v run used w = MatchBool (is_due c v run used) (ReportsDue m v run used w) (w ≡ v)

-- ---- uses that workers name

-- a cost as a use: at most the greatest cost
abbrev pub use_of : ℕ → ℕ
use_of cost = min cost GREATEST_COST

-- the run after its worker has named this use
abbrev pub with_named : Run → ℕ → Run
with_named run used = record run { named = max run.named used }

-- the worker's request has used this much, which is above 0
pub record NamesUse (c : ServiceConfig) (m : ℕ) (v : ServiceView) (worker used : ℕ) (w : ServiceView) : Type 0 where
  pub ticket : ℕ
  pub q : Admitted
  pub run : Run
  pub runs : IsOnWorker v worker ticket q run
  pub reports : ReportsUse c m (with_standing v ticket q (Runs (with_named run used))) run used w

-- the answer to a worker that runs a request and names a cost of it
abbrev pub AcceptsUse : ServiceConfig → ℕ → ServiceView → ℕ → ℕ → ServiceOutcome → ServiceView → Type 0
AcceptsUse c m v worker cost outcome w =
    (outcome ≡ Accepted) × MatchBool (cost == 0) (w ≡ v) (NamesUse c m v worker (use_of cost) w)

-- the answer to used
abbrev pub AnswersUsed : ServiceConfig → ℕ → ServiceView → ℕ → ℕ → ServiceOutcome → ServiceView → Type 0
AnswersUsed c m v worker cost outcome w =
    MatchBool (is_none (ticket_on v worker))
    (IsAnswered (Refused NotRunning) v outcome w)
    (AcceptsUse c m v worker cost outcome w)

-- ---- uses by the clock

-- the request of this worker has run for so long, and its worker has named no use of it
pub record ReportsClock (c : ServiceConfig) (m : ℕ) (v : ServiceView) (worker : ℕ) (w : ServiceView) : Type 0 where
  pub ticket : ℕ
  pub q : Admitted
  pub run : Run
  pub runs : IsOnWorker v worker ticket q run
  pub reports : MatchBool (run.named == 0) (ReportsUse c m v run (use_of (m - run.taken)) w) (w ≡ v)

abbrev pub RefreshesWorker : ServiceConfig → ℕ → ServiceView → ℕ → ServiceView → Type 0
RefreshesWorker c m v worker w = MatchBool (is_none (ticket_on v worker)) (w ≡ v) (ReportsClock c m v worker w)

-- the time for which requests ran is reported, in the order of their workers; with `refresh` 0 it isn't
abbrev pub Refreshes : ServiceConfig → ℕ → ServiceView → ServiceView → Type 0
Refreshes c m v w =
    MatchBool (c.refresh == 0) (w ≡ v) (FoldsTo (RefreshesWorker c m) v (range_with_len 0 c.scheduler.workers) w)
