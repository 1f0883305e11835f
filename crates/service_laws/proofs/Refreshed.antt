-- Reports change nothing but the schedulers.
use Rattle.std.proofs.Common.{ℕ, ◌≡◌, ◌∙◌, ◌-◌, List, [], ◌∷◌, refl, sym, ap}
use Rattle.std.specs.Prelude.{◌==◌, is_none}
use Rattle.std.specs.List.{FoldsTo, range_with_len}
use Rattle.fq_model.specs.declared.event.Call.{Call}
use Rattle.fq_model.specs.declared.event.Reply.{Reply}
use Rattle.service_model.specs.declared.config.ServiceConfig.{ServiceConfig}
use Rattle.service_model.specs.View.{Run, ServiceView, ticket_on}
use Rattle.service_model.specs.Scheduling.{MakesAt, MakesNow, MakesBefore}
use Rattle.service_model.specs.Reports.{ReportsUse, RefreshesWorker, Refreshes, is_due, use_of}
use Rattle.service_laws.proofs.Lists.{either}

-- both services have the same requests, which stand alike, and the same slots
pub record SameRequests (v w : ServiceView) : Type 0 where
  pub admitted : w.admitted ≡ v.admitted
  pub slots : w.slots ≡ v.slots

-- a service that differs elsewhere
pub same_as : (v u w : ServiceView) → SameRequests v u → w ≡ u → SameRequests v w
same_as v u w same e = record {
  admitted = ap (λ (x : ServiceView). x.admitted) e ∙ same.admitted;
  slots = ap (λ (x : ServiceView). x.slots) e ∙ same.slots;
}

pub itself : (v : ServiceView) → SameRequests v v
itself v = record { admitted = refl; slots = refl }

pub made_now : (v : ServiceView) (asked : Call) (r : Reply) (w : ServiceView) → MakesNow v asked r w → SameRequests v w
made_now v asked r w x = same_as v (record v { present = x.next }) w (record { admitted = refl; slots = refl }) x.after

pub made_before : (v : ServiceView) (asked : Call) (r : Reply) (w : ServiceView) → MakesBefore v asked r w
    → SameRequests v w
made_before v asked r w x = same_as v (record v { former = x.next }) w (record { admitted = refl; slots = refl }) x.after

-- what holds of a service and itself, of calls on its schedulers, and of one such after another
pub record IsMaking (R : ServiceView → ServiceView → Type 0) : Type 0 where
  pub joins : (v u w : ServiceView) → R v u → R u w → R v w
  pub equal : (v w : ServiceView) → w ≡ v → R v w
  pub now : (v : ServiceView) (asked : Call) (r : Reply) (w : ServiceView) → MakesNow v asked r w → R v w
  pub before : (v : ServiceView) (asked : Call) (r : Reply) (w : ServiceView) → MakesBefore v asked r w → R v w

module _ (R : ServiceView → ServiceView → Type 0) (k : IsMaking R) where
  pub made_at : (v : ServiceView) (scheduler : ℕ) (asked : Call) (r : Reply) (w : ServiceView)
      → MakesAt v scheduler asked r w → R v w
  made_at v scheduler asked r w =
      either (scheduler == v.rolls) (MakesNow v asked r w) (MakesBefore v asked r w) (R v w)
      (λ _ x. k.now v asked r w x)
      (λ _ x. k.before v asked r w x)

  pub reported : (c : ServiceConfig) (m : ℕ) (v : ServiceView) (run : Run) (used : ℕ) (w : ServiceView)
      → ReportsUse c m v run used w → R v w
  reported c m v run used w =
      either (is_due c v run used) _ _ (R v w)
      (λ _ x. made_at v run.scheduler _ x.reply w x.makes)
      (λ _ x. k.equal v w x)

  refreshed_one : (c : ServiceConfig) (m : ℕ) (v : ServiceView) (worker : ℕ) (w : ServiceView)
      → RefreshesWorker c m v worker w → R v w
  refreshed_one c m v worker w =
      either (is_none (ticket_on v worker)) _ _ (R v w)
      (λ _ x. k.equal v w x)
      (λ _ x. either (x.run.named == 0) _ _ (R v w)
      (λ _ y. reported c m v x.run (use_of (m - x.run.taken)) w y)
      (λ _ y. k.equal v w y)
      x.reports)

  refreshed_all : (c : ServiceConfig) (m : ℕ) (v : ServiceView) (workers : List ℕ) (w : ServiceView)
      → FoldsTo (RefreshesWorker c m) v workers w → R v w
  refreshed_all c m v [] w x = k.equal v w (sym x)
  refreshed_all c m v (worker ∷ workers) w x =
      k.joins v x.0 w (refreshed_one c m v worker x.0 x.1) (refreshed_all c m x.0 workers w x.2)

  pub refreshed : (c : ServiceConfig) (m : ℕ) (v w : ServiceView) → Refreshes c m v w → R v w
  refreshed c m v w =
      either (c.refresh == 0) _ _ (R v w)
      (λ _ x. k.equal v w x)
      (λ _ x. refreshed_all c m v (range_with_len 0 c.scheduler.workers) w x)

pub requests_stay : IsMaking SameRequests
requests_stay = record {
  joins = λ v u w a b. record { admitted = b.admitted ∙ a.admitted; slots = b.slots ∙ a.slots };
  equal = λ v w e. same_as v v w (itself v) e;
  now = made_now;
  before = made_before;
}
