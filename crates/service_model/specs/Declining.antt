-- When a free worker declines its choice, and stays free for smaller requests: the rule of the reserve, with the
-- numbers of the service.
use Rattle.std.specs.Prelude.{ℕ, ◌+◌, ◌-◌, ◌*◌, ◌/◌, nat_lt, nat_le, Bool, false, min, max, List, length}
use Rattle.vt_fixed.specs.Rounding.{ceil_div}
use Rattle.fq_model.specs.declared.event.Foreseen.TheVariants as foreseen
use Rattle.fq_model.specs.declared.event.ForeseenRun.{ForeseenRun}
use Rattle.fq_model.specs.Foresee.{IsForeseen}
use Rattle.fq_model.specs.Sums.{count_below}
use Rattle.worker_reserve.specs.declared.demand.Ended.{Ended}
use Rattle.worker_reserve.specs.declared.rule.Budget.{Budget}
use Rattle.worker_reserve.specs.declared.rule.Question.{Question}
use Rattle.worker_reserve.specs.Classes.{class_of}
use Rattle.worker_reserve.specs.Credit.{CreditView, cap}
use Rattle.worker_reserve.specs.Demand.{demand}
use Rattle.worker_reserve.specs.Rule.{Declines}
use Rattle.service_model.specs.View.{Standing, Runs, ServiceView, how_many, has_any, is_open, of_slot, reported}

-- what workers may spend on staying free
abbrev pub budget_of : CreditView → Budget
budget_of credit =
    record { idle_ppm = credit.idle_ppm; workers = credit.workers; credit = cap credit - credit.used }

-- how many tenants have requests that wait or run
abbrev pub open_slots : ServiceView → ℕ
open_slots v = count_below (λ slot. has_any v (of_slot slot is_open)) (length v.slots)

-- the request runs, and is long beside this estimate: 8 times the greater of its own estimate and what was reported
-- of it is above that
abbrev pub stands_long : ServiceView → ℕ → Standing → Bool
stands_long v estimate (Runs run) = nat_lt estimate (8 * max run.estimate (reported v run))
stands_long v estimate _ = false

-- how many running requests are long beside this estimate
abbrev pub longer : ServiceView → ℕ → ℕ
longer v estimate = how_many v (λ q. stands_long v estimate q.stands)

-- what a free worker knows of its choice and of the others, where this number of workers decline already
abbrev pub question : ServiceView → ForeseenRun → ℕ → Question
question v choice declining = record {
  longer = longer v choice.estimate;
  declining = declining;
  several_tenants = nat_le 2 (open_slots v);
  is_closed = v.is_closed;
  small_is_eligible = choice.has_smaller;
}

-- a head is small beside a choice of this estimate where its own is below this number: 8 times it is below the
-- choice's
abbrev pub small_below : ℕ → ℕ
small_below estimate = ceil_div estimate 8

-- the class of the size from which on requests are not small beside this estimate
abbrev pub class_beside : ℕ → ℕ
class_beside estimate = class_of (estimate / 8)

-- the demand at m of requests that are small beside this estimate
abbrev pub smaller : List Ended → ℕ → ℕ → ℕ
smaller ends m estimate = demand ends m (class_beside estimate)

-- the worker declines its choice at m, as this number of others do already
pub record WorkerDeclines (m : ℕ) (v : ServiceView) (worker declining : ℕ) : Type 0 where
  pub choice : ForeseenRun
  pub foreseen_is : IsForeseen v.present.config v.present.history m worker (small_below choice.estimate)
      (foreseen.Run choice)
  pub declines : Declines (budget_of v.credit) (question v choice declining)
      (smaller v.reserve.ends m choice.estimate) (smaller v.reserve.visits m choice.estimate)

-- how many microseconds later this number of workers, which decline, are asked again at the latest: as long as the
-- credit lasts for all of them, but 61 at least, and 1,000 at most
abbrev pub pause : ServiceView → ℕ → ℕ
pause v declining = max 61 (min 1000 ((budget_of v.credit).credit / 1000000 / declining + 1))
