-- The moment of a call, and what passes up to it: the credit of workers for staying free counts at each call, whether
-- it is refused or not.
use Rattle.std.specs.Prelude.{ℕ, ◌-◌, min, max}
use Rattle.vt_fixed.specs.declared.limits.TheConstants.{GREATEST_MOMENT}
use Rattle.worker_reserve.specs.declared.credit.Passed.{Passed}
use Rattle.worker_reserve.specs.Credit.{after_passed}
use Rattle.service_model.specs.View.{ServiceView, running_count, workers_now}

-- the moment of the last call, or 0
abbrev pub last_moment : ServiceView → ℕ
last_moment v = v.credit.moment

-- the moment at which a call that names m takes effect: one before the last is the last, and none is above the
-- greatest
abbrev pub effective_moment : ServiceView → ℕ → ℕ
effective_moment v m = min (max m (last_moment v)) GREATEST_MOMENT

-- how many workers decline still: those that declined at the last next, but no more than are free
abbrev pub still_declining : ServiceView → ℕ
still_declining v = min v.declining (workers_now v - running_count v)

-- what passed since the last call, up to m
abbrev pub passed : ServiceView → ℕ → Passed
passed v m = record {
  moment = m;
  running = running_count v;
  declining = still_declining v;
  asked_again = v.asked_again;
}

-- the service at m, just before a call
abbrev pub at_moment : ServiceView → ℕ → ServiceView
at_moment v m = record v { credit = after_passed v.credit (passed v m) }
