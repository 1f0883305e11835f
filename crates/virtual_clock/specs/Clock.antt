-- The view of a clock in contracts, and the clock after each of its calls.
use Rattle.std.specs.Prelude.{ℕ, ◌+◌, ◌-◌, ◌≤◌, ℤ, pos, ◌+ℤ◌, ◌≤ℤ◌}
use Rattle.std.specs.Int.{int_min, int_max}
use Rattle.vt_fixed.specs.Rounding.{advance_of}
use Rattle.vt_fixed.specs.declared.limits.TheConstants.{GREATEST_MOMENT, GREATEST_ACTIVE_WEIGHT, MOST_WORKERS}
use Rattle.fq_model.specs.declared.config.Policy.{Policy}
use Rattle.fq_model.specs.declared.config.Policy.TheVariants.{TwoDfqPlus}
use Rattle.fq_model.specs.declared.limits.TheConstants.{GREATEST_VIRTUAL_TIME}

-- the number of workers, the moment that it has come to, the sum of the weights that count, virtual time, and its cap
pub record ClockView : Type 0 where
  pub workers : ℕ
  pub moment : ℕ
  pub weights : ℕ
  pub time : ℤ
  pub cap : ℤ

-- the cap of a clock: `reached` under 2dfq+, and else a number that virtual time does not come to
abbrev pub cap_for : Policy → ℕ → ℤ
cap_for TwoDfqPlus reached = pos reached
cap_for _ reached = GREATEST_VIRTUAL_TIME

-- a clock that was not moved yet
abbrev pub at_start : Policy → ℕ → ClockView
at_start policy workers =
    record { workers = workers; moment = 0; weights = 0; time = pos 0; cap = cap_for policy 0 }

-- the clock at a moment: virtual time has moved on at the rate of the weights between, but not past the cap
abbrev pub moved_to : ClockView → ℕ → ClockView
moved_to c moment = record {
  workers = c.workers;
  moment = moment;
  weights = c.weights;
  time = int_min (c.time +ℤ pos (advance_of (moment - c.moment) c.workers c.weights)) c.cap;
  cap = c.cap;
}

-- with one more weight that counts
abbrev pub entered : ClockView → ℕ → ClockView
entered c weight = record {
  workers = c.workers;
  moment = c.moment;
  weights = c.weights + weight;
  time = c.time;
  cap = c.cap;
}

-- with one weight less that counts
abbrev pub left : ClockView → ℕ → ClockView
left c weight = record {
  workers = c.workers;
  moment = c.moment;
  weights = c.weights - weight;
  time = c.time;
  cap = c.cap;
}

-- with `workers` workers from now on
abbrev pub staffed : ClockView → ℕ → ClockView
staffed c workers = record {
  workers = workers;
  moment = c.moment;
  weights = c.weights;
  time = c.time;
  cap = c.cap;
}

-- virtual time is at least the eligible key of a request, and the cap at least the finish of the request
abbrev pub lifted : ClockView → ℤ → ℤ → ClockView
lifted c key finish = record {
  workers = c.workers;
  moment = c.moment;
  weights = c.weights;
  time = int_max c.time key;
  cap = int_max c.cap finish;
}

-- its numbers are in their limits, and virtual time is at most the cap
pub record IsInRange (c : ClockView) : Type 0 where
  pub workers_positive : 1 ≤ c.workers
  pub workers_in_range : c.workers ≤ MOST_WORKERS
  pub moment_in_range : c.moment ≤ GREATEST_MOMENT
  pub weights_in_range : c.weights ≤ GREATEST_ACTIVE_WEIGHT
  pub time_low : pos 0 ≤ℤ c.time
  pub time_high : c.time ≤ℤ c.cap
  pub cap_high : c.cap ≤ℤ GREATEST_VIRTUAL_TIME
