-- How many workers small requests kept busy lately.
use Rattle.std.specs.Prelude.{ℕ, zero, suc, ◌+◌, ◌-◌, ◌*◌, ◌/◌, ◌%◌, ◌==◌, ◌≤◌, List, All, sum_by, min, if◌then◌else◌}
use Rattle.worker_reserve.specs.declared.demand.Ended.{Ended}

-- the window of a moment: they are numbered from 1, and each is 131,072 microseconds long
abbrev pub window_of : ℕ → ℕ
window_of moment = moment / 131072 + 1

-- the time for which a request ran, where it ended in this window and is of this class
abbrev pub ran_of : ℕ → ℕ → Ended → ℕ
ran_of window class e = if window_of e.moment == window then (if e.class == class then e.ran else 0) else 0

abbrev pub ran_in : List Ended → ℕ → ℕ → ℕ
ran_in past window class = sum_by (ran_of window class) past

-- What the ends of this class say at a moment: the time of the present window counts whole, and that of the window
-- before by the part of it that the last 131,072 microseconds still hold.
abbrev pub class_demand : List Ended → ℕ → ℕ → ℕ
class_demand past moment class =
    ran_in past (window_of moment - 1) class * (131072 - moment % 131072)
    + ran_in past (window_of moment) class * 131072

-- the demand of all classes below one, in workers times the square of 131,072
unfoldable pub demand : List Ended → ℕ → ℕ → ℕ
demand past moment zero = 0
demand past moment (suc class) = demand past moment class + class_demand past moment class

-- a worker, in these units
abbrev pub worker_unit : ℕ
worker_unit = 17179869184

-- a demand, as far as the rule can tell: more than 4,096 workers are as good as these
abbrev pub lowered : ℕ → ℕ
lowered n = min n (4096 * worker_unit)

-- all of this is over by the moment
abbrev pub IsPast : List Ended → ℕ → Type 0
IsPast past moment = All (λ e. e.moment ≤ moment) past
