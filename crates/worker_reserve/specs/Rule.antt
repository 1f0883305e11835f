-- When a free worker declines what the policy has for it.
use Rattle.std.specs.Prelude.{ℕ, ◌≡◌, ◌+◌, ◌-◌, ◌*◌, ◌/◌, ◌<◌, ◌≤◌, ◌⊎◌, min, max, true, false}
use Rattle.worker_reserve.specs.Demand.{worker_unit}
use Rattle.worker_reserve.specs.declared.rule.Budget.{Budget}
use Rattle.worker_reserve.specs.declared.rule.Question.{Question}

-- the most credit that workers have: a second of each, by the part of time that may be idle
abbrev pub cap_of : Budget → ℕ
cap_of b = b.idle_ppm * 1000000 * b.workers

-- Declining is open: two tenants ask for service, no close is under way, and the credit is for one worker more than
-- those that decline already, 61 microseconds for each: no worker declines for less, as it sleeps so long at least.
pub record IsOpen (b : Budget) (q : Question) : Type 0 where
  pub several : q.several_tenants ≡ true
  pub not_closed : q.is_closed ≡ false
  pub credit : 61000000 * (q.declining + 1) < b.credit

-- less than a worker can't be kept free, so a whole one must be worth its part of the time: n is the demand of smaller
-- requests, in workers times the unit
abbrev pub IsWorth : Budget → ℕ → Type 0
IsWorth b n = (worker_unit ≤ n) ⊎ (1000000 * (worker_unit - n) ≤ 4 * b.idle_ppm * b.workers * worker_unit)

-- after the take fewer workers would be left to smaller requests than these keep busy, and up to one more or one less
-- by the credit, beside the requests that run and that they would wait for
abbrev pub IsShort : Budget → ℕ → ℕ → Type 0
IsShort b longer n = (b.workers - longer) * worker_unit * cap_of b < n * cap_of b + 2 * b.credit * worker_unit

-- A free worker declines its choice: v is the part of the demand that is of visitors, so that who always has more
-- waiting gains nothing by a free worker. A small head that is eligible and not the choice is one that the choice is
-- ahead of by its share.
pub record Declines (b : Budget) (q : Question) (n v : ℕ) : Type 0 where
  pub is_open : IsOpen b q
  pub visited : worker_unit ≤ 100 * v
  pub worth : IsWorth b n
  pub short : IsShort b q.longer n
  pub none_small : q.small_is_eligible ≡ false

-- so many microseconds after workers declined they are asked again at the latest: the credit of each, and a microsecond
abbrev pub pause_of : Budget → ℕ → ℕ
pause_of b declining = max 61 (min 1000 (b.credit / 1000000 / declining + 1))

-- the numbers of a budget are in their limits
pub record IsInRange (b : Budget) : Type 0 where
  pub idle : b.idle_ppm ≤ 1000000
  pub workers : b.workers ≤ 4096
