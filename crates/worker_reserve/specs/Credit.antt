-- The credit of workers for staying free.
use Rattle.std.specs.Prelude.{ℕ, ◌≡◌, ◌⊎◌, ◌≤◌, ◌+◌, ◌-◌, ◌*◌, min, List, [], ◌∷◌}
use Rattle.worker_reserve.specs.declared.credit.Passed.{Passed}
use Rattle.worker_reserve.specs.declared.rule.Budget.{Budget}

-- The view of a credit in contracts: the part of all time that may be idle, in millionths; the number of workers; how
-- far the credit is below the cap, in millionths of a microsecond; and the last moment. It may be below by more than
-- the cap: that is a debt.
pub record CreditView : Type 0 where
  pub idle_ppm : ℕ
  pub workers : ℕ
  pub used : ℕ
  pub moment : ℕ

abbrev pub cap : CreditView → ℕ
cap v = v.idle_ppm * 1000000 * v.workers

-- what the rule reads
abbrev pub budget_of : CreditView → Budget
budget_of v = record { idle_ppm = v.idle_ppm; workers = v.workers; credit = cap v - v.used }

-- a part of the time for which requests ran comes back
abbrev pub earned : CreditView → Passed → ℕ
earned v p = v.idle_ppm * (p.running * (p.moment - v.moment))

-- the time for which workers declined counts no further than a millisecond past the moment to ask them again
abbrev pub counted : CreditView → Passed → ℕ
counted v p = min p.moment (p.asked_again + 1000) - v.moment

abbrev pub spent : CreditView → Passed → ℕ
spent v p = 1000000 * (p.declining * counted v p)

-- the credit comes back up to the cap, before what was spent goes off
abbrev pub after_passed : CreditView → Passed → CreditView
after_passed v p = record v { used = v.used - earned v p + spent v p; moment = p.moment }

-- another number of workers changes the cap, and lowers the credit to at most the new cap
abbrev pub with_workers : CreditView → ℕ → CreditView
with_workers v n = record v { workers = n; used = v.idle_ppm * 1000000 * n + v.used - cap v }

-- the numbers are in their limits
pub record IsKept (v : CreditView) : Type 0 where
  pub idle : v.idle_ppm ≤ 1000000
  pub workers : v.workers ≤ 4096
  pub moment : v.moment ≤ 1000000000000000
  pub used : v.used ≤ cap v + 4096000000 * v.moment

-- over a run, of which the newest part is the first: the credit at its end, and all that was earned and spent
abbrev pub after : CreditView → List Passed → CreditView
after v [] = v
after v (p ∷ older) = after_passed (after v older) p

abbrev pub all_earned : CreditView → List Passed → ℕ
all_earned v [] = 0
all_earned v (p ∷ older) = all_earned v older + earned (after v older) p

abbrev pub all_spent : CreditView → List Passed → ℕ
all_spent v [] = 0
all_spent v (p ∷ older) = all_spent v older + spent (after v older) p

-- all that workers spend by declining is at most what requests earned while they ran, and what is used of the credit at
-- the end: so beyond the idle part of all busy time it is the cap, and the debt where there is one
abbrev pub SpendingIsBounded : Type 0
SpendingIsBounded = (v : CreditView) (run : List Passed) → all_spent v run ≤ all_earned v run + (after v run).used

-- What declines is asked again in time: up to a millisecond past that moment no more is spent than is there, and a
-- millisecond and a microsecond of each worker that declines. So it is where the pause is that of the credit.
abbrev pub IsTimely : CreditView → Passed → Type 0
IsTimely v p = (spent v p ≡ 0)
    ⊎ (v.used + 1000000 * (p.declining * (p.asked_again + 1000 - v.moment)) ≤ cap v + 1001000000 * p.declining)

abbrev pub IsTimelyRun : CreditView → List Passed → Type 0
IsTimelyRun v [] = Unit
IsTimelyRun v (p ∷ older) = IsTimelyRun v older × (p.declining ≤ v.workers) × IsTimely (after v older) p

-- from a full credit on, where workers are asked again in time, what they spend by declining is at most the idle part
-- of all busy time, the cap, and a millisecond and a microsecond of each worker
abbrev pub IdlingIsBounded : Type 0
IdlingIsBounded = (v : CreditView) (run : List Passed) → v.used ≡ 0 → IsTimelyRun v run
    → all_spent v run ≤ all_earned v run + cap v + 1001000000 * v.workers
