-- What is spent over a run.
use Rattle.std.proofs.Common.{ℕ, ◌+◌, ◌-◌, ◌*◌, ◌≡◌, ◌≤◌, List, [], ◌∷◌, arith, refl, inl, inr}
use Rattle.std.proofs.lemmas.Nat.{mul-le}
use Rattle.worker_reserve.specs.declared.credit.Passed.{Passed}
use Rattle.worker_reserve.specs.Credit.{CreditView, after, all_earned, all_spent, counted, cap, after_passed, IsTimely, IsTimelyRun, SpendingIsBounded, IdlingIsBounded}

-- what is used at the end is what was used before, less what was earned at most, and what was spent
pub spending_from : (v : CreditView) (run : List Passed) → v.used + all_spent v run ≤ all_earned v run + (after v run).used
spending_from v [] = omega arith
spending_from v (p ∷ older) =
    let rest : v.used + all_spent v older ≤ all_earned v older + (after v older).used = spending_from v older in
    omega (arith, rest)

pub spending_is_bounded : SpendingIsBounded
spending_is_bounded v run = omega (arith, spending_from v run)

-- where workers are asked again in time, no more is used than the cap and a little of each worker
within_debt : (v : CreditView) (p : Passed) (top workers : ℕ) → p.declining ≤ workers → cap v ≡ top → v.used ≤ top + 1001000000 * workers → IsTimely v p → (after_passed v p).used ≤ top + 1001000000 * workers
within_debt v p top workers few e k (inl none) = omega (arith, none, k)
within_debt v p top workers few e k (inr timely) =
    let m : p.declining * counted v p ≤ p.declining * (p.asked_again + 1000 - v.moment) = mul-le p.declining (counted v p) p.declining (p.asked_again + 1000 - v.moment) (omega arith) (omega arith) in
    omega (arith, timely, m, few, e, k)

cap_stays : (v : CreditView) (run : List Passed) → cap (after v run) ≡ cap v
cap_stays v [] = refl
cap_stays v (p ∷ older) = cap_stays v older

debt : (v : CreditView) (run : List Passed) → v.used ≡ 0 → IsTimelyRun v run → (after v run).used ≤ cap v + 1001000000 * v.workers
debt v [] full timely = omega (arith, full)
debt v (p ∷ older) full timely = within_debt (after v older) p (cap v) v.workers timely.1 (cap_stays v older) (debt v older full timely.0) timely.2

pub idling_is_bounded : IdlingIsBounded
idling_is_bounded v run full timely = omega (arith, spending_from v run, debt v run full timely)
