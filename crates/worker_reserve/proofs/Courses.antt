-- What is spent over a course of a credit.
use Rattle.std.proofs.Common.{ℕ, zero, suc, ◌+◌, ◌-◌, ◌*◌, ◌/◌, ◌≡◌, ◌≤◌, List, [], ◌∷◌, arith, refl, ap, ◌∙◌, inl, inr}
use Rattle.std.proofs.lemmas.Bool.{cases_lt}
use Rattle.std.proofs.lemmas.Nat.{mul-le}
use Rattle.std.proofs.Math.Nat.{mul-div-le}
use Rattle.worker_reserve.specs.declared.credit.Passed.{Passed}
use Rattle.worker_reserve.specs.declared.rule.Budget.{Budget}
use Rattle.worker_reserve.specs.Credit.{CreditView, cap, counted, budget_of, IsTimely}
use Rattle.worker_reserve.specs.Rule.{pause_of}
use Rattle.worker_reserve.specs.Course.{Event, Passes, Asked, Changes, Course, DeclineInTurn, MayPass, MayAsk, IsCourse, KeepsWorkers, course, all_busy, all_idle, most_workers}
use Rattle.worker_reserve.specs.Bounds.{PausesAreTimely, DecliningIsBounded, ChangesAddNothing}

-- the credit has 61 microseconds of each worker that declines
credit_of_each : (b : Budget) (declining : ℕ) → DeclineInTurn b declining → 61000000 * declining ≤ b.credit
credit_of_each b zero rule = omega arith
credit_of_each b (suc k) rule =
    let last = rule k (omega arith) in
    omega (arith, last.beside, last.declines.is_open.credit)

-- until they are asked again, workers spend no more than the credit, and a microsecond each
pause_is_paid : (b : Budget) (declining : ℕ) → DeclineInTurn b declining → 1000000 * (declining * pause_of b declining) ≤ b.credit + 1000000 * declining
pause_is_paid b declining rule =
    let part : ℕ = b.credit / 1000000 / declining in
    let each : declining * part ≤ b.credit / 1000000 = mul-div-le (b.credit / 1000000) declining in
    let whole : 1000000 * (b.credit / 1000000) ≤ b.credit = mul-div-le b.credit 1000000 in
    elim (cases_lt part 61) [
      | inl short ↦
          let most : declining * pause_of b declining ≤ declining * 61 = mul-le declining (pause_of b declining) declining 61 (omega arith) (omega (arith, short)) in
          omega (arith, most, credit_of_each b declining rule)
      | inr long ↦
          let most : declining * pause_of b declining ≤ declining * (part + 1) = mul-le declining (pause_of b declining) declining (part + 1) (omega arith) (omega (arith, long)) in
          omega (arith, most, each, whole)
    ]

-- and a millisecond each, if the timer is late
pub may_still_spend : (v : CreditView) (declining again : ℕ) → DeclineInTurn (budget_of v) declining → again ≤ v.moment + pause_of (budget_of v) declining → 1000000 * (declining * (again + 1000 - v.moment)) ≤ cap v - v.used + 1001000000 * declining
may_still_spend v declining again rule soon =
    let pause : ℕ = pause_of (budget_of v) declining in
    let most : declining * (again + 1000 - v.moment) ≤ declining * (pause + 1000) = mul-le declining (again + 1000 - v.moment) declining (pause + 1000) (omega arith) (omega (arith, soon)) in
    omega (arith, most, pause_is_paid (budget_of v) declining rule)

-- where workers decline there is a credit
has_credit : (v : CreditView) (k : ℕ) → DeclineInTurn (budget_of v) (suc k) → v.used ≤ cap v
has_credit v k rule = omega (arith, credit_of_each (budget_of v) (suc k) rule)

timely : (v : CreditView) (p : Passed) (declining : ℕ) → p.declining ≡ declining → DeclineInTurn (budget_of v) declining → p.asked_again ≤ v.moment + pause_of (budget_of v) declining → IsTimely v p
timely v p zero is rule soon = inl (ap (λ n. 1000000 * (n * counted v p)) is ∙ omega arith)
timely v p (suc k) is rule soon =
    let times : p.declining * (p.asked_again + 1000 - v.moment) ≡ suc k * (p.asked_again + 1000 - v.moment) = ap (λ n. n * (p.asked_again + 1000 - v.moment)) is in
    inr (omega (arith, times, is, may_still_spend v (suc k) p.asked_again rule soon, has_credit v k rule))

pub pauses_are_timely : PausesAreTimely
pauses_are_timely v p rule soon = timely v p p.declining refl rule soon

idle_part_stays : (v : CreditView) (run : List Event) → (course v run).credit.idle_ppm ≡ v.idle_ppm
idle_part_stays v [] = refl
idle_part_stays v (Passes p ∷ older) = idle_part_stays v older
idle_part_stays v (Asked q ∷ older) = idle_part_stays v older
idle_part_stays v (Changes n ∷ older) = idle_part_stays v older

-- The credit at the end is at most the first one, and what was earned, less what was spent: it is lost at the cap, and
-- where the number of workers is lowered.
balance : (v : CreditView) (run : List Event) → v.used + 1000000 * all_idle v run + cap (course v run).credit ≤ v.idle_ppm * all_busy v run + (course v run).credit.used + cap v
balance v [] = omega arith
balance v (Passes p ∷ older) =
    let c : Course = course v older in
    let rest = balance v older in
    let time : ℕ = p.running * (p.moment - c.credit.moment) in
    let part : c.credit.idle_ppm * time ≡ v.idle_ppm * time = ap (λ n. n * time) (idle_part_stays v older) in
    omega (arith, rest, part)
balance v (Asked q ∷ older) = omega (arith, balance v older)
balance v (Changes n ∷ older) = omega (arith, balance v older)

-- the time until they are asked again is parted by the time that passes
parted : (c : Course) (p : Passed) → MayPass c p → p.declining * counted c.credit p + c.declining * (c.asked_again + 1000 - p.moment) ≤ c.declining * (c.asked_again + 1000 - c.credit.moment)
parted c p may = elim (cases_lt 0 p.declining) [
  | inl some ↦
      let now : p.declining * counted c.credit p ≤ c.declining * counted c.credit p = mul-le p.declining (counted c.credit p) c.declining (counted c.credit p) may.few (omega arith) in
      let both : c.declining * (counted c.credit p + (c.asked_again + 1000 - p.moment)) ≤ c.declining * (c.asked_again + 1000 - c.credit.moment) = mul-le c.declining _ c.declining _ (omega arith) (omega (arith, may.in_order, may.again some)) in
      omega (arith, now, both)
  | inr none ↦
      let now : p.declining * counted c.credit p ≤ 0 * counted c.credit p = mul-le p.declining (counted c.credit p) 0 (counted c.credit p) none (omega arith) in
      let later : c.declining * (c.asked_again + 1000 - p.moment) ≤ c.declining * (c.asked_again + 1000 - c.credit.moment) = mul-le c.declining _ c.declining _ (omega arith) (omega (arith, may.in_order)) in
      omega (arith, now, later)
]

workers_within : (v : CreditView) (run : List Event) → (course v run).credit.workers ≤ most_workers v.workers run
workers_within v [] = omega arith
workers_within v (Passes p ∷ older) = workers_within v older
workers_within v (Asked q ∷ older) = workers_within v older
workers_within v (Changes n ∷ older) = omega arith

-- what those that decline from now on may spend is in the credit, beside a millisecond and a microsecond each
asked : (v : CreditView) (run : List Event) (q : ℕ) → MayAsk (course v run) q → 1000000 * all_idle v run ≤ v.idle_ppm * all_busy v run + (cap v - v.used) + 1001000000 * most_workers v.workers run → 1000000 * all_idle v run + 1000000 * (q * ((course v (Asked q ∷ run)).asked_again + 1000 - (course v run).credit.moment)) ≤ v.idle_ppm * all_busy v run + (cap v - v.used) + 1001000000 * most_workers v.workers run
asked v run zero may bound = omega (arith, bound)
asked v run (suc k) may bound =
    let c : Course = course v run in
    let still = may_still_spend c.credit (suc k) (course v (Asked (suc k) ∷ run)).asked_again may.by_rule (omega arith) in
    omega (arith, still, has_credit c.credit k may.by_rule, balance v run, workers_within v run, may.few)

-- what was spent, and what those that decline may still spend
standing : (v : CreditView) (run : List Event) → IsCourse v run → 1000000 * all_idle v run + 1000000 * ((course v run).declining * ((course v run).asked_again + 1000 - (course v run).credit.moment)) ≤ v.idle_ppm * all_busy v run + (cap v - v.used) + 1001000000 * most_workers v.workers run
standing v [] is = omega arith
standing v (Passes p ∷ older) is = omega (arith, standing v older is.0, parted (course v older) p is.1)
standing v (Asked q ∷ older) is = omega (arith, asked v older q is.1 (omega (arith, standing v older is.0)))
standing v (Changes n ∷ older) is = omega (arith, standing v older is.0)

pub changes_add_nothing : ChangesAddNothing
changes_add_nothing v run is = omega (arith, standing v run is)

same_most : (first : ℕ) (run : List Event) → KeepsWorkers run → most_workers first run ≡ first
same_most first [] keeps = refl
same_most first (Passes p ∷ older) keeps = same_most first older keeps
same_most first (Asked q ∷ older) keeps = same_most first older keeps
same_most first (Changes n ∷ older) keeps = absurd keeps

pub declining_is_bounded : DecliningIsBounded
declining_is_bounded v run full is keeps = omega (arith, changes_add_nothing v run is, same_most v.workers run keeps)
