-- A demand that is lowered to that of 4,096 workers decides the same.
use Rattle.std.specs.Bool.{IsTrue}
use Rattle.std.proofs.Common.{ℕ, Bool, ◌≡◌, ◌-◌, ◌*◌, ◌<◌, ◌≤◌, ◌↔◌, arith, sym, subst, inl, inr}
use Rattle.std.proofs.lemmas.Bool.{cases_lt}
use Rattle.std.proofs.lemmas.Nat.{mul-le}
use Rattle.worker_reserve.specs.declared.rule.Budget.{Budget}
use Rattle.worker_reserve.specs.declared.rule.Question.{Question}
use Rattle.worker_reserve.specs.Demand.{lowered, worker_unit}
use Rattle.worker_reserve.specs.Rule.{Declines, IsWorth, IsShort, cap_of}

-- with a credit, no number of workers is enough beside the demand of them all
short_beyond : (b : Budget) (longer n : ℕ) → b.workers ≤ 4096 → 0 < b.credit → 4096 * worker_unit ≤ n → IsShort b longer n
short_beyond b longer n few credit over =
    let m : (b.workers - longer) * worker_unit * cap_of b ≤ n * cap_of b = mul-le ((b.workers - longer) * worker_unit) (cap_of b) n (cap_of b) (omega (arith, few, over)) (omega arith) in
    omega (arith, m, credit)

same_worth : (b : Budget) (n : ℕ) → IsWorth b (lowered n) ↔ IsWorth b n
same_worth b n = elim (cases_lt n (4096 * worker_unit)) [
  | inl l ↦ (let e : lowered n ≡ n = omega (arith, l) in (subst (IsWorth b) e, subst (IsWorth b) (sym e)))
  | inr l ↦ ((λ _. inl (omega (arith, l))), (λ _. inl (omega (arith, l))))
]

same_short : (b : Budget) (longer n : ℕ) → b.workers ≤ 4096 → 0 < b.credit → IsShort b longer (lowered n) ↔ IsShort b longer n
same_short b longer n few credit = elim (cases_lt n (4096 * worker_unit)) [
  | inl l ↦ (let e : lowered n ≡ n = omega (arith, l) in (subst (IsShort b longer) e, subst (IsShort b longer) (sym e)))
  | inr l ↦ ((λ _. short_beyond b longer n few credit l), (λ _. short_beyond b longer (lowered n) few credit (omega (arith, l))))
]

pub as_lowered : (b : Budget) (q : Question) (n v : ℕ) → b.workers ≤ 4096 → Declines b q (lowered n) (lowered v) ↔ Declines b q n v
as_lowered b q n v few = (
  (λ d. record {
    is_open = d.is_open;
    visited = omega (arith, d.visited);
    worth = (same_worth b n).0 d.worth;
    short = (same_short b q.longer n few (omega (arith, d.is_open.credit))).0 d.short;
    none_small = d.none_small;
  }),
  (λ d. record {
    is_open = d.is_open;
    visited = omega (arith, d.visited);
    worth = (same_worth b n).1 d.worth;
    short = (same_short b q.longer n few (omega (arith, d.is_open.credit))).1 d.short;
    none_small = d.none_small;
  }),
)

pub decided : (b : Budget) (q : Question) (r : Bool) (x y n v : ℕ) → b.workers ≤ 4096 → x ≡ lowered n → y ≡ lowered v → IsTrue r ↔ Declines b q x y → IsTrue r ↔ Declines b q n v
decided b q r x y n v few e d h =
    let at : IsTrue r ↔ Declines b q (lowered n) (lowered v) = subst (λ k. IsTrue r ↔ Declines b q k (lowered v)) e (subst (λ k. IsTrue r ↔ Declines b q x k) d h) in
    ((λ t. (as_lowered b q n v few).0 (at.0 t)), (λ t. at.1 ((as_lowered b q n v few).1 t)))
