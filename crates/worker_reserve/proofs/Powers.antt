-- The class of a number by the powers around it.
use Rattle.std.proofs.Common.{ℕ, zero, suc, ◌≡◌, ◌+◌, ◌*◌, ◌^◌, ◌<◌, ◌≤◌, min, max, nat_le, arith, refl, ap, ◌∙◌, inl, inr}
use Rattle.std.proofs.lemmas.Bool.{cases_eq, cases_lt, cond-true, cond-false, le-leb, lt-leb}
use Rattle.std.proofs.Math.Pow.{pow_mono}
use Rattle.std.proofs.Math.Nat.{one-le-pow}
use Rattle.std.proofs.lemmas.Grind.{pow_more}
use Rattle.worker_reserve.specs.Classes.{powers_within, class_of}

pub powers_are : (k n class : ℕ) → 2 ^ class ≤ n → n < 2 ^ (class + 1) → powers_within k n ≡ min k class
unfolding powers_within
powers_are zero n class low high = omega arith
powers_are (suc k) n class low high =
    let rest = powers_are k n class low high in
    elim (cases_lt k class) [
      | inl l ↦
          let p : 2 ^ suc k ≤ 2 ^ class = pow_mono (omega arith) in
          let e = cond-true {A = ℕ} (nat_le (2 ^ suc k) n) 1 0 (le-leb _ _ (omega (arith, p, low))) in
          omega (arith, e, rest, l)
      | inr l ↦
          let p : 2 ^ (class + 1) ≤ 2 ^ suc k = pow_mono (omega arith) in
          let e = cond-false {A = ℕ} (nat_le (2 ^ suc k) n) 1 0 (lt-leb _ _ (omega (arith, p, high))) in
          omega (arith, e, rest, l)
    ]

powers_none : (k : ℕ) → powers_within k 0 ≡ 0
unfolding powers_within
powers_none zero = refl
powers_none (suc k) =
    let p = one-le-pow (suc k) 2 (omega arith) in
    let e = cond-false {A = ℕ} (nat_le (2 ^ suc k) 0) 1 0 (lt-leb _ _ (omega (arith, p))) in
    omega (arith, e, powers_none k)

pub class_is : (n m class : ℕ) → m ≡ max n 1 → 2 ^ class ≤ m → m < 2 * 2 ^ class → class < 64 → class ≡ class_of n
class_is n m class is low high few = elim (cases_eq n 0) [
  | inl e ↦
      let none : class_of n ≡ 0 = ap (λ k. powers_within 63 k) e ∙ powers_none 63 in
      let least : class ≡ 0 = elim (cases_eq class 0) [
        | inl z ↦ z
        | inr more ↦ (let p : 2 ^ 1 ≤ 2 ^ class = pow_mono {i = 1} {j = class} (omega arith) in absurd (omega (arith, p, low, is, e)))
      ] in
      omega (arith, none, least)
  | inr some ↦
      let next : 2 ^ (class + 1) ≡ 2 * 2 ^ class = omega (arith, pow_more 2 class) in
      omega (arith, powers_are 63 n class (omega (arith, low, is, some)) (omega (arith, next, high, is, some)), few)
]

-- a number below 2 ^ 30 has one of the first 30 classes
pub class_few : (n class : ℕ) → 2 ^ class ≤ n → n < 1073741824 → class < 30
class_few n class low few = elim (cases_lt class 30) [
  | inl l ↦ l
  | inr h ↦ (let p : 2 ^ 30 ≤ 2 ^ class = pow_mono {i = 30} {j = class} h in absurd (omega (arith, p, low, few)))
]
