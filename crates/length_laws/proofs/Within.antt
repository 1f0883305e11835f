-- Limits of costs and weights, looked at entry by entry.
use Rattle.std.proofs.Common.{ℕ, ◌≤◌, ◌<◌, ◌≡◌, ◌==◌, ◌&&◌, nat_le, Bool, true, false, if◌then◌else◌, [], ◌∷◌, ◌++◌, length, Option, Some, refl, subst, arith, inl, inr}
use Rattle.std.proofs.lemmas.Bool.{leb-true, cases_Bool, false≢true}
use Rattle.fq_model.specs.declared.config.Config.{Config}
use Rattle.fq_model.specs.declared.event.Act.{Act}
use Rattle.fq_model.specs.declared.event.Act.TheVariants.{Submit, Report, Done}
use Rattle.fq_model.specs.Charge.{cost_in, final_cost}
use Rattle.fq_model.specs.Gap.{is_declared}
use Rattle.fq_model.specs.History.{History, Request, request_in, request_at, use_in, last_use}
use Rattle.fq_model.specs.Limits.{InLimits}
use Rattle.fq_model.specs.Rules.{IsLegal}
use Rattle.fq_laws.proofs.History.Weights.{weight_low}
use Rattle.gap_laws.proofs.WorstCase.{legal_in}
use Rattle.length_laws.specs.Laws.{KeepLimits}
use Rattle.length_laws.specs.Words.{CostsStayBelow, WeightStaysAbove}

-- the declared cost, the use or the cost that the act names is at most c
abbrev act_within : ℕ → Act → Bool
act_within c (Submit request tenant kind declared label) = nat_le declared c
act_within c (Report worker request used) = nat_le used c
act_within c (Done worker request cost) = nat_le cost c
act_within c _ = true

-- each act of the history names at most c
abbrev pub all_within : ℕ → History → Bool
all_within c [] = true
all_within c (e ∷ P) = act_within c e.act && all_within c P

parts : (a b : Bool) → (a && b) ≡ true → (a ≡ true) × (b ≡ true)
parts true b e = (refl, e)
parts false b e = absurd (false≢true e)

use_low : (c r : ℕ) (a : Act) → act_within c a ≡ true → use_in r a ≤ c
use_low c r (Report worker request used) e = elim (cases_Bool (request == r)) [ inl is ↦ rw is (leb-true used c e) | inr is ↦ rw is (omega arith) ]
use_low c r _ e = omega arith

uses_low : (c : ℕ) (P : History) (r : ℕ) → all_within c P ≡ true → last_use P r ≤ c
uses_low c [] r e = omega arith
uses_low c (x ∷ P) r e =
    let p = parts (act_within c x.act) (all_within c P) e in
    omega (arith, use_low c r x.act p.0, uses_low c P r p.1)

cost_low : (c r n : ℕ) (a : Act) (older : Option ℕ) → act_within c a ≡ true → ((k : ℕ) → older ≡ Some k → k ≤ c) → cost_in r a older ≡ Some n → n ≤ c
cost_low c r n (Done worker request cost) older e low is = elim (cases_Bool (request == r)) [
  | inl own ↦ (
      let told : Some cost ≡ Some n = rw own at is in
      let same : cost ≡ n = cc in
      subst (λ k. k ≤ c) same (leb-true cost c e))
  | inr other ↦ low n (rw other at is)
]
cost_low c r n _ older e low is = low n is

costs_low : (c : ℕ) (P : History) (r n : ℕ) → all_within c P ≡ true → final_cost P r ≡ Some n → n ≤ c
costs_low c [] r n e is = absurd (cc)
costs_low c (x ∷ P) r n e is =
    let p = parts (act_within c x.act) (all_within c P) e in
    cost_low c r n x.act (final_cost P r) p.0 (λ k. costs_low c P r k p.1) is

declared_at : (c r : ℕ) (q : Request) (a : Act) (older : Option Request) → act_within c a ≡ true → ((p : Request) → older ≡ Some p → p.declared ≤ c) → request_in r a older ≡ Some q → q.declared ≤ c
declared_at c r q (Submit request tenant kind declared label) older e low is = elim (cases_Bool (request == r)) [
  | inl own ↦ (
      let told : Some (record { tenant = tenant; kind = kind; declared = declared; label = label }) ≡ Some q = rw own at is in
      let same : record { tenant = tenant; kind = kind; declared = declared; label = label } ≡ q = cc in
      subst (λ (p : Request). p.declared ≤ c) same (leb-true declared c e))
  | inr other ↦ low q (rw other at is)
]
declared_at c r q _ older e low is = low q is

declared_low : (c : ℕ) (P : History) (r : ℕ) (q : Request) → all_within c P ≡ true → request_at P r ≡ Some q → q.declared ≤ c
declared_low c [] r q e is = absurd (cc)
declared_low c (x ∷ P) r q e is =
    let p = parts (act_within c x.act) (all_within c P) e in
    declared_at c r q x.act (request_at P r) p.0 (λ a. declared_low c P r a p.1) is

-- the initial value counts where the estimator is not `declared`
abbrev pub initial_cost : Bool → ℕ → ℕ
initial_cost declares initial = if declares then 0 else initial

first_low : (b : Bool) (declared initial c : ℕ) → declared ≤ c → initial_cost b initial ≤ c → (if b then declared else initial) ≤ c
first_low true declared initial c d i = d
first_low false declared initial c d i = i

older_within : (c : ℕ) (newer P : History) → all_within c (newer ++ P) ≡ true → all_within c P ≡ true
older_within c [] P e = e
older_within c (x ∷ newer) P e = older_within c newer P (parts (act_within c x.act) (all_within c (newer ++ P)) e).1

pub costs_within : (C : Config) (H : History) (t c : ℕ) → initial_cost (is_declared C.estimate) C.initial ≤ c → all_within c H ≡ true → CostsStayBelow C H t c
costs_within C H t c initial e = λ P r q is asked own.
    let at = older_within c is.0 P (subst (λ K. all_within c K ≡ true) is.1 e) in
    record {
      first = first_low (is_declared C.estimate) q.declared C.initial c (declared_low c P r q at asked) initial;
      used = uses_low c P r at;
      cost = λ n. costs_low c P r n at;
    }

pub weights_positive : (C : Config) (H : History) (t : ℕ) → InLimits C → IsLegal C H → t < length C.weights → WeightStaysAbove C H t 1
weights_positive C H t lim l known = λ P is. weight_low C P t lim (legal_in C H P is l) known

-- where all acts are within c, the limits c and 1 are kept
pub limits_within : (C : Config) (H : History) (f g c : ℕ) → InLimits C → IsLegal C H → f < length C.weights → g < length C.weights → 1 ≤ c → initial_cost (is_declared C.estimate) C.initial ≤ c → all_within c H ≡ true → KeepLimits C H f g c 1
limits_within C H f g c lim l known_f known_g some initial e = record {
  some_cost = some;
  some_weight = omega arith;
  costs_of_f = costs_within C H f c initial e;
  costs_of_g = costs_within C H g c initial e;
  weight_of_f = weights_positive C H f lim l known_f;
  weight_of_g = weights_positive C H g lim l known_g;
}
