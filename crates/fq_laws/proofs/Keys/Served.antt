-- The tenants that the fluid serves under 2dfq+, and the weight over which virtual time goes on.
use Rattle.std.proofs.Common.{◌⊎◌, [], ◌≢◌, ◌==◌, cond, ℕ, ◌+◌, ◌-◌, ◌*◌, ◌/◌, ◌<◌, ◌≤◌, ◌≡◌, true, zero, suc, arith, refl, sym, ◌∙◌, inl, inr, ap, length}
use Rattle.std.proofs.lemmas.Bool.{cases_Bool, le-ltb, eq-eqb, ne_eqb}
use Rattle.std.proofs.lemmas.Nat.{mul-le, le-div}
use Rattle.std.proofs.Math.Nat.{div-mul-le_self}
use Rattle.vt_fixed.specs.Rounding.{advance_of}
use Rattle.vt_fixed.specs.declared.limits.TheConstants.{GREATEST_ACTIVE_WEIGHT, GREATEST_WEIGHT}
use Rattle.fq_model.specs.declared.config.Config.{Config}
use Rattle.fq_model.specs.declared.config.Policy.TheVariants.{TwoDfqPlus}
use Rattle.fq_model.specs.Limits.{InLimits}
use Rattle.fq_model.specs.History.{History, pool_at}
use Rattle.fq_model.specs.Time.{is_active, weight_if_active, active_weight, last_moment, virtual_advance}
use Rattle.fq_model.specs.Pace.{Pace, pace, is_served, weight_if_served, served_weight, time_for, virtual_time}
use Rattle.fq_model.specs.Charge.{virtual_charge}
use Rattle.fq_model.specs.Keys.{tag}
use Rattle.fq_model.specs.Rules.{IsLegal}
use Rattle.fq_model.specs.Sums.{sum_below}
use Rattle.fq_laws.specs.Words.{capped, rate_weight}
use Rattle.fq_laws.proofs.Sums.{sum_same, sum_at, sum_zero}
use Rattle.fq_laws.proofs.Charge.Tenants.{virtual_charge_nil}
use Rattle.fq_laws.proofs.Time.Open.{inactive_nil}
use Rattle.fq_laws.proofs.History.Weights.{weight_high}
use Rattle.fq_laws.proofs.Time.Clock.{active_weight_nil, weights_low, active_weight_low, virtual_advance_is}
use Rattle.fq_laws.proofs.Keys.Tags.{tag_is}
use Rattle.fq_laws.proofs.Keys.Pace.{paced_or_not, base_by_pace, now_is_time, time_of_clock, capped_min, capped_not, rate_paced, rate_by_clock, rate_advance, virtual_time_split}

-- ---- at first

unserved_nil : (C : Config) (t : ℕ) → weight_if_served C [] (pace C []) t ≡ 0
unfolding pace
unserved_nil C t = rw (inactive_nil t, virtual_charge_nil C t) refl

pub rate_weight_nil : (C : Config) → rate_weight C [] ≡ 0
unfolding served_weight
rate_weight_nil C = elim (paced_or_not C.policy) [
  | inl is ↦ rate_paced C [] is ∙ sum_zero (weight_if_served C [] (pace C [])) (length C.weights) (unserved_nil C)
  | inr ne ↦ rate_by_clock C [] ne ∙ active_weight_nil C
]

-- ---- limits

served_weight_low : (C : Config) (P : History) (s : Pace) → InLimits C → IsLegal C P → served_weight C P s ≤ GREATEST_ACTIVE_WEIGHT
unfolding served_weight
served_weight_low C P s lim l = omega (arith, lim.tenants.1, weights_low (weight_if_served C P s) (length C.weights) (λ t. elim (cases_Bool (is_served C P s t)) [ inl h ↦ rw h (weight_high C P t lim l) | inr h ↦ rw h (omega arith) ]))

pub rate_weight_low : (C : Config) (P : History) → InLimits C → IsLegal C P → rate_weight C P ≤ GREATEST_ACTIVE_WEIGHT
rate_weight_low C P lim l = elim (paced_or_not C.policy) [
  | inl is ↦ rw (rate_paced C P is) (served_weight_low C P (pace C P) lim l)
  | inr ne ↦ rw (rate_by_clock C P ne) (active_weight_low C P lim l)
]

sum_room : (f : ℕ → ℕ) (t n w : ℕ) → t < n → ((u : ℕ) → f u ≤ GREATEST_WEIGHT) → w ≤ GREATEST_WEIGHT → sum_below f n + w ≤ n * GREATEST_WEIGHT + f t
sum_room f t n w b low small =
    let g : ℕ → ℕ = λ u. cond (u == t) w (f u) in
    let step : sum_below g n + f t ≡ sum_below f n + g t = sum_at f g t n b (λ u ne. rw (ne_eqb u t ne) refl) in
    let own : g t ≡ w = rw (eq-eqb t t refl) refl in
    omega (arith, step, own, weights_low g n (λ u. elim (cases_Bool (u == t)) [ inl h ↦ rw h small | inr h ↦ rw h (low u) ]))

-- the part of tenant t in the weight over which virtual time goes on
abbrev pub rate_part : Config → History → ℕ → ℕ
rate_part C P t = time_for C.policy (weight_if_active C P t) (weight_if_served C P (pace C P) t)

pub part_paced : (C : Config) (P : History) (t : ℕ) → C.policy ≡ TwoDfqPlus → rate_part C P t ≡ weight_if_served C P (pace C P) t
part_paced C P t is = rw is refl

pub part_by_clock : (C : Config) (P : History) (t : ℕ) → C.policy ≢ TwoDfqPlus → rate_part C P t ≡ weight_if_active C P t
part_by_clock C P t ne = time_of_clock C.policy _ _ ne

served_low : (C : Config) (P : History) (t : ℕ) → InLimits C → IsLegal C P → weight_if_served C P (pace C P) t ≤ GREATEST_WEIGHT
served_low C P t lim l = elim (cases_Bool (is_served C P (pace C P) t)) [ inl h ↦ rw h (weight_high C P t lim l) | inr h ↦ rw h (omega arith) ]

active_low : (C : Config) (P : History) (t : ℕ) → InLimits C → IsLegal C P → weight_if_active C P t ≤ GREATEST_WEIGHT
active_low C P t lim l = elim (cases_Bool (is_active P t)) [ inl h ↦ rw h (weight_high C P t lim l) | inr h ↦ rw h (omega arith) ]

-- there is room for another weight of a tenant in the place of its part
pub rate_room : (C : Config) (P : History) (t w : ℕ) → InLimits C → IsLegal C P → t < length C.weights → w ≤ GREATEST_WEIGHT → rate_weight C P + w ≤ GREATEST_ACTIVE_WEIGHT + rate_part C P t
unfolding active_weight served_weight
rate_room C P t w lim l b small = elim (paced_or_not C.policy) [
  | inl is ↦ omega (arith, lim.tenants.1, rate_paced C P is, part_paced C P t is, sum_room (weight_if_served C P (pace C P)) t (length C.weights) w b (λ u. served_low C P u lim l) small)
  | inr ne ↦ omega (arith, lim.tenants.1, rate_by_clock C P ne, part_by_clock C P t ne, sum_room (weight_if_active C P) t (length C.weights) w b (λ u. active_low C P u lim l) small)
]

-- ---- beside the active tenants

-- a tenant that is active, or does not start above virtual time, is served only where it is active
served_if_active : (C : Config) (P : History) (t : ℕ) → C.policy ≡ TwoDfqPlus → (is_active P t ≡ true) ⊎ (tag C P t ≤ virtual_time C P (last_moment P)) → weight_if_served C P (pace C P) t ≡ weight_if_active C P t
served_if_active C P t is (inl on) = rw on refl
served_if_active C P t is (inr low) = elim (cases_Bool (is_active P t)) [
  | inl on ↦ rw on refl
  | inr idle ↦ rw (idle, le-ltb (pace C P).now (virtual_charge C P t + (pace C P).base t) (omega (arith, low, tag_is C P t, base_by_pace C P t is, now_is_time C P is))) refl
]

active_part : (C : Config) (P : History) (s : Pace) (t : ℕ) → weight_if_active C P t ≤ weight_if_served C P s t
active_part C P s t = elim (cases_Bool (is_active P t)) [ inl on ↦ rw on (omega arith) | inr off ↦ rw off (omega arith) ]

sum_at_least : (f g : ℕ → ℕ) (n : ℕ) → ((t : ℕ) → f t ≤ g t) → sum_below f n ≤ sum_below g n
unfolding sum_below
sum_at_least f g zero h = omega arith
sum_at_least f g (suc n) h = omega (arith, h n, sum_at_least f g n h)

-- so the fluid serves no less weight than the active tenants have
pub active_served : (C : Config) (P : History) (s : Pace) → active_weight C P ≤ served_weight C P s
unfolding active_weight served_weight
active_served C P s = sum_at_least (weight_if_active C P) (weight_if_served C P s) (length C.weights) (active_part C P s)

-- and as much where no inactive tenant starts above virtual time
pub rate_of_active : (C : Config) (P : History) → ((t : ℕ) → t < length C.weights → (is_active P t ≡ true) ⊎ (tag C P t ≤ virtual_time C P (last_moment P))) → rate_weight C P ≡ active_weight C P
unfolding active_weight served_weight
rate_of_active C P none = elim (paced_or_not C.policy) [
  | inl is ↦ rate_paced C P is ∙ sum_same (weight_if_served C P (pace C P)) (weight_if_active C P) (length C.weights) (λ t b. served_if_active C P t is (none t b))
  | inr ne ↦ rate_by_clock C P ne
]

-- a greater weight makes no greater advance
advance_falls : (dt n low high : ℕ) → 1 ≤ low → low ≤ high → advance_of dt n high ≤ advance_of dt n low
unfolding advance_of
advance_falls dt n low high some h =
    let x = dt * n * 1048576 in
    let q = dt * n * 1048576 / high in
    let less : q * low ≤ q * high = mul-le q low q high (omega arith) h in
    rw (ne_eqb low 0 (λ e. absurd (omega (arith, some, e))), ne_eqb high 0 (λ e. absurd (omega (arith, some, h, e)))) (le-div q x low (omega (arith, some)) (omega (arith, less, div-mul-le_self x high)))

-- where some tenant is active, virtual time is not ahead of what the weight of the active tenants makes of it
pub time_not_ahead : (C : Config) (P : History) (m : ℕ) → 1 ≤ active_weight C P → virtual_time C P m ≤ capped C.policy (pace C P).reached (virtual_time C P (last_moment P) + virtual_advance C P m)
time_not_ahead C P m some = elim (paced_or_not C.policy) [
  | inl is ↦ (
      let less = advance_falls (m - last_moment P) (pool_at C P) (active_weight C P) (rate_weight C P) some (rw (rate_paced C P is) (active_served C P (pace C P))) in
      omega (arith, virtual_time_split C P m, capped_min C.policy (pace C P).reached (virtual_time C P (last_moment P) + rate_advance C P m) is, capped_min C.policy (pace C P).reached (virtual_time C P (last_moment P) + virtual_advance C P m) is, less, virtual_advance_is C P m)
      )
  | inr ne ↦ (
      let same = rate_by_clock C P ne in
      omega (arith, virtual_time_split C P m, capped_not C.policy (pace C P).reached (virtual_time C P (last_moment P) + rate_advance C P m) ne, capped_not C.policy (pace C P).reached (virtual_time C P (last_moment P) + virtual_advance C P m) ne, virtual_advance_is C P m ∙ ap (advance_of (m - last_moment P) (pool_at C P)) (sym same))
      )
]
