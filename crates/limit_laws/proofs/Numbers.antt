-- Weights, workers, the clock and charges are the same under any limits.
use Rattle.std.proofs.Common.{ℕ, ◌≡◌, [], ◌∷◌, if◌then◌else◌, length, refl, ap}
use Rattle.vt_fixed.specs.Rounding.{length_of}
use Rattle.fq_model.specs.declared.config.Config.{Config}
use Rattle.fq_model.specs.declared.limits.Limits.{Limits}
use Rattle.fq_model.specs.Charge.{taken_weight, charged, charge, virtual_charge, is_taken_of}
use Rattle.fq_model.specs.History.{History, request_bound, weight_at, weight_after, pool_at, pool_after}
use Rattle.fq_model.specs.Pace.{clock_base}
use Rattle.fq_model.specs.Time.{is_active, weight_if_active, active_weight, virtual_advance, clock_time, virtual_idle_time}
use Rattle.fq_laws.proofs.Sums.{sum_same}
use Rattle.limit_laws.specs.Words.{with_limits}

-- ---- weights and workers

pub weight_same : (C : Config) (l : Limits) (P : History) (t : ℕ) → weight_at (with_limits l C) P t ≡ weight_at C P t
unfolding weight_at
weight_same C l [] t = refl
weight_same C l (e ∷ P) t = ap (weight_after t e.act) (weight_same C l P t)

pub pool_same : (C : Config) (l : Limits) (P : History) → pool_at (with_limits l C) P ≡ pool_at C P
unfolding pool_at
pool_same C l [] = refl
pool_same C l (e ∷ P) = ap (pool_after e.act) (pool_same C l P)

-- ---- the clock

pub active_same : (C : Config) (l : Limits) (P : History) → active_weight (with_limits l C) P ≡ active_weight C P
unfolding active_weight
active_same C l P = sum_same (weight_if_active (with_limits l C) P) (weight_if_active C P) (length C.weights) (λ t b. ap (λ w. if is_active P t then w else 0) (weight_same C l P t))

pub advance_same : (C : Config) (l : Limits) (P : History) (m : ℕ) → virtual_advance (with_limits l C) P m ≡ virtual_advance C P m
unfolding virtual_advance
advance_same C l P m = rw (pool_same C l P, active_same C l P) refl

pub clock_same : (C : Config) (l : Limits) (P : History) (m : ℕ) → clock_time (with_limits l C) P m ≡ clock_time C P m
unfolding clock_time
clock_same C l [] m = refl
clock_same C l (e ∷ P) m = rw (clock_same C l P e.moment, advance_same C l (e ∷ P) m) refl

pub idle_same : (C : Config) (l : Limits) (P : History) (m t : ℕ) → virtual_idle_time (with_limits l C) P m t ≡ virtual_idle_time C P m t
unfolding virtual_idle_time
idle_same C l [] m t = refl
idle_same C l (e ∷ P) m t = rw (idle_same C l P e.moment t, advance_same C l (e ∷ P) m) refl

-- ---- charges

pub taken_same : (C : Config) (l : Limits) (P : History) (t r : ℕ) → taken_weight (with_limits l C) P t r ≡ taken_weight C P t r
taken_same C l [] t r = refl
taken_same C l (e ∷ P) t r = rw (weight_same C l P t, taken_same C l P t r) refl

pub charged_same : (C : Config) (l : Limits) (P : History) (t r : ℕ) → charged (with_limits l C) P t r ≡ charged C P t r
charged_same C l P t r = ap (λ w. if is_taken_of P t r then length_of (charge P r) w else 0) (taken_same C l P t r)

pub charge_same : (C : Config) (l : Limits) (P : History) (t : ℕ) → virtual_charge (with_limits l C) P t ≡ virtual_charge C P t
unfolding virtual_charge
charge_same C l P t = sum_same (charged (with_limits l C) P t) (charged C P t) request_bound (λ r b. charged_same C l P t r)

pub base_same : (C : Config) (l : Limits) (P : History) (t : ℕ) → clock_base (with_limits l C) P t ≡ clock_base C P t
unfolding clock_base
base_same C l [] t = refl
base_same C l (e ∷ P) t = rw (clock_same C l P e.moment, charge_same C l P t, base_same C l P t) refl
