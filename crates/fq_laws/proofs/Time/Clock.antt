-- The active weight, virtual time by the clock and virtual idle times: how they change at one entry more, and their
-- limits.
use Rattle.std.proofs.Common.{ℕ, ◌≡◌, refl, ◌∷◌, [], length, ◌-◌, arith, ◌+◌, ◌∙◌, inl, inr, cond, true, false, ◌≤◌, ◌<◌, ◌≢◌, ◌*◌, ◌/◌, ◌==◌, zero, suc}
use Rattle.std.proofs.lemmas.Bool.{cases_Bool, cases_eq, ne_eqb}
use Rattle.std.proofs.Math.Nat.{div-le_self}
use Rattle.std.proofs.lemmas.Nat.{mul-le}
use Rattle.vt_fixed.specs.Rounding.{advance_of}
use Rattle.vt_fixed.proofs.Bounds.{div_mono}
use Rattle.vt_fixed.proofs.Bounds as fixed
use Rattle.fq_model.specs.declared.config.Config.{Config}
use Rattle.fq_model.specs.declared.event.Entry.{Entry}
use Rattle.fq_model.specs.History.{History, weight_at, pool_at}
use Rattle.fq_model.specs.Time.{weight_if_active, active_weight, last_moment, virtual_advance, clock_time, virtual_idle_time, is_active, open_requests}
use Rattle.fq_model.specs.Limits.{InLimits}
use Rattle.fq_model.specs.Rules.{IsLegal}
use Rattle.fq_model.specs.Sums.{sum_below}
use Rattle.vt_fixed.specs.declared.limits.TheConstants.{MOST_WORKERS, GREATEST_WEIGHT, GREATEST_ACTIVE_WEIGHT}
use Rattle.fq_laws.specs.Words.{greatest_rate}
use Rattle.fq_laws.proofs.Sums.{sum_zero, sum_at, sum_same, part_of_sum}
use Rattle.fq_laws.proofs.Time.Open.{inactive_nil, active_of_open}
use Rattle.fq_laws.proofs.History.Weights.{weight_high, pool_range}

-- ---- advances

-- where no tenant is active virtual time stands still
pub advance_idle : (dt n : ℕ) → advance_of dt n 0 ≡ 0
unfolding advance_of
advance_idle dt n = refl

pub active_weight_nil : (C : Config) → active_weight C [] ≡ 0
unfolding active_weight
active_weight_nil C = sum_zero (weight_if_active C []) (length C.weights) (λ t. rw (inactive_nil t) refl)

-- virtual time rises by the advance from the last moment, with the workers of the pool, at the active weight
pub virtual_advance_is : (C : Config) (P : History) (m : ℕ) → virtual_advance C P m ≡ advance_of (m - last_moment P) (pool_at C P) (active_weight C P)
unfolding virtual_advance
virtual_advance_is C P m = refl

-- no time, no advance
pub advance_none : (C : Config) (P : History) → virtual_advance C P (last_moment P) ≡ 0
unfolding virtual_advance
advance_none C P = fixed.advance_none (last_moment P) (pool_at C P) (active_weight C P)

pub advance_unweighted : (C : Config) (P : History) (m : ℕ) → active_weight C P ≡ 0 → virtual_advance C P m ≡ 0
unfolding virtual_advance
advance_unweighted C P m e = rw e (advance_idle _ _)

pub advance_nil : (C : Config) (m : ℕ) → virtual_advance C [] m ≡ 0
advance_nil C m = advance_unweighted C [] m (active_weight_nil C)

-- ---- virtual time by the clock

pub clock_time_nil : (C : Config) (m : ℕ) → clock_time C [] m ≡ 0
unfolding clock_time
clock_time_nil C m = refl

-- an entry does not move the time of its moment
pub clock_time_step : (C : Config) (P : History) (e : Entry) → clock_time C (e ∷ P) e.moment ≡ clock_time C P e.moment
unfolding clock_time
clock_time_step C P e = omega (arith, advance_none C (e ∷ P))

-- the time at a moment is that of the last entry and one advance
pub clock_time_split : (C : Config) (P : History) (m : ℕ) → clock_time C P m ≡ clock_time C P (last_moment P) + virtual_advance C P m
unfolding clock_time
clock_time_split C [] m = omega (arith, advance_nil C m)
clock_time_split C (e ∷ P) m = omega (arith, advance_none C (e ∷ P))

-- ---- virtual idle time

pub idle_nil : (C : Config) (m t : ℕ) → virtual_idle_time C [] m t ≡ 0
unfolding virtual_idle_time
idle_nil C m t = refl

pub idle_step : (C : Config) (P : History) (e : Entry) (t : ℕ) → virtual_idle_time C (e ∷ P) e.moment t ≡ virtual_idle_time C P e.moment t
unfolding virtual_idle_time
idle_step C P e t = elim (cases_Bool (is_active (e ∷ P) t)) [ inl h ↦ rw h (omega arith) | inr h ↦ rw h (omega (arith, advance_none C (e ∷ P))) ]

pub idle_split : (C : Config) (P : History) (m t : ℕ) → virtual_idle_time C P m t ≡ virtual_idle_time C P (last_moment P) t + cond (is_active P t) 0 (virtual_advance C P m)
unfolding virtual_idle_time
idle_split C [] m t = rw (inactive_nil t) (omega (arith, advance_nil C m))
idle_split C (e ∷ P) m t = elim (cases_Bool (is_active (e ∷ P) t)) [ inl h ↦ rw h (omega arith) | inr h ↦ rw h (omega (arith, advance_none C (e ∷ P))) ]

-- while a tenant is active its virtual idle time stays
pub idle_active : (C : Config) (P : History) (m t : ℕ) → is_active P t ≡ true → virtual_idle_time C P m t ≡ virtual_idle_time C P (last_moment P) t
idle_active C P m t h = let k : virtual_idle_time C P m t ≡ virtual_idle_time C P (last_moment P) t + 0 = rw h at (idle_split C P m t) in omega arith

-- while it is not, this moves along with virtual time by the clock
pub idle_inactive : (C : Config) (P : History) (m t : ℕ) → is_active P t ≡ false → virtual_idle_time C P m t + clock_time C P (last_moment P) ≡ virtual_idle_time C P (last_moment P) t + clock_time C P m
idle_inactive C P m t h = let k : virtual_idle_time C P m t ≡ virtual_idle_time C P (last_moment P) t + virtual_advance C P m = rw h at (idle_split C P m t) in omega (arith, clock_time_split C P m)

-- virtual idle time at the moment of one entry more, by whether the tenant was active before it
pub idle_next_active : (C : Config) (P : History) (e : Entry) (t : ℕ) → is_active P t ≡ true → virtual_idle_time C (e ∷ P) e.moment t ≡ virtual_idle_time C P (last_moment P) t
idle_next_active C P e t h = idle_step C P e t ∙ idle_active C P e.moment t h

pub idle_next_inactive : (C : Config) (P : History) (e : Entry) (t : ℕ) → is_active P t ≡ false → virtual_idle_time C (e ∷ P) e.moment t + clock_time C P (last_moment P) ≡ virtual_idle_time C P (last_moment P) t + clock_time C (e ∷ P) e.moment
idle_next_inactive C P e t h = omega (arith, idle_step C P e t, clock_time_step C P e, idle_inactive C P e.moment t h)

-- it is at most virtual time by the clock
pub idle_low : (C : Config) (P : History) (m t : ℕ) → virtual_idle_time C P m t ≤ clock_time C P m
unfolding virtual_idle_time clock_time
idle_low C [] m t = omega arith
idle_low C (e ∷ P) m t = elim (cases_Bool (is_active (e ∷ P) t)) [ inl h ↦ rw h (omega (arith, idle_low C P e.moment t)) | inr h ↦ rw h (omega (arith, idle_low C P e.moment t)) ]

-- the open requests and the weight of tenant u are equal in Q and P
pub record SameWeight (C : Config) (P Q : History) (u : ℕ) : Type 0 where
  pub open_same : open_requests Q u ≡ open_requests P u
  pub weight_same : weight_at C Q u ≡ weight_at C P u

-- where those of one tenant alone may have changed
pub active_weight_at : (C : Config) (P : History) (e : Entry) (t : ℕ) → t < length C.weights → ((u : ℕ) → u ≢ t → SameWeight C P (e ∷ P) u) → active_weight C (e ∷ P) + weight_if_active C P t ≡ active_weight C P + weight_if_active C (e ∷ P) t
unfolding active_weight is_active
active_weight_at C P e t b same = sum_at (weight_if_active C P) (weight_if_active C (e ∷ P)) t (length C.weights) b (λ u ne. rw ((same u ne).open_same, (same u ne).weight_same) refl)

-- the weight of an active tenant is part of the active weight
pub active_covers : (C : Config) (P : History) (t : ℕ) → t < length C.weights → 1 ≤ open_requests P t → weight_at C P t ≤ active_weight C P
unfolding active_weight
active_covers C P t b some =
    let k : cond (is_active P t) (weight_at C P t) 0 ≤ sum_below (weight_if_active C P) (length C.weights) = part_of_sum (weight_if_active C P) t (length C.weights) b in
    rw (active_of_open P t some) at k

-- where those of none have
pub active_weight_same : (C : Config) (P : History) (e : Entry) → ((u : ℕ) → SameWeight C P (e ∷ P) u) → active_weight C (e ∷ P) ≡ active_weight C P
unfolding active_weight is_active
active_weight_same C P e same = sum_same (weight_if_active C (e ∷ P)) (weight_if_active C P) (length C.weights) (λ u b. rw ((same u).open_same, (same u).weight_same) refl)

-- ---- virtual time by the clock

pub advance_low : (dt n w : ℕ) → n ≤ MOST_WORKERS → advance_of dt n w ≤ dt * greatest_rate
unfolding advance_of
advance_low dt n w h = elim (cases_Bool (w == 0)) [
  | inl e ↦ rw e (omega arith)
  | inr e ↦ rw e (
      let a : dt * n ≤ dt * MOST_WORKERS = mul-le dt n dt MOST_WORKERS (omega arith) h in
      let b : dt * n * 1048576 / w ≤ dt * n * 1048576 = div-le_self (dt * n * 1048576) w in
      omega arith
      )
]

-- in a microsecond it makes at most a unit for each of the most workers
pub virtual_advance_low : (C : Config) (P : History) (m : ℕ) → InLimits C → IsLegal C P → virtual_advance C P m ≤ (m - last_moment P) * greatest_rate
unfolding virtual_advance
virtual_advance_low C P m lim l = advance_low (m - last_moment P) (pool_at C P) (active_weight C P) (pool_range C P lim l).1

pub clock_time_low : (C : Config) (P : History) (m : ℕ) → InLimits C → IsLegal C P → last_moment P ≤ m → clock_time C P m ≤ m * greatest_rate
unfolding clock_time
clock_time_low C [] m lim l h = omega arith
clock_time_low C (e ∷ P) m lim l h =
    let a : clock_time C P e.moment ≤ e.moment * greatest_rate = clock_time_low C P e.moment lim l.0 l.1 in
    omega (arith, virtual_advance_low C (e ∷ P) m lim l)

pub advance_rises : (a b n w : ℕ) → a ≤ b → advance_of a n w ≤ advance_of b n w
unfolding advance_of
advance_rises a b n w h = elim (cases_eq w 0) [
  | inl e ↦ rw e (omega arith)
  | inr ne ↦ rw (ne_eqb w 0 ne) (let k : a * n ≤ b * n = mul-le a n b n h (omega arith) in div_mono (a * n * 1048576) (b * n * 1048576) w (omega arith) (omega arith))
]

-- it never falls
pub clock_time_rises : (C : Config) (P : History) (m k : ℕ) → m ≤ k → clock_time C P m ≤ clock_time C P k
unfolding clock_time virtual_advance
clock_time_rises C [] m k h = omega arith
clock_time_rises C (e ∷ P) m k h = let a = advance_rises (m - e.moment) (k - e.moment) (pool_at C (e ∷ P)) (active_weight C (e ∷ P)) (omega arith) in omega (arith, a)

pub virtual_idle_time_low : (C : Config) (P : History) (m t : ℕ) → InLimits C → IsLegal C P → last_moment P ≤ m → virtual_idle_time C P m t ≤ m * greatest_rate
virtual_idle_time_low C P m t lim l h = omega (arith, idle_low C P m t, clock_time_low C P m lim l h)

-- ---- weights

pub weights_low : (f : ℕ → ℕ) (n : ℕ) → ((t : ℕ) → f t ≤ GREATEST_WEIGHT) → sum_below f n ≤ n * GREATEST_WEIGHT
unfolding sum_below
weights_low f zero h = omega arith
weights_low f (suc n) h = omega (arith, h n, weights_low f n h)

pub active_weight_low : (C : Config) (P : History) → InLimits C → IsLegal C P → active_weight C P ≤ GREATEST_ACTIVE_WEIGHT
unfolding active_weight
active_weight_low C P lim l = omega (arith, lim.tenants.1, weights_low (weight_if_active C P) (length C.weights) (λ t. elim (cases_Bool (is_active P t)) [ inl h ↦ rw h (weight_high C P t lim l) | inr h ↦ rw h (omega arith) ]))
