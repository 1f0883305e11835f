-- The weight of a tenant and the number of workers: how they change at one entry more, and their limits.
use Rattle.std.proofs.Common.{ℕ, ◌≡◌, ◌≤◌, ◌<◌, ◌==◌, true, false, inl, inr, refl, arith, [], ◌∷◌, length, get_or}
use Rattle.std.proofs.lemmas.Bool.{cases_Bool, false≢true, cases_lt}
use Rattle.std.proofs.lemmas.List.{get_or_past}
use Rattle.vt_fixed.specs.declared.limits.TheConstants.{GREATEST_WEIGHT, MOST_WORKERS}
use Rattle.fq_model.specs.declared.config.Config.{Config}
use Rattle.fq_model.specs.declared.event.Act.{Act}
use Rattle.fq_model.specs.declared.event.Act.TheVariants.{Weight, Workers}
use Rattle.fq_model.specs.declared.event.Entry.{Entry}
use Rattle.fq_model.specs.Limits.{InLimits, IsWithin, greatest_weight}
use Rattle.fq_model.specs.History.{History, weight_at, weight_after, pool_at, pool_after, is_take_of, is_taken}
use Rattle.fq_model.specs.Charge.{taken_weight}
use Rattle.fq_model.specs.Rules.{IsLegal, Fits}
use Rattle.fq_laws.specs.Words.{concerns}
use Rattle.fq_laws.proofs.Limits.{no_greater_weight}

-- ---- at one entry more

pub weight_step : (C : Config) (P : History) (e : Entry) (t : ℕ) → weight_at C (e ∷ P) t ≡ weight_after t e.act (weight_at C P t)
unfolding weight_at
weight_step C P e t = refl

pub pool_step : (C : Config) (P : History) (e : Entry) → pool_at C (e ∷ P) ≡ pool_after e.act (pool_at C P)
unfolding pool_at
pool_step C P e = refl

left_at : (P : History) (t : ℕ) (a : Act) (older : ℕ) → concerns P t a ≡ false → weight_after t a older ≡ older
left_at P t (Weight tenant weight) older off = rw off refl
left_at P t _ older off = refl

-- an entry that does not concern a tenant leaves its weight
pub weight_left : (C : Config) (P : History) (e : Entry) (t : ℕ) → concerns P t e.act ≡ false → weight_at C (e ∷ P) t ≡ weight_at C P t
unfolding weight_at
weight_left C P e t off = left_at P t e.act (weight_at C P t) off

-- ---- limits

pool_at_most : (C : Config) (P : History) (m older : ℕ) (a : Act) → Fits C P m a → older ≤ C.workers → pool_after a older ≤ C.workers
pool_at_most C P m older (Workers count) f h = f.count_in_range.1
pool_at_most C P m older _ f h = h

-- there are at most as many workers as at the opening
pub pool_high : (C : Config) (P : History) → IsLegal C P → pool_at C P ≤ C.workers
unfolding pool_at
pool_high C [] l = omega arith
pool_high C (e ∷ P) l = pool_at_most C P e.moment (pool_at C P) e.act l.3 (pool_high C P l.0)

pool_at_least : (C : Config) (P : History) (m older : ℕ) (a : Act) → Fits C P m a → 1 ≤ older → 1 ≤ pool_after a older
pool_at_least C P m older (Workers count) f h = f.count_in_range.0
pool_at_least C P m older _ f h = h

pub pool_low : (C : Config) (P : History) → InLimits C → IsLegal C P → 1 ≤ pool_at C P
unfolding pool_at
pool_low C [] lim l = lim.workers.0
pool_low C (e ∷ P) lim l = pool_at_least C P e.moment (pool_at C P) e.act l.3 (pool_low C P lim l.0)

pub pool_range : (C : Config) (P : History) → InLimits C → IsLegal C P → IsWithin 1 MOST_WORKERS (pool_at C P)
pool_range C P lim l = (pool_low C P lim l, omega (arith, pool_high C P l, lim.workers.1))

weight_at_most : (C : Config) (P : History) (m t older : ℕ) (a : Act) → Fits C P m a → older ≤ greatest_weight C.limits → weight_after t a older ≤ greatest_weight C.limits
weight_at_most C P m t older (Weight tenant weight) f h = elim (cases_Bool (tenant == t)) [ inl e ↦ rw e f.weight_in_range.1 | inr e ↦ rw e h ]
weight_at_most C P m t older _ f h = h

-- a weight is never above those that the configuration allows
pub weight_allowed : (C : Config) (P : History) (t : ℕ) → InLimits C → IsLegal C P → weight_at C P t ≤ greatest_weight C.limits
unfolding weight_at
weight_allowed C [] t lim l = elim (cases_lt t (length C.weights)) [ inl b ↦ lim.own.weights t 0 b | inr b ↦ (let e : get_or C.weights t 0 ≡ 0 = get_or_past C.weights t 0 b in omega arith) ]
weight_allowed C (e ∷ P) t lim l = weight_at_most C P e.moment t (weight_at C P t) e.act l.3 (weight_allowed C P t lim l.0)

pub weight_high : (C : Config) (P : History) (t : ℕ) → InLimits C → IsLegal C P → weight_at C P t ≤ GREATEST_WEIGHT
weight_high C P t lim l = omega (arith, weight_allowed C P t lim l, no_greater_weight C.limits)

weight_at_least : (C : Config) (P : History) (m t older : ℕ) (a : Act) → Fits C P m a → 1 ≤ older → 1 ≤ weight_after t a older
weight_at_least C P m t older (Weight tenant weight) f h = elim (cases_Bool (tenant == t)) [ inl e ↦ rw e f.weight_in_range.0 | inr e ↦ rw e h ]
weight_at_least C P m t older _ f h = h

pub weight_low : (C : Config) (P : History) (t : ℕ) → InLimits C → IsLegal C P → t < length C.weights → 1 ≤ weight_at C P t
unfolding weight_at
weight_low C [] t lim l b = (lim.weights t 0 b).0
weight_low C (e ∷ P) t lim l b = weight_at_least C P e.moment t (weight_at C P t) e.act l.3 (weight_low C P t lim l.0 b)

-- the weight at the Take of a request is one too
pub taken_weight_low : (C : Config) (P : History) (t r : ℕ) → InLimits C → IsLegal C P → t < length C.weights → is_taken P r ≡ true → 1 ≤ taken_weight C P t r
unfolding is_taken
taken_weight_low C [] t r lim l b h = absurd (false≢true h)
taken_weight_low C (e ∷ P) t r lim l b h = elim (cases_Bool (is_take_of r e.act)) [
  | inl x ↦ rw x (weight_low C P t lim l.0 b)
  | inr x ↦ rw x (taken_weight_low C P t r lim l.0 b (rw x at h))
]
