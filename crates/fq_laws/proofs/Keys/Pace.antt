-- Virtual time by policy: where it is that of the clock, how it is capped and lifted under 2dfq+, and its limits.
use Rattle.std.proofs.Common.{ℕ, ◌+◌, ◌-◌, ◌*◌, ◌^◌, ◌≤◌, ◌≡◌, ◌≢◌, ◌⊎◌, inl, inr, false, Some, cond, ◌&&◌, max, min, arith, refl, ap, sym, ◌∙◌, ◌∷◌, [], length}
use Rattle.std.specs.Prelude.{is_none}
use Rattle.std.proofs.lemmas.Bool.{cases_Bool}
use Rattle.vt_fixed.specs.Rounding.{length_of, part_of}
use Rattle.vt_fixed.specs.declared.limits.TheConstants.{GREATEST_MOMENT}
use Rattle.fq_model.specs.declared.config.Config.{Config}
use Rattle.fq_model.specs.declared.config.Policy.{Policy}
use Rattle.fq_model.specs.declared.config.Policy.TheVariants.{TwoDfqPlus}
use Rattle.fq_model.specs.declared.event.Act.{Act}
use Rattle.fq_model.specs.declared.event.Act.TheVariants.{Submit, Take}
use Rattle.fq_model.specs.declared.event.Entry.{Entry}
use Rattle.fq_model.specs.Limits.{InLimits}
use Rattle.fq_model.specs.History.{History, Request, request_at, head, weight_at, pool_at}
use Rattle.vt_fixed.specs.Rounding.{advance_of}
use Rattle.vt_fixed.proofs.Bounds as fixed
use Rattle.fq_model.specs.Time.{last_moment, active_weight, virtual_advance, clock_time}
use Rattle.fq_model.specs.Charge.{virtual_charge}
use Rattle.fq_model.specs.Pace.{Pace, is_submit_for, clock_base, served_weight, paced_advance, paced_to, pace, time_for, virtual_time, base_for, tag_base}
use Rattle.fq_model.specs.Rules.{IsLegal}
use Rattle.fq_laws.specs.Words.{one_more, is_take, capped, rate_weight, greatest_length}
use Rattle.fq_laws.proofs.Time.Clock.{virtual_advance_is, clock_time_nil, clock_time_step, clock_time_split, clock_time_low, clock_time_rises, advance_rises}
use Rattle.fq_laws.proofs.Charge.Estimates.{estimate_range}
use Rattle.fq_laws.proofs.Charge.Limits.{length_low, virtual_charge_grows}
use Rattle.fq_laws.proofs.Charge.Tenants.{virtual_charge_nil}
use Rattle.fq_laws.proofs.History.Requests.{request_known}
use Rattle.fq_laws.proofs.Rules.Limits.{entries_low}

-- ---- by policy

pub paced_or_not : (p : Policy) → (p ≡ TwoDfqPlus) ⊎ (p ≢ TwoDfqPlus)
paced_or_not TwoDfqPlus = inl refl
paced_or_not _ = inr (λ e. cc)

pub time_of_clock : (p : Policy) (by_clock paced : ℕ) → p ≢ TwoDfqPlus → time_for p by_clock paced ≡ by_clock
time_of_clock TwoDfqPlus by_clock paced ne = absurd (ne refl)
time_of_clock _ by_clock paced ne = refl

base_of_clock : (p : Policy) (by_clock paced : ℕ) → p ≢ TwoDfqPlus → base_for p by_clock paced ≡ by_clock
base_of_clock TwoDfqPlus by_clock paced ne = absurd (ne refl)
base_of_clock _ by_clock paced ne = refl

-- under each policy but 2dfq+ virtual time is that of the clock, and so are the bases
pub time_by_clock : (C : Config) (P : History) (m : ℕ) → C.policy ≢ TwoDfqPlus → virtual_time C P m ≡ clock_time C P m
unfolding virtual_time
time_by_clock C P m ne = time_of_clock C.policy _ _ ne

pub base_by_clock : (C : Config) (P : History) (t : ℕ) → C.policy ≢ TwoDfqPlus → tag_base C P t ≡ clock_base C P t
unfolding tag_base
base_by_clock C P t ne = base_of_clock C.policy _ _ ne

-- under 2dfq+ both are those of the pace
pub time_by_pace : (C : Config) (P : History) (m : ℕ) → C.policy ≡ TwoDfqPlus → virtual_time C P m ≡ paced_to C P (pace C P) m
unfolding virtual_time
time_by_pace C P m is = rw is refl

pub base_by_pace : (C : Config) (P : History) (t : ℕ) → C.policy ≡ TwoDfqPlus → tag_base C P t ≡ (pace C P).base t
unfolding tag_base
base_by_pace C P t is = rw is refl

-- no time, no advance
pub paced_none : (C : Config) (P : History) (s : Pace) → paced_advance C P s (last_moment P) ≡ 0
unfolding paced_advance
paced_none C P s = fixed.advance_none (last_moment P) (pool_at C P) (served_weight C P s)

-- ---- the pace at one entry more

now_at : (C : Config) (P : History) (m : ℕ) (a : Act) (who : ℕ) → is_take a ≡ false → (pace C (one_more who m a P)).now ≡ paced_to C P (pace C P) m
unfolding pace
now_at C P m (Take worker request estimate) who other = absurd (cc)
now_at C P m _ who other = refl

reached_at : (C : Config) (P : History) (m : ℕ) (a : Act) (who : ℕ) → is_take a ≡ false → (pace C (one_more who m a P)).reached ≡ (pace C P).reached
unfolding pace
reached_at C P m (Take worker request estimate) who other = absurd (cc)
reached_at C P m _ who other = refl

-- the cap stays at each entry but a Take
pub reached_stays : (C : Config) (P : History) (e : Entry) → is_take e.act ≡ false → (pace C (e ∷ P)).reached ≡ (pace C P).reached
reached_stays C P e other = reached_at C P e.moment e.act e.who other

-- a tenant's start by the pace
abbrev pub paced_start : Config → History → ℕ → ℕ
paced_start C P t = virtual_charge C P t + (pace C P).base t

-- a Take of a known request
pub now_take : (C : Config) (P : History) (who m i r c : ℕ) (q : Request) → request_at P r ≡ Some q → (pace C (one_more who m (Take i r c) P)).now ≡ max (paced_to C P (pace C P) m) (paced_start C P q.tenant - part_of (length_of c (weight_at C P q.tenant)) i (pool_at C P))
unfolding pace
now_take C P who m i r c q asked = rw asked refl

pub reached_take : (C : Config) (P : History) (who m i r c : ℕ) (q : Request) → request_at P r ≡ Some q → (pace C (one_more who m (Take i r c) P)).reached ≡ max (pace C P).reached (paced_start C P q.tenant + length_of c (weight_at C P q.tenant))
unfolding pace
reached_take C P who m i r c q asked = rw asked refl

-- ---- virtual time

pub virtual_time_nil : (C : Config) (m : ℕ) → virtual_time C [] m ≡ 0
unfolding pace
virtual_time_nil C m = elim (paced_or_not C.policy) [
  | inl is ↦ omega (arith, time_by_pace C [] m is)
  | inr ne ↦ time_by_clock C [] m ne ∙ clock_time_nil C m
]

-- an entry that is no Take does not move the virtual time of its moment
pub virtual_time_step : (C : Config) (P : History) (e : Entry) → is_take e.act ≡ false → virtual_time C (e ∷ P) e.moment ≡ virtual_time C P e.moment
virtual_time_step C P e other = elim (paced_or_not C.policy) [
  | inl is ↦ omega (arith, time_by_pace C (e ∷ P) e.moment is, time_by_pace C P e.moment is, now_at C P e.moment e.act e.who other, reached_stays C P e other, paced_none C (e ∷ P) (pace C (e ∷ P)))
  | inr ne ↦ time_by_clock C (e ∷ P) e.moment ne ∙ (clock_time_step C P e ∙ sym (time_by_clock C P e.moment ne))
]

-- nor does a Take under the other policies
pub virtual_time_take : (C : Config) (P : History) (e : Entry) → C.policy ≢ TwoDfqPlus → virtual_time C (e ∷ P) e.moment ≡ virtual_time C P e.moment
virtual_time_take C P e ne = time_by_clock C (e ∷ P) e.moment ne ∙ (clock_time_step C P e ∙ sym (time_by_clock C P e.moment ne))

-- under 2dfq+ a Take lifts virtual time to the eligible key of its request
pub virtual_time_lifted : (C : Config) (P : History) (who m i r c : ℕ) (q : Request) → C.policy ≡ TwoDfqPlus → request_at P r ≡ Some q → virtual_time C (one_more who m (Take i r c) P) m ≡ max (virtual_time C P m) (paced_start C P q.tenant - part_of (length_of c (weight_at C P q.tenant)) i (pool_at C P))
virtual_time_lifted C P who m i r c q is asked =
    omega (arith, time_by_pace C (one_more who m (Take i r c) P) m is, time_by_pace C P m is, now_take C P who m i r c q asked, reached_take C P who m i r c q asked, paced_none C (one_more who m (Take i r c) P) (pace C (one_more who m (Take i r c) P)))

pub capped_min : (p : Policy) (reached v : ℕ) → p ≡ TwoDfqPlus → capped p reached v ≡ min v reached
capped_min p reached v is = rw is refl

pub capped_not : (p : Policy) (reached v : ℕ) → p ≢ TwoDfqPlus → capped p reached v ≡ v
capped_not TwoDfqPlus reached v ne = absurd (ne refl)
capped_not _ reached v ne = refl

-- the weight over which virtual time goes on, by policy
pub rate_paced : (C : Config) (P : History) → C.policy ≡ TwoDfqPlus → rate_weight C P ≡ served_weight C P (pace C P)
rate_paced C P is = rw is refl

pub rate_by_clock : (C : Config) (P : History) → C.policy ≢ TwoDfqPlus → rate_weight C P ≡ active_weight C P
rate_by_clock C P ne = time_of_clock C.policy _ _ ne

-- how far virtual time would rise from the last entry to m, without a cap
abbrev pub rate_advance : Config → History → ℕ → ℕ
rate_advance C P m = advance_of (m - last_moment P) (pool_at C P) (rate_weight C P)

advance_paced : (C : Config) (P : History) (m : ℕ) → C.policy ≡ TwoDfqPlus → rate_advance C P m ≡ paced_advance C P (pace C P) m
unfolding paced_advance
advance_paced C P m is = ap (advance_of (m - last_moment P) (pool_at C P)) (rate_paced C P is)

advance_by_clock : (C : Config) (P : History) (m : ℕ) → C.policy ≢ TwoDfqPlus → rate_advance C P m ≡ virtual_advance C P m
advance_by_clock C P m ne = ap (advance_of (m - last_moment P) (pool_at C P)) (rate_by_clock C P ne) ∙ sym (virtual_advance_is C P m)

-- virtual time at a moment is that of the last entry and one advance, or the cap
pub virtual_time_split : (C : Config) (P : History) (m : ℕ) → virtual_time C P m ≡ capped C.policy (pace C P).reached (virtual_time C P (last_moment P) + rate_advance C P m)
virtual_time_split C P m = elim (paced_or_not C.policy) [
  | inl is ↦ omega (arith, capped_min C.policy (pace C P).reached (virtual_time C P (last_moment P) + rate_advance C P m) is, time_by_pace C P m is, time_by_pace C P (last_moment P) is, paced_none C P (pace C P), advance_paced C P m is)
  | inr ne ↦ omega (arith, capped_not C.policy (pace C P).reached (virtual_time C P (last_moment P) + rate_advance C P m) ne, time_by_clock C P m ne, time_by_clock C P (last_moment P) ne, clock_time_split C P m, advance_by_clock C P m ne)
]

-- under 2dfq+ virtual time never passes the cap
pub virtual_time_capped : (C : Config) (P : History) (m : ℕ) → C.policy ≡ TwoDfqPlus → virtual_time C P m ≤ (pace C P).reached
virtual_time_capped C P m is = omega (arith, time_by_pace C P m is)

paced_rises : (C : Config) (P : History) (m k : ℕ) → m ≤ k → paced_to C P (pace C P) m ≤ paced_to C P (pace C P) k
unfolding paced_advance
paced_rises C P m k h = let a = advance_rises (m - last_moment P) (k - last_moment P) (pool_at C P) (served_weight C P (pace C P)) (omega arith) in omega (arith, a)

-- virtual time never falls from one moment to a later one
pub virtual_time_rises : (C : Config) (P : History) (m k : ℕ) → m ≤ k → virtual_time C P m ≤ virtual_time C P k
virtual_time_rises C P m k h = elim (paced_or_not C.policy) [
  | inl is ↦ omega (arith, time_by_pace C P m is, time_by_pace C P k is, paced_rises C P m k h)
  | inr ne ↦ omega (arith, time_by_clock C P m ne, time_by_clock C P k ne, clock_time_rises C P m k h)
]

taken_rises : (C : Config) (P : History) (m : ℕ) (a : Act) (who : ℕ) → C.policy ≡ TwoDfqPlus → virtual_time C P m ≤ virtual_time C (one_more who m a P) m
unfolding pace
taken_rises C P m (Take worker request estimate) who is =
    omega (arith, time_by_pace C (one_more who m (Take worker request estimate) P) m is, time_by_pace C P m is)
taken_rises C P m a who is = omega (arith, virtual_time_step C P (record { who = who; moment = m; act = a }) refl)

-- nor from just before an entry to just after it
pub entry_rises : (C : Config) (P : History) (e : Entry) → virtual_time C P e.moment ≤ virtual_time C (e ∷ P) e.moment
entry_rises C P e = elim (paced_or_not C.policy) [
  | inl is ↦ taken_rises C P e.moment e.act e.who is
  | inr ne ↦ omega (arith, virtual_time_take C P e ne)
]

-- under 2dfq+ the pace does not pass the cap either, and is virtual time just after the last entry
now_capped_at : (C : Config) (P : History) (m : ℕ) (a : Act) (who : ℕ) → (pace C (one_more who m a P)).now ≤ (pace C (one_more who m a P)).reached
unfolding pace
now_capped_at C P m (Take worker request estimate) who = omega arith
now_capped_at C P m (Submit request tenant kind declared label) who = omega arith
now_capped_at C P m a who = omega arith

now_capped : (C : Config) (P : History) → (pace C P).now ≤ (pace C P).reached
unfolding pace
now_capped C [] = omega arith
now_capped C (e ∷ P) = now_capped_at C P e.moment e.act e.who

pub now_is_time : (C : Config) (P : History) → C.policy ≡ TwoDfqPlus → virtual_time C P (last_moment P) ≡ (pace C P).now
now_is_time C P is = omega (arith, time_by_pace C P (last_moment P) is, paced_none C P (pace C P), now_capped C P)

-- ---- the bases of tags

base_paced : (C : Config) (P : History) (who m t : ℕ) (a : Act) → (pace C (one_more who m a P)).base t ≡ cond (is_submit_for t a && is_none (head P t)) (max (paced_to C P (pace C P) m - virtual_charge C P t) ((pace C P).base t)) ((pace C P).base t)
unfolding pace
base_paced C P who m t (Submit request tenant kind declared label) = refl
base_paced C P who m t _ = refl

base_clock : (C : Config) (P : History) (e : Entry) (t : ℕ) → clock_base C (e ∷ P) t ≡ cond (is_submit_for t e.act && is_none (head P t)) (max (clock_time C P e.moment - virtual_charge C P t) (clock_base C P t)) (clock_base C P t)
unfolding clock_base
base_clock C P e t = refl

pub base_nil : (C : Config) (t : ℕ) → tag_base C [] t ≡ 0
unfolding pace clock_base
base_nil C t = elim (paced_or_not C.policy) [ inl is ↦ base_by_pace C [] t is | inr ne ↦ base_by_clock C [] t ne ]

-- at each entry: a Submit that finds none of its tenant's requests waiting raises the base to virtual time less charge
pub base_step : (C : Config) (P : History) (e : Entry) (t : ℕ) → tag_base C (e ∷ P) t ≡ cond (is_submit_for t e.act && is_none (head P t)) (max (virtual_time C P e.moment - virtual_charge C P t) (tag_base C P t)) (tag_base C P t)
base_step C P e t = elim (paced_or_not C.policy) [
  | inl is ↦ rw (base_by_pace C (e ∷ P) t is, base_by_pace C P t is, time_by_pace C P e.moment is) (base_paced C P e.who e.moment t e.act)
  | inr ne ↦ rw (base_by_clock C (e ∷ P) t ne, base_by_clock C P t ne, time_by_clock C P e.moment ne) (base_clock C P e t)
]

-- ---- limits

-- the cap and each start by the pace are at most the greatest length for each entry
pub record IsPacedLow (C : Config) (P : History) : Type 0 where
  pub cap_low : (pace C P).reached ≤ length P * greatest_length
  pub starts_low : (t : ℕ) → paced_start C P t ≤ length P * greatest_length

paced_low_nil : (C : Config) → IsPacedLow C []
unfolding pace
paced_low_nil C = record { cap_low = omega arith; starts_low = λ t. omega (arith, virtual_charge_nil C t) }

start_low_at : (C : Config) (P : History) (e : Entry) (t : ℕ) → InLimits C → IsLegal C (e ∷ P) → IsPacedLow C P → paced_start C (e ∷ P) t ≤ length (e ∷ P) * greatest_length
start_low_at C P e t lim l low = elim (cases_Bool (is_submit_for t e.act && is_none (head P t))) [
  | inl h ↦ (let b : (pace C (e ∷ P)).base t ≡ max (paced_to C P (pace C P) e.moment - virtual_charge C P t) ((pace C P).base t) = rw h at (base_paced C P e.who e.moment t e.act) in omega (arith, b, virtual_charge_grows C P e t lim l, low.starts_low t, low.cap_low))
  | inr h ↦ (let b : (pace C (e ∷ P)).base t ≡ (pace C P).base t = rw h at (base_paced C P e.who e.moment t e.act) in omega (arith, b, virtual_charge_grows C P e t lim l, low.starts_low t))
]

cap_low_at : (C : Config) (P : History) (who m : ℕ) (a : Act) → InLimits C → IsLegal C (one_more who m a P) → IsPacedLow C P → (pace C (one_more who m a P)).reached ≤ length (one_more who m a P) * greatest_length
cap_low_at C P who m (Take worker request estimate) lim l low =
    let q = l.3.asked in
    let asked = l.3.chosen.asked in
    let cost = estimate_range C P request q lim l.0 asked in
    let len = length_low C P q.tenant estimate lim l.0 (request_known C P request q l.0 asked).tenant_known (omega (arith, cost.1, l.3.chosen.estimate_is)) in
    omega (arith, reached_take C P who m worker request estimate q asked, low.cap_low, low.starts_low q.tenant, len)
cap_low_at C P who m a lim l low = omega (arith, reached_at C P m a who refl, low.cap_low)

pub paced_low : (C : Config) (P : History) → InLimits C → IsLegal C P → IsPacedLow C P
paced_low C [] lim l = paced_low_nil C
paced_low C (e ∷ P) lim l = let low = paced_low C P lim l.0 in record {
  cap_low = cap_low_at C P e.who e.moment e.act lim l low;
  starts_low = λ t. start_low_at C P e t lim l low;
}

pub cap_within : (C : Config) (P : History) → InLimits C → IsLegal C P → (pace C P).reached ≤ 10 ^ 25
cap_within C P lim l = omega (arith, (paced_low C P lim l).cap_low, (entries_low C P lim l).1)

-- virtual time wherever a legal history ends
pub virtual_time_within : (C : Config) (P : History) (m : ℕ) → InLimits C → IsLegal C P → last_moment P ≤ m → m ≤ GREATEST_MOMENT → virtual_time C P m ≤ 10 ^ 25
virtual_time_within C P m lim l h k = elim (paced_or_not C.policy) [
  | inl is ↦ omega (arith, virtual_time_capped C P m is, cap_within C P lim l)
  | inr ne ↦ omega (arith, time_by_clock C P m ne, clock_time_low C P m lim l h)
]
