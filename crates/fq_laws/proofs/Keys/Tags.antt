-- Tags, their bases and tenants' starts: how they change at one entry more, and their limits.
use Rattle.std.proofs.Common.{length, true, ◌^◌, ℕ, ◌≡◌, refl, [], ◌-◌, max, ◌&&◌, ◌∷◌, None, ◌==◌, inl, inr, Some, ◌≢◌, ◌≤◌, arith, ◌+◌, subst, sym, ◌*◌}
use Rattle.std.specs.Prelude.{is_none}
use Rattle.std.proofs.lemmas.Bool.{false≢true, eq-eqb, cases_Bool, ne_eqb}
use Rattle.fq_model.specs.declared.config.Config.{Config}
use Rattle.fq_model.specs.Keys.{tag, start, start_for}
use Rattle.fq_model.specs.Pace.{tag_base, is_submit_for, virtual_time}
use Rattle.fq_model.specs.declared.event.Entry.{Entry}
use Rattle.fq_model.specs.History.{History, head, submits}
use Rattle.fq_model.specs.Time.{virtual_idle_time, last_moment}
use Rattle.fq_model.specs.Charge.{virtual_charge}
use Rattle.fq_model.specs.declared.event.Act.TheVariants.{Submit, Take}
use Rattle.fq_model.specs.declared.event.Act.{Act}
use Rattle.fq_model.specs.Rules.{IsLegal, Fits, FitsSubmit}
use Rattle.fq_model.specs.declared.config.Policy.{Policy}
use Rattle.fq_model.specs.declared.config.Policy.TheVariants.{Wfq, Wf2q, Msf2q, TwoDfq, TwoDfqPlus}
use Rattle.fq_model.specs.Limits.{InLimits}
use Rattle.vt_fixed.specs.declared.limits.TheConstants.{GREATEST_MOMENT}
use Rattle.fq_laws.specs.Words.{one_more, is_quiet, greatest_rate, greatest_length}
use Rattle.fq_laws.proofs.Charge.Tenants.{virtual_charge_submit}
use Rattle.fq_laws.proofs.Time.Clock.{clock_time_low, virtual_idle_time_low}
use Rattle.fq_laws.proofs.Keys.Pace.{paced_or_not, time_by_clock, base_by_pace, base_nil, base_step, paced_start, paced_low}
use Rattle.fq_laws.proofs.Charge.Limits.{virtual_charge_low}
use Rattle.fq_laws.proofs.Rules.Limits.{submits_low, entries_low, last_moment_small}

-- a Submit that finds none of its tenant's requests waiting raises the base to virtual time less virtual charge
pub base_submit : (C : Config) (P : History) (who m q t kind declared label : ℕ) → head P t ≡ None → tag_base C (one_more who m (Submit q t kind declared label) P) t ≡ max (virtual_time C P m - virtual_charge C P t) (tag_base C P t)
base_submit C P who m q t kind declared label h = rw (base_step C P (record { who = who; moment = m; act = Submit q t kind declared label }) t, eq-eqb t t refl, h) refl

-- one that finds some waiting leaves it
pub base_submit_waiting : (C : Config) (P : History) (who m t q u kind declared label h : ℕ) → head P t ≡ Some h → tag_base C (one_more who m (Submit q u kind declared label) P) t ≡ tag_base C P t
base_submit_waiting C P who m t q u kind declared label h is = rw (base_step C P (record { who = who; moment = m; act = Submit q u kind declared label }) t, is) (elim (cases_Bool (u == t)) [ inl e ↦ rw e refl | inr e ↦ rw e refl ])

-- so does one of another tenant
pub base_submit_other : (C : Config) (P : History) (who m t q u kind declared label : ℕ) → u ≢ t → tag_base C (one_more who m (Submit q u kind declared label) P) t ≡ tag_base C P t
base_submit_other C P who m t q u kind declared label ne = rw (base_step C P (record { who = who; moment = m; act = Submit q u kind declared label }) t, ne_eqb u t ne) refl

-- and each other act
pub base_take : (C : Config) (P : History) (who m t w q c : ℕ) → tag_base C (one_more who m (Take w q c) P) t ≡ tag_base C P t
base_take C P who m t w q c = base_step C P (record { who = who; moment = m; act = Take w q c }) t

pub base_quiet : (C : Config) (P : History) (who m t : ℕ) (a : Act) → is_quiet a ≡ true → tag_base C (one_more who m a P) t ≡ tag_base C P t
base_quiet C P who m t (Submit request tenant kind declared label) q = absurd (false≢true q)
base_quiet C P who m t a q = base_step C P (record { who = who; moment = m; act = a }) t

-- the base never falls
pub base_rises : (C : Config) (P : History) (e : Entry) (t : ℕ) → tag_base C P t ≤ tag_base C (e ∷ P) t
base_rises C P e t = rw (base_step C P e t) (elim (cases_Bool (is_submit_for t e.act && is_none (head P t))) [ inl h ↦ rw h (omega arith) | inr h ↦ rw h (omega arith) ])

-- ---- tags and starts

pub tag_is : (C : Config) (P : History) (t : ℕ) → tag C P t ≡ virtual_charge C P t + tag_base C P t
unfolding tag
tag_is C P t = refl

-- the tag after a Submit that finds none waiting is at least virtual time
pub tag_submit : (C : Config) (P : History) (who m q t kind declared label : ℕ) → head P t ≡ None → virtual_charge C (one_more who m (Submit q t kind declared label) P) t ≡ virtual_charge C P t → tag C (one_more who m (Submit q t kind declared label) P) t ≡ max (virtual_time C P m) (tag C P t)
unfolding tag
tag_submit C P who m q t kind declared label h same = omega (arith, base_submit C P who m q t kind declared label h, same)

-- the tag in a legal history, after a Submit that finds none of its tenant's requests waiting
pub tag_after : (C : Config) (P : History) (e : Entry) (request tenant kind declared label : ℕ) → IsLegal C (e ∷ P) → e.act ≡ Submit request tenant kind declared label → head P tenant ≡ None → tag C (e ∷ P) tenant ≡ max (virtual_time C P e.moment) (tag C P tenant)
tag_after C P e request tenant kind declared label l is h =
    let f : FitsSubmit C P request tenant kind declared = subst (Fits C P e.moment) is l.3 in
    subst (λ (a : Act). tag C (one_more e.who e.moment a P) tenant ≡ max (virtual_time C P e.moment) (tag C P tenant)) (sym is)
    (tag_submit C P e.who e.moment request tenant kind declared label h (virtual_charge_submit C P e.who e.moment tenant request tenant kind declared label l.0 f.numbered))

-- whatever the policy
pub start_is : (C : Config) (P : History) (m t : ℕ) → start C P m t ≡ virtual_charge C P t + start_for C.policy (tag_base C P t) (virtual_idle_time C P m t)
unfolding start tag
start_is C P m t = go C.policy
  where
    go : (p : Policy) → start_for p (virtual_charge C P t + tag_base C P t) (virtual_charge C P t + virtual_idle_time C P m t) ≡ virtual_charge C P t + start_for p (tag_base C P t) (virtual_idle_time C P m t)
    go Wfq = refl
    go Wf2q = refl
    go Msf2q = refl
    go TwoDfq = refl
    go TwoDfqPlus = refl

-- ---- limits

-- by the clock a base is at most the greatest virtual time of its moment
base_low : (C : Config) (P : History) (t : ℕ) → C.policy ≢ TwoDfqPlus → InLimits C → IsLegal C P → tag_base C P t ≤ last_moment P * greatest_rate
base_low C [] t ne lim l = omega (arith, base_nil C t)
base_low C (e ∷ P) t ne lim l =
    let v : virtual_time C P e.moment ≤ e.moment * greatest_rate = omega (arith, time_by_clock C P e.moment ne, clock_time_low C P e.moment lim l.0 l.1) in
    let older : tag_base C P t ≤ last_moment P * greatest_rate = base_low C P t ne lim l.0 in
    let order : last_moment P ≤ e.moment = l.1 in
    rw (base_step C P e t) (elim (cases_Bool (is_submit_for t e.act && is_none (head P t))) [ inl h ↦ rw h (omega (arith, v, older, order)) | inr h ↦ rw h (omega (arith, older, order)) ])

pub base_within : (C : Config) (P : History) (t : ℕ) → InLimits C → IsLegal C P → tag_base C P t ≤ 10 ^ 25
base_within C P t lim l = elim (paced_or_not C.policy) [
  | inl is ↦ omega (arith, base_by_pace C P t is, (paced_low C P lim l).starts_low t, (entries_low C P lim l).1)
  | inr ne ↦ omega (arith, base_low C P t ne lim l, last_moment_small C P l)
]

-- so is a tenant's start, beside the greatest length of each request
pub start_low : (C : Config) (P : History) (m t : ℕ) → C.policy ≢ TwoDfqPlus → InLimits C → IsLegal C P → last_moment P ≤ m → start C P m t ≤ submits P * greatest_length + m * greatest_rate
start_low C P m t ne lim l h = rw (start_is C P m t) (go C.policy ne)
  where
    go : (p : Policy) → p ≢ TwoDfqPlus → virtual_charge C P t + start_for p (tag_base C P t) (virtual_idle_time C P m t) ≤ submits P * greatest_length + m * greatest_rate
    go Wfq _ = omega (arith, virtual_charge_low C P t lim l, base_low C P t ne lim l)
    go Wf2q _ = omega (arith, virtual_charge_low C P t lim l, base_low C P t ne lim l)
    go Msf2q _ = omega (arith, virtual_charge_low C P t lim l, virtual_idle_time_low C P m t lim l h)
    go TwoDfq _ = omega (arith, virtual_charge_low C P t lim l, base_low C P t ne lim l)
    go TwoDfqPlus not = absurd (not refl)

tagged : (p : Policy) (by_tag by_idle_time : ℕ) → p ≡ TwoDfqPlus → start_for p by_tag by_idle_time ≡ by_tag
tagged p by_tag by_idle_time is = rw is refl

-- under 2dfq+ a tenant starts at its tag, by the pace
pub start_paced : (C : Config) (P : History) (m t : ℕ) → C.policy ≡ TwoDfqPlus → start C P m t ≡ paced_start C P t
start_paced C P m t is =
    let by_tag : start_for C.policy (tag_base C P t) (virtual_idle_time C P m t) ≡ tag_base C P t = tagged C.policy (tag_base C P t) (virtual_idle_time C P m t) is in
    omega (arith, start_is C P m t, by_tag, base_by_pace C P t is)

-- and at most at the greatest length for each entry
pub start_paced_low : (C : Config) (P : History) (m t : ℕ) → C.policy ≡ TwoDfqPlus → InLimits C → IsLegal C P → start C P m t ≤ length P * greatest_length
start_paced_low C P m t is lim l = omega (arith, start_paced C P m t is, (paced_low C P lim l).starts_low t)

pub start_within : (C : Config) (P : History) (m t : ℕ) → InLimits C → IsLegal C P → last_moment P ≤ m → m ≤ GREATEST_MOMENT → start C P m t ≤ 10 ^ 25
start_within C P m t lim l h b = elim (paced_or_not C.policy) [
  | inl is ↦ omega (arith, start_paced_low C P m t is lim l, (entries_low C P lim l).1)
  | inr ne ↦ (let k = submits_low C P lim l in omega (arith, start_low C P m t ne lim l h, k.1))
]

-- so is its tag
pub tag_within : (C : Config) (P : History) (t : ℕ) → InLimits C → IsLegal C P → tag C P t ≤ 2 * 10 ^ 25
unfolding tag
tag_within C P t lim l = omega (arith, base_within C P t lim l, virtual_charge_low C P t lim l, (submits_low C P lim l).1)
