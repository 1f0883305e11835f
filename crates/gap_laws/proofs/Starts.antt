-- The start of a tenant that waits: at one entry more, and in its head's keys.
use Rattle.std.proofs.Common.{ℕ, ◌+◌, ◌≤◌, ◌≡◌, refl, arith, ◌∷◌, ◌∙◌, ◌&&◌, false, Some}
use Rattle.std.specs.Prelude.{is_none}
use Rattle.std.proofs.lemmas.Bool.{and_right}
use Rattle.fq_model.specs.declared.config.Config.{Config}
use Rattle.fq_model.specs.declared.config.Policy.{Policy}
use Rattle.fq_model.specs.declared.config.Policy.TheVariants.{Wfq, Wf2q, Msf2q, TwoDfq, TwoDfqPlus}
use Rattle.fq_model.specs.declared.event.Entry.{Entry}
use Rattle.fq_model.specs.Limits.{InLimits}
use Rattle.fq_model.specs.History.{History, head}
use Rattle.fq_model.specs.Time.{last_moment, virtual_idle_time}
use Rattle.fq_model.specs.Charge.{virtual_charge}
use Rattle.fq_model.specs.Keys.{start, start_for}
use Rattle.fq_model.specs.Pace.{tag_base, is_submit_for}
use Rattle.fq_model.specs.Rules.{IsLegal}
use Rattle.fq_laws.proofs.Keys.Pace.{base_step}
use Rattle.fq_laws.proofs.Keys.Tags.{base_rises, start_is}
use Rattle.fq_laws.proofs.Keys.Others.{head_active}
use Rattle.fq_laws.proofs.Time.Clock.{idle_step, idle_split, idle_next_active}
use Rattle.gap_laws.specs.Words.{taken_length}
use Rattle.gap_laws.proofs.Declared.{AllDeclared, charge_step}

-- while a tenant waits its base stays
pub base_waiting : (C : Config) (P : History) (e : Entry) (t r : ℕ) → head P t ≡ Some r → tag_base C (e ∷ P) t ≡ tag_base C P t
base_waiting C P e t r h =
    let some : is_none (head P t) ≡ false = rw h refl in
    let off : (is_submit_for t e.act && is_none (head P t)) ≡ false = and_right _ _ some in
    base_step C P e t ∙ rw off refl

-- and its start changes as its virtual charge does, under each policy
pub start_step : (C : Config) (P : History) (e : Entry) (t r : ℕ) → IsLegal C P → head P t ≡ Some r → start C (e ∷ P) e.moment t + virtual_charge C P t ≡ start C P (last_moment P) t + virtual_charge C (e ∷ P) t
start_step C P e t r l h =
    let base : tag_base C (e ∷ P) t ≡ tag_base C P t = base_waiting C P e t r h in
    let idle : virtual_idle_time C (e ∷ P) e.moment t ≡ virtual_idle_time C P (last_moment P) t = idle_next_active C P e t (head_active C P t r l h) in
    let same : start_for C.policy (tag_base C (e ∷ P) t) (virtual_idle_time C (e ∷ P) e.moment t) ≡ start_for C.policy (tag_base C P t) (virtual_idle_time C P (last_moment P) t) = rw (base, idle) refl in
    omega (arith, start_is C (e ∷ P) e.moment t, start_is C P (last_moment P) t, same)

-- whether it waits or not, its start rises by no less than its virtual charge
at_least : (policy : Policy) (base base2 idle idle2 : ℕ) → base ≤ base2 → idle ≤ idle2 → start_for policy base idle ≤ start_for policy base2 idle2
at_least Wfq base base2 idle idle2 h k = h
at_least Wf2q base base2 idle idle2 h k = h
at_least Msf2q base base2 idle idle2 h k = k
at_least TwoDfq base base2 idle idle2 h k = h
at_least TwoDfqPlus base base2 idle idle2 h k = h

pub start_rises : (C : Config) (P : History) (e : Entry) (t : ℕ) → start C P (last_moment P) t + virtual_charge C (e ∷ P) t ≤ start C (e ∷ P) e.moment t + virtual_charge C P t
start_rises C P e t =
    let idle : virtual_idle_time C P (last_moment P) t ≤ virtual_idle_time C (e ∷ P) e.moment t = omega (arith, idle_step C P e t, idle_split C P e.moment t) in
    omega (arith, start_is C (e ∷ P) e.moment t, start_is C P (last_moment P) t, at_least C.policy _ _ _ _ (base_rises C P e t) idle)

-- so its start rises by the length that the entry takes, where every request is as declared
pub start_taken : (C : Config) (P : History) (e : Entry) (t r : ℕ) → InLimits C → IsLegal C (e ∷ P) → AllDeclared C (e ∷ P) → head P t ≡ Some r → start C (e ∷ P) e.moment t ≡ start C P (last_moment P) t + taken_length C P t e.act
start_taken C P e t r lim l d h = omega (arith, start_step C P e t r l.0 h, charge_step C P e t lim l d)
