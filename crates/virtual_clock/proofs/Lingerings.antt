-- The tenants that linger after one entry more.
use Rattle.std.proofs.Common.{ℕ, ◌<◌, ◌≤◌, ◌≡◌, ◌≢◌, ◌^◌, Bool, true, false, nat_lt, arith, refl, sym, ◌∙◌, inl, inr, ◌∷◌, [], Option, Some, None, length, replicate, ℤ, pos}
use Rattle.std.proofs.lemmas.Bool.{cases_Bool, cases_lt, lt-ltb, le-ltb, and_from, not_from_false, false≢true}
use Rattle.std.proofs.lemmas.Int.{ints}
use Rattle.std.proofs.lemmas.List.{get_or-replicate, length-replicate}
use Rattle.fq_model.specs.declared.config.Config.{Config}
use Rattle.fq_model.specs.declared.config.Policy.{Policy}
use Rattle.fq_model.specs.declared.config.Policy.TheVariants.{TwoDfqPlus}
use Rattle.fq_model.specs.declared.event.Act.{Act}
use Rattle.fq_model.specs.declared.event.Act.TheVariants.{Submit, Take, Report, Done, Close, Weight, Workers, Withdraw}
use Rattle.fq_model.specs.declared.event.Entry.{Entry}
use Rattle.fq_model.specs.Limits.{InLimits}
use Rattle.fq_model.specs.History.{History, is_of_tenant, request_at, is_ended, request_bound}
use Rattle.fq_model.specs.Time.{is_open, open_requests, is_active}
use Rattle.fq_model.specs.Pace.{pace, virtual_time}
use Rattle.fq_model.specs.Keys.{tag}
use Rattle.fq_model.specs.Rules.{IsLegal, Fits}
use Rattle.fq_laws.specs.Words.{concerns}
use Rattle.fq_laws.proofs.Sums.{count_some}
use Rattle.fq_laws.proofs.History.Requests.{waits_unended, use_unended}
use Rattle.fq_laws.proofs.History.Numbers.{waits_number_small, use_small}
use Rattle.fq_laws.proofs.Rules.Takes.{take_waits}
use Rattle.fq_laws.proofs.Time.Open.{inactive_nil, active_of_open, active_same}
use Rattle.fq_laws.proofs.Charge.Tenants.{virtual_charge_nil}
use Rattle.fq_laws.proofs.Keys.Pace.{paced_or_not, now_is_time, entry_rises, base_nil}
use Rattle.fq_laws.proofs.Keys.Tags.{tag_is}
use Rattle.fq_laws.proofs.Keys.Others.{leaves}
use Rattle.winner_tree.specs.declared.key.Key.{Key}
use Rattle.virtual_clock.specs.Lingering.{key_for, IsReached, IsAhead, Settled}
use Rattle.virtual_clock.specs.Histories.{under_plus, lingers, lingering_key, LingeringAre}
use Rattle.virtual_clock.proofs.ClockSteps.{time_since_last}
use Rattle.virtual_clock.proofs.Opening.{passes}

-- ---- who lingers

off : (p : Policy) → under_plus p false ≡ false
off TwoDfqPlus = refl
off _ = refl

off_by_clock : (p : Policy) (b : Bool) → p ≢ TwoDfqPlus → under_plus p b ≡ false
off_by_clock TwoDfqPlus b ne = absurd (ne refl)
off_by_clock _ b ne = refl

on_plus : (p : Policy) (b : Bool) → p ≡ TwoDfqPlus → under_plus p b ≡ b
on_plus p b is = rw is refl

-- no active tenant does, and none under another policy
pub active_not : (C : Config) (P : History) (t : ℕ) → is_active P t ≡ true → lingers C P t ≡ false
active_not C P t on = rw on (off C.policy)

pub by_clock_not : (C : Config) (P : History) (t : ℕ) → C.policy ≢ TwoDfqPlus → lingers C P t ≡ false
by_clock_not C P t ne = off_by_clock C.policy _ ne

pub inactive_lingers : (C : Config) (P : History) (t : ℕ) → C.policy ≡ TwoDfqPlus → is_active P t ≡ false → lingers C P t ≡ nat_lt (pace C P).now (tag C P t)
inactive_lingers C P t is idle = on_plus C.policy _ is ∙ rw idle refl

pub no_key : (C : Config) (P : History) (t : ℕ) → lingers C P t ≡ false → lingering_key C P t ≡ None
no_key C P t h = rw h refl

pub with_key : (C : Config) (P : History) (t : ℕ) → lingers C P t ≡ true → lingering_key C P t ≡ Some (key_for (pos (tag C P t)))
with_key C P t h = rw h refl

-- ---- what is settled

pub none_settled : (v : ℤ) (before after : Option Key) → before ≡ None → after ≡ None → Settled v before after
none_settled v before after b a = rw (b, a) (inl (cc, refl))

not_both : (v : ℤ) (o : Option Key) → IsAhead v o → IsReached v o → ⊥
not_both v None ahead reached = reached
not_both v (Some key) ahead reached = absurd (omega (arith, ints, ahead, reached))

pub settled_alike : (v : ℤ) (before x y : Option Key) → Settled v before x → Settled v before y → x ≡ y
settled_alike v before x y (inl a) (inl b) = a.1 ∙ sym b.1
settled_alike v before x y (inl a) (inr b) = absurd (not_both v before a.0 b.0)
settled_alike v before x y (inr a) (inl b) = absurd (not_both v before b.0 a.0)
settled_alike v before x y (inr a) (inr b) = a.1 ∙ sym b.1

-- a tenant that stays inactive lingers on, or virtual time has come to its start
tag_settled : (C : Config) (P : History) (e : Entry) (t : ℕ) → C.policy ≡ TwoDfqPlus → is_active P t ≡ false → is_active (e ∷ P) t ≡ false → tag C (e ∷ P) t ≡ tag C P t → Settled (pos (virtual_time C (e ∷ P) e.moment)) (lingering_key C P t) (lingering_key C (e ∷ P) t)
tag_settled C P e t is idle still same =
    let before = now_is_time C P is in
    let after : virtual_time C (e ∷ P) e.moment ≡ (pace C (e ∷ P)).now = now_is_time C (e ∷ P) is in
    let rises : (pace C P).now ≤ (pace C (e ∷ P)).now = omega (arith, before, after, time_since_last C P e.moment, entry_rises C P e) in
    elim (cases_lt (pace C P).now (tag C P t)) [
      | inl above ↦ elim (cases_lt (pace C (e ∷ P)).now (tag C P t)) [
        | inl ahead ↦ rw (with_key C P t (inactive_lingers C P t is idle ∙ lt-ltb _ _ above), with_key C (e ∷ P) t (inactive_lingers C (e ∷ P) t is still ∙ rw same (lt-ltb _ _ ahead)), same, after) (inl (omega (arith, ints, ahead), refl))
        | inr come ↦ rw (with_key C P t (inactive_lingers C P t is idle ∙ lt-ltb _ _ above), no_key C (e ∷ P) t (inactive_lingers C (e ∷ P) t is still ∙ rw same (le-ltb _ _ come)), after) (inr (omega (arith, ints, come), refl))
      ]
      | inr below ↦ none_settled _ _ _ (no_key C P t (inactive_lingers C P t is idle ∙ le-ltb _ _ below)) (no_key C (e ∷ P) t (inactive_lingers C (e ∷ P) t is still ∙ rw same (le-ltb _ _ (omega (arith, below, rises)))))
    ]

-- so does each tenant whose open requests stay as many, and whose tag stays unless it is active
pub key_settled : (C : Config) (P : History) (e : Entry) (t : ℕ) → open_requests (e ∷ P) t ≡ open_requests P t → (is_active P t ≡ false → tag C (e ∷ P) t ≡ tag C P t) → Settled (pos (virtual_time C (e ∷ P) e.moment)) (lingering_key C P t) (lingering_key C (e ∷ P) t)
key_settled C P e t open_same tag_same = elim (cases_Bool (is_active P t)) [
  | inl on ↦ none_settled _ _ _ (no_key C P t (active_not C P t on)) (no_key C (e ∷ P) t (active_not C (e ∷ P) t (active_same P e t open_same ∙ on)))
  | inr idle ↦ elim (paced_or_not C.policy) [
    | inl is ↦ tag_settled C P e t is idle (active_same P e t open_same ∙ idle) (tag_same idle)
    | inr ne ↦ none_settled _ _ _ (no_key C P t (by_clock_not C P t ne)) (no_key C (e ∷ P) t (by_clock_not C (e ∷ P) t ne))
  ]
]

-- ---- tags that stay

tag_left : (C : Config) (P : History) (e : Entry) (t : ℕ) → InLimits C → IsLegal C (e ∷ P) → concerns P t e.act ≡ false → tag C (e ∷ P) t ≡ tag C P t
tag_left C P e t lim l none =
    let same = leaves C P e t lim l none in
    omega (arith, tag_is C P t, tag_is C (e ∷ P) t, same.charge_same, same.base_same)

-- each tenant that an entry does not concern
pub key_left : (C : Config) (P : History) (e : Entry) (t : ℕ) → InLimits C → IsLegal C (e ∷ P) → concerns P t e.act ≡ false → Settled (pos (virtual_time C (e ∷ P) e.moment)) (lingering_key C P t) (lingering_key C (e ∷ P) t)
key_left C P e t lim l none = key_settled C P e t (leaves C P e t lim l none).open_same (λ idle. tag_left C P e t lim l none)

-- a tenant with a request that is not ended is active
owner_active : (P : History) (t r : ℕ) → r < 2 ^ 32 → is_of_tenant t (request_at P r) ≡ true → is_ended P r ≡ false → is_active P t ≡ true
unfolding open_requests is_open request_bound
owner_active P t r small mine unended = active_of_open P t (count_some (is_open P t) r (2 ^ 32) small (and_from _ _ mine (not_from_false _ unended)))

-- so it is one whose request is taken or reported
user_active : (C : Config) (P : History) (m t : ℕ) (a : Act) → passes a ≡ true → InLimits C → IsLegal C P → Fits C P m a → concerns P t a ≡ true → is_active P t ≡ true
user_active C P m t (Take worker request estimate) p lim l f mine =
    let waits = take_waits C P m worker request estimate f in
    owner_active P t request (waits_number_small C P request lim l waits) mine (waits_unended C P request l waits)
user_active C P m t (Report worker request used) p lim l f mine =
    owner_active P t request (use_small C P worker request used lim l f.0) mine (use_unended C P worker request used l f.0)
user_active C P m t (Submit request tenant kind declared label) p lim l f mine = absurd (false≢true p)
user_active C P m t (Done worker request cost) p lim l f mine = absurd (false≢true p)
user_active C P m t (Withdraw request) p lim l f mine = absurd (false≢true p)
user_active C P m t (Weight tenant weight) p lim l f mine = absurd (false≢true p)
user_active C P m t (Workers count) p lim l f mine = absurd (false≢true p)
user_active C P m t Close p lim l f mine = absurd (false≢true mine)

-- a Take, a Report and a Close change the tag of no inactive tenant
pub tag_passed : (C : Config) (P : History) (e : Entry) (t : ℕ) → InLimits C → IsLegal C (e ∷ P) → passes e.act ≡ true → is_active P t ≡ false → tag C (e ∷ P) t ≡ tag C P t
tag_passed C P e t lim l p idle = elim (cases_Bool (concerns P t e.act)) [
  | inl mine ↦ absurd (false≢true (sym idle ∙ user_active C P e.moment t e.act p lim l.0 l.3 mine))
  | inr none ↦ tag_left C P e t lim l none
]

-- ---- at first

none_at_first : (C : Config) (t : ℕ) → lingers C [] t ≡ false
none_at_first C t = elim (paced_or_not C.policy) [
  | inl is ↦ inactive_lingers C [] t is (inactive_nil t) ∙ le-ltb _ _ (omega (arith, tag_is C [] t, virtual_charge_nil C t, base_nil C t))
  | inr ne ↦ by_clock_not C [] t ne
]

pub lingering_nil : (C : Config) → LingeringAre C [] (replicate (length C.weights) None)
lingering_nil C = record {
  tenants = length-replicate (length C.weights) None;
  each = λ t known. get_or-replicate (length C.weights) t None None known ∙ sym (no_key C [] t (none_at_first C t));
}
