-- Tenants that an entry does not concern, and keys that do not change.
use Rattle.std.proofs.Common.{subst, ℕ, ◌≡◌, false, refl, List, Option, Some, None, arith, ◌∷◌, ◌^◌, true, sym, ◌∙◌, ap}
use Rattle.std.proofs.lemmas.Bool.{eqb-false, false_from_ne_true, both_ways, and_parts, and_from, not-true, not_from_false}
use Rattle.fq_model.specs.History.{is_removed, Request, is_of_tenant, History, request_at, head, is_ended, waits_for, request_bound}
use Rattle.fq_model.specs.Charge.{with_completion, Completed, with_cost, completed_costs, completed, estimate_at, estimate_from, request_estimate}
use Rattle.fq_model.specs.declared.config.Config.{Config}
use Rattle.fq_model.specs.declared.event.Act.{Act}
use Rattle.fq_model.specs.declared.event.Act.TheVariants.{Submit, Take, Report, Done, Withdraw}
use Rattle.fq_model.specs.Limits.{InLimits}
use Rattle.fq_model.specs.Time.{open_requests, is_open, is_active, last_moment}
use Rattle.fq_model.specs.Rules.{IsLegal}
use Rattle.fq_model.specs.declared.event.Entry.{Entry}
use Rattle.fq_model.specs.Keys.{start, keys_at, keys_of_head, keys_of_request, tag}
use Rattle.fq_model.specs.Pace.{tag_base}
use Rattle.fq_laws.specs.Words.{concerns, Leaves, one_more}
use Rattle.fq_laws.specs.Changes.{no_change, Changes, change_of}
use Rattle.fq_laws.proofs.History.Heads.{head_same}
use Rattle.fq_laws.proofs.History.Queues.{head_submit, head_take_other, head_withdraw_other}
use Rattle.fq_laws.proofs.Keys.Pace.{base_step}
use Rattle.fq_laws.proofs.Keys.Tags.{base_submit_other}
use Rattle.fq_laws.proofs.Charge.Changes.{changes}
use Rattle.fq_laws.proofs.Sums.{count_some}
use Rattle.fq_laws.proofs.History.Requests.{ended_removed, asked_stays}
use Rattle.fq_laws.proofs.Rules.Takes.{heads, Heads}
use Rattle.fq_laws.proofs.Time.Open.{active_of_open}
use Rattle.fq_laws.proofs.Time.Clock.{idle_active, idle_step}
use Rattle.fq_laws.proofs.History.Weights.{weight_left}
use Rattle.fq_laws.proofs.History.Asked.{is_of_asked}

-- ---- tenants that an entry does not concern

costs_done : (cs : List Completed) (o : Option Request) (cost t k : ℕ) → is_of_tenant t o ≡ false → completed_costs (with_cost o cost cs) t k ≡ completed_costs cs t k
costs_done cs None cost t k h = refl
costs_done cs (Some q) cost t k h = rw h refl

nothing_changes : (C : Config) (P : History) (t : ℕ) (a : Act) → concerns P t a ≡ false → change_of C P t a ≡ record no_change { weight = (change_of C P t a).weight }
nothing_changes C P t (Submit request tenant kind declared label) off = rw off refl
nothing_changes C P t (Take worker request estimate) off = rw off refl
nothing_changes C P t (Report worker request used) off = rw off refl
nothing_changes C P t (Done worker request cost) off = rw off refl
nothing_changes C P t (Withdraw request) off = rw off refl
nothing_changes C P t _ off = refl

head_left : (C : Config) (P : History) (who m t : ℕ) (a : Act) → InLimits C → IsLegal C (one_more who m a P) → concerns P t a ≡ false → head (one_more who m a P) t ≡ head P t
unfolding waits_for is_removed
head_left C P who m t (Submit request tenant kind declared label) lim l off = let h = head_submit C P who m t request tenant kind declared label lim l in rw off at h
head_left C P who m t (Take worker request estimate) lim l off = head_take_other C P who m t worker request estimate lim l off
head_left C P who m t (Withdraw request) lim l off = head_withdraw_other C P who m t request lim l off
head_left C P who m t a lim l off = head_same P (one_more who m a P) t (λ r. refl)

base_left : (C : Config) (P : History) (who m t : ℕ) (a : Act) → concerns P t a ≡ false → tag_base C (one_more who m a P) t ≡ tag_base C P t
base_left C P who m t (Submit request tenant kind declared label) off = base_submit_other C P who m t request tenant kind declared label (eqb-false tenant t off)
base_left C P who m t a off = base_step C P (record { who = who; moment = m; act = a }) t

costs_left : (P : History) (t k : ℕ) (a : Act) → concerns P t a ≡ false → completed_costs (with_completion P a (completed P)) t k ≡ completed_costs (completed P) t k
costs_left P t k (Done worker request cost) off = costs_done (completed P) (request_at P request) cost t k off
costs_left P t k _ off = refl

-- an entry does not change the tenants that it does not concern
pub leaves : (C : Config) (P : History) (e : Entry) (t : ℕ) → InLimits C → IsLegal C (e ∷ P) → concerns P t e.act ≡ false → Leaves C P (e ∷ P) t
leaves C P e t lim l off =
    let d : Changes C P (e ∷ P) t (record no_change { weight = (change_of C P t e.act).weight }) = subst (Changes C P (e ∷ P) t) (nothing_changes C P t e.act off) (changes C P e t lim l) in
    record {
      head_same = head_left C P e.who e.moment t e.act lim l off;
      weight_same = weight_left C P e t off;
      charge_same = omega (arith, d.charge_is);
      net_same = omega (arith, d.net_is);
      base_same = base_left C P e.who e.moment t e.act off;
      open_same = omega (arith, d.open_is);
      costs_same = λ k. costs_left P t k e.act off;
    }

-- ---- keys

-- a tenant with a head is active
pub head_active : (C : Config) (P : History) (t r : ℕ) → IsLegal C P → head P t ≡ Some r → is_active P t ≡ true
unfolding open_requests is_open waits_for request_bound
head_active C P t r l h =
    let x : Heads P t r = heads P t r h in
    let p = and_parts _ _ x.waits_now in
    let unended : is_ended P r ≡ false = false_from_ne_true _ (λ d. both_ways _ (not-true _ p.1) (ended_removed C P r l d)) in
    active_of_open P t (count_some (is_open P t) r (2 ^ 32) x.small (and_from _ _ p.0 (not_from_false _ unended)))

-- a tenant's start does not depend on the moment while the tenant has a head
pub start_moment : (C : Config) (P : History) (m t r : ℕ) → IsLegal C P → head P t ≡ Some r → start C P m t ≡ start C P (last_moment P) t
unfolding start
start_moment C P m t r l h = rw (idle_active C P m t (head_active C P t r l h)) refl

-- nor do its keys
pub keys_moment : (C : Config) (P : History) (m t : ℕ) → IsLegal C P → keys_at C P m t ≡ keys_at C P (last_moment P) t
unfolding keys_at
keys_moment C P m t l = go (head P t) refl
  where
    inner : (r : ℕ) (o : Option Request) → head P t ≡ Some r → keys_of_request C P m t r o ≡ keys_of_request C P (last_moment P) t r o
    inner r None is = refl
    inner r (Some q) is = rw (start_moment C P m t r l is) refl

    go : (o : Option ℕ) → head P t ≡ o → keys_of_head C P m t o ≡ keys_of_head C P (last_moment P) t o
    go None is = refl
    go (Some r) is = inner r (request_at P r) is

-- two moments give the same keys
pub keys_still : (C : Config) (P : History) (m n t : ℕ) → IsLegal C P → keys_at C P m t ≡ keys_at C P n t
keys_still C P m n t l = keys_moment C P m t l ∙ sym (keys_moment C P n t l)

-- a tenant's start, after an entry that leaves the tenant
pub start_left : (C : Config) (P : History) (e : Entry) (t r : ℕ) → IsLegal C P → head P t ≡ Some r → Leaves C P (e ∷ P) t → start C (e ∷ P) e.moment t ≡ start C P (last_moment P) t
unfolding start tag
start_left C P e t r l h s = rw (s.charge_same, s.base_same, idle_step C P e t, idle_active C P e.moment t (head_active C P t r l h)) refl

-- the estimate of a tenant's request, after an entry that leaves the tenant
pub estimate_left : (C : Config) (P : History) (e : Entry) (t : ℕ) (q : Request) → q.tenant ≡ t → Leaves C P (e ∷ P) t → request_estimate C (e ∷ P) q ≡ request_estimate C P q
unfolding estimate_at
estimate_left C P e t q is s = let k : completed_costs (completed (e ∷ P)) q.tenant q.kind ≡ completed_costs (completed P) q.tenant q.kind = rw is (s.costs_same q.kind) in ap (λ cs. estimate_from C.estimate C.initial cs q.declared) k

-- the keys of a tenant stay, after an entry that leaves it
pub keys_left : (C : Config) (P : History) (e : Entry) (t : ℕ) → IsLegal C (e ∷ P) → Leaves C P (e ∷ P) t → keys_at C (e ∷ P) e.moment t ≡ keys_at C P (last_moment P) t
unfolding keys_at waits_for
keys_left C P e t l s = rw s.head_same (go (head P t) refl)
  where
    inner : (r : ℕ) (o : Option Request) → head P t ≡ Some r → request_at P r ≡ o → keys_of_request C (e ∷ P) e.moment t r (request_at (e ∷ P) r) ≡ keys_of_request C P (last_moment P) t r o
    inner r None is was = let x : Heads P t r = heads P t r is in let y = is_of_asked t (request_at P r) (and_parts _ _ x.waits_now).0 in let k : Some y.0 ≡ None = sym y.1 ∙ was in absurd (cc)
    inner r (Some q) is was =
        let x : Heads P t r = heads P t r is in
        let y = is_of_asked t (request_at P r) (and_parts _ _ x.waits_now).0 in
        let mine : q.tenant ≡ t = (let k : Some q ≡ Some y.0 = sym was ∙ y.1 in let j : q ≡ y.0 = cc in rw j y.2) in
        rw (asked_stays C P e r q l was) (rw (start_left C P e t r l.0 is s, estimate_left C P e t q mine s, s.weight_same) refl)

    go : (o : Option ℕ) → head P t ≡ o → keys_of_head C (e ∷ P) e.moment t o ≡ keys_of_head C P (last_moment P) t o
    go None is = refl
    go (Some r) is = inner r (request_at P r) is refl

-- so the keys of a tenant at any moment stay, at an entry that does not concern it
pub keys_unconcerned : (C : Config) (P : History) (e : Entry) (m n t : ℕ) → InLimits C → IsLegal C (e ∷ P) → concerns P t e.act ≡ false → keys_at C (e ∷ P) m t ≡ keys_at C P n t
keys_unconcerned C P e m n t lim l off = keys_moment C (e ∷ P) m t l ∙ (keys_left C P e t l (leaves C P e t lim l off) ∙ sym (keys_moment C P n t l.0))
