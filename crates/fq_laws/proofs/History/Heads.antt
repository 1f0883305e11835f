-- Which requests of a tenant wait, and its head.
use Rattle.std.proofs.Common.{ℕ, ◌≡◌, ◌≢◌, refl, true, false, ◌==◌, not, arith, ◌≤◌, [], ◌<◌, ◌^◌, length, inl, inr, Some, None, Option, sym, ◌∙◌}
use Rattle.std.proofs.lemmas.Bool.{ne_eqb, eq-eqb, not_from_false, and_right, and_parts, cases_lt, both_ways, false_from_ne_true, and_from}
use Rattle.fq_model.specs.declared.event.Act.TheVariants.{Submit, Take, Withdraw}
use Rattle.fq_model.specs.History.{History, is_removed, waits_for, submits, request_at, WaitsFor, head, request_bound, IsHead, Request, is_submitted, is_waiting, waiting}
use Rattle.fq_model.specs.declared.config.Config.{Config}
use Rattle.fq_model.specs.Rules.{IsLegal}
use Rattle.fq_model.specs.Limits.{InLimits}
use Rattle.fq_laws.specs.Words.{one_more}
use Rattle.fq_laws.proofs.History.Requests.{fresh_unremoved, fresh, submitted_below, tenant_below}
use Rattle.fq_laws.proofs.History.Asked.{and_with_true, asked_submitted, is_of_asked, unasked}
use Rattle.fq_laws.proofs.History.Numbers.{tenant_small}
use Rattle.fq_laws.proofs.Sums.{least_same, least_by, least_exists, count_found}
use Rattle.fq_laws.proofs.Rules.Takes.{heads, Heads, no_head}

-- ---- which requests of t wait, at one entry more

pub waits_submit_same : (P : History) (who m t r q u kind declared label : ℕ) → q ≢ r → waits_for (one_more who m (Submit q u kind declared label) P) t r ≡ waits_for P t r
unfolding waits_for is_removed
waits_submit_same P who m t r q u kind declared label ne = rw (ne_eqb q r ne) refl

pub waits_submit_new : (C : Config) (P : History) (who m t q u kind declared label : ℕ) → IsLegal C P → q ≡ submits P → waits_for (one_more who m (Submit q u kind declared label) P) t q ≡ (u == t)
unfolding waits_for is_removed
waits_submit_new C P who m t q u kind declared label l n = rw (eq-eqb q q refl) (and_with_true (u == t) (not (is_removed P q)) (not_from_false _ (fresh_unremoved C P q l (omega arith))))

pub waits_fresh : (C : Config) (P : History) (t r : ℕ) → IsLegal C P → submits P ≤ r → waits_for P t r ≡ false
unfolding waits_for
waits_fresh C P t r l n = rw (fresh C P r l n) refl

pub waits_take_same : (P : History) (who m t r w q estimate : ℕ) → q ≢ r → waits_for (one_more who m (Take w q estimate) P) t r ≡ waits_for P t r
unfolding waits_for is_removed
waits_take_same P who m t r w q estimate ne = rw (ne_eqb q r ne) refl

pub waits_take_gone : (P : History) (who m t w q estimate : ℕ) → waits_for (one_more who m (Take w q estimate) P) t q ≡ false
unfolding waits_for is_removed
waits_take_gone P who m t w q estimate = rw (eq-eqb q q refl) (and_right _ _ refl)

pub waits_withdraw_same : (P : History) (who m t r q : ℕ) → q ≢ r → waits_for (one_more who m (Withdraw q) P) t r ≡ waits_for P t r
unfolding waits_for is_removed
waits_withdraw_same P who m t r q ne = rw (ne_eqb q r ne) refl

pub waits_withdraw_gone : (P : History) (who m t q : ℕ) → waits_for (one_more who m (Withdraw q) P) t q ≡ false
unfolding waits_for is_removed
waits_withdraw_gone P who m t q = rw (eq-eqb q q refl) (and_right _ _ refl)

pub waits_none : (t r : ℕ) → waits_for [] t r ≡ false
unfolding waits_for
waits_none t r = refl

pub waits_below : (C : Config) (P : History) (t r : ℕ) → IsLegal C P → WaitsFor P t r → r < submits P
unfolding waits_for
waits_below C P t r l w =
    let x = is_of_asked t (request_at P r) (and_parts _ _ w).0 in
    submitted_below C P r l (asked_submitted P r x.0 x.1)

pub waits_small : (C : Config) (P : History) (t r : ℕ) → InLimits C → IsLegal C P → WaitsFor P t r → r < 2 ^ 32
unfolding waits_for
waits_small C P t r lim l w = tenant_small C P t r lim l (and_parts _ _ w).0

pub waits_tenant_known : (C : Config) (P : History) (t r : ℕ) → IsLegal C P → WaitsFor P t r → t < length C.weights
unfolding waits_for
waits_tenant_known C P t r l w = tenant_below C P t r l (and_parts _ _ w).0

-- ---- the head of a tenant

-- where P and Q have the same waiting requests of t, they have the same head of t
pub head_same : (P Q : History) (t : ℕ) → ((r : ℕ) → waits_for Q t r ≡ waits_for P t r) → head Q t ≡ head P t
unfolding head
head_same P Q t h = least_same (waits_for Q t) (waits_for P t) request_bound h

-- the head is the least waiting request of its tenant
pub head_is_head : (C : Config) (P : History) (t r : ℕ) → IsLegal C P → head P t ≡ Some r → IsHead P t r
head_is_head C P t r l h =
    let x : Heads P t r = heads P t r h in
    record {
      waits = x.waits_now;
      least = λ s w. elim (cases_lt s r) [ inl b ↦ absurd (both_ways _ (x.least s b) w) | inr b ↦ b ];
    }

-- the least waiting request of a tenant is its head
pub is_head_head : (C : Config) (P : History) (t r : ℕ) → InLimits C → IsLegal C P → IsHead P t r → head P t ≡ Some r
unfolding head request_bound
is_head_head C P t r lim l h = least_by (waits_for P t) (2 ^ 32) (Some r) (
  h.waits,
  waits_small C P t r lim l h.waits,
  λ s b. false_from_ne_true _ (λ w. let k : r ≤ s = h.least s w in omega arith),
)

-- a tenant with no head has nothing that waits
pub head_none_waits : (C : Config) (P : History) (t r : ℕ) → InLimits C → IsLegal C P → head P t ≡ None → ¬ WaitsFor P t r
head_none_waits C P t r lim l h = λ w. both_ways _ (no_head P t r h (waits_small C P t r lim l w)) w

-- a tenant of which nothing waits has no head
pub waits_none_head : (P : History) (t : ℕ) → ((r : ℕ) → ¬ WaitsFor P t r) → head P t ≡ None
unfolding head
waits_none_head P t h = least_by (waits_for P t) request_bound None (λ s b. false_from_ne_true _ (h s))

pub head_tenant_known : (C : Config) (P : History) (t r : ℕ) → IsLegal C P → head P t ≡ Some r → t < length C.weights
head_tenant_known C P t r l h = let x : Heads P t r = heads P t r h in waits_tenant_known C P t r l x.waits_now

-- ---- heads and the number of waiting requests

-- a tenant, and its head
pub record HasHead (C : Config) (P : History) : Type 0 where
  pub tenant : ℕ
  pub request : ℕ
  pub known : tenant < length C.weights
  pub is_head : head P tenant ≡ Some request

-- where something waits, a tenant has a head
pub waiting_head : (C : Config) (P : History) → IsLegal C P → 1 ≤ waiting P → HasHead C P
unfolding waiting is_waiting waits_for head request_bound
waiting_head C P l h =
    let x = count_found (is_waiting P) (2 ^ 32) h in
    let p = and_parts _ _ x.2 in
    go x.0 x.1 p.1 p.0 (request_at P x.0) refl
  where
    go : (r : ℕ) → r < 2 ^ 32 → not (is_removed P r) ≡ true → is_submitted P r ≡ true → (o : Option Request) → request_at P r ≡ o → HasHead C P
    go r b un sub None is = absurd (both_ways _ (unasked P r is) sub)
    go r b un sub (Some q) is =
        let w : waits_for P q.tenant r ≡ true = rw is (and_from _ _ (eq-eqb q.tenant q.tenant refl) un) in
        let e = least_exists (waits_for P q.tenant) (2 ^ 32) r b w in
        record { tenant = q.tenant; request = e.0; known = head_tenant_known C P q.tenant e.0 l e.1; is_head = e.1 }

-- where no tenant has a head, nothing waits
pub heads_none_waiting : (C : Config) (P : History) → IsLegal C P → ((t : ℕ) → t < length C.weights → head P t ≡ None) → waiting P ≡ 0
heads_none_waiting C P l h = elim (cases_lt 0 (waiting P)) [
  | inl b ↦ (let x : HasHead C P = waiting_head C P l b in let k : Some x.request ≡ None = sym x.is_head ∙ h x.tenant x.known in absurd (cc))
  | inr b ↦ omega arith
]
