-- How many requests of a tenant wait or run, and whether it is active.
use Rattle.std.proofs.Common.{ℕ, ◌≡◌, Bool, false, not, ◌&&◌, ◌||◌, refl, [], arith, ◌+◌, ◌^◌, ◌==◌, ◌<◌, cond, sym, ◌∙◌, inl, inr, ◌≤◌, true, ◌∷◌}
use Rattle.std.proofs.lemmas.Bool.{false≢true, cases_eq, eq-eqb, ne_eqb, not_from_false, cases_Bool, and_from, and_right, lt-ltb, and_parts}
use Rattle.fq_model.specs.Time.{is_open, open_requests, is_active}
use Rattle.fq_model.specs.declared.config.Config.{Config}
use Rattle.fq_model.specs.History.{History, submits, is_ended, is_waiting, request_bound, request_at, is_of_tenant, is_submitted}
use Rattle.fq_model.specs.Rules.{IsLegal, FitsUse}
use Rattle.fq_model.specs.declared.event.Act.TheVariants.{Submit, Done, Take, Report, Withdraw}
use Rattle.fq_model.specs.Sums.{count_below}
use Rattle.fq_model.specs.Limits.{InLimits}
use Rattle.fq_model.specs.declared.event.Entry.{Entry}
use Rattle.fq_laws.specs.Words.{one_more, is_quiet}
use Rattle.fq_model.specs.declared.event.Act.{Act}
use Rattle.fq_laws.proofs.Sums.{count_zero, count_same, count_more, count_at_most}
use Rattle.fq_laws.proofs.History.Requests.{fresh, fresh_unended, use_unended, waits_unended}
use Rattle.fq_laws.proofs.History.Numbers.{next_small, use_small, waits_number_small}
use Rattle.fq_laws.proofs.History.Asked.{and_with_true, is_of_asked, asked_submitted}
use Rattle.fq_laws.proofs.Rules.Limits.{submitted_count}

-- no request is open at first
pub open_nil : (t : ℕ) → open_requests [] t ≡ 0
unfolding open_requests is_open
open_nil t = count_zero (λ r. false) _ (λ r. refl)

pub inactive_nil : (t : ℕ) → is_active [] t ≡ false
unfolding is_active
inactive_nil t = rw (open_nil t) refl

not_open_next : (C : Config) (P : History) (t q : ℕ) → IsLegal C P → q ≡ submits P → is_open P t q ≡ false
unfolding is_open
not_open_next C P t q l n = rw (fresh C P q l (omega arith)) refl

-- a Submit opens a request of its tenant
pub open_submit : (C : Config) (P : History) (who m t q u kind declared label : ℕ) → InLimits C → IsLegal C P → q ≡ submits P → open_requests (one_more who m (Submit q u kind declared label) P) t ≡ open_requests P t + cond (u == t) 1 0
unfolding open_requests is_open is_ended request_bound
open_submit C P who m t q u kind declared label lim l n = let b : q < 2 ^ 32 = next_small C P q lim l n in elim (cases_Bool (u == t)) [
  | inl e ↦ rw e (count_more _ _ q (2 ^ 32) b (not_open_next C P t q l n) (rw (eq-eqb q q refl) (and_from (u == t) _ e (not_from_false _ (fresh_unended C P q l (omega arith))))) (λ s ne. rw (ne_eqb q s (λ x. ne (sym x))) refl))
  | inr e ↦ rw e (same e)
]
  where
    same : (u == t) ≡ false → count_below (is_open (one_more who m (Submit q u kind declared label) P) t) (2 ^ 32) ≡ count_below (is_open P t) (2 ^ 32) + 0
    same e = let k : count_below (is_open (one_more who m (Submit q u kind declared label) P) t) (2 ^ 32) ≡ count_below (is_open P t) (2 ^ 32) = count_same _ _ (2 ^ 32) (λ s c. elim (cases_eq q s) [
      | inl x ↦ rw (← x) (rw (eq-eqb q q refl, e) (sym (not_open_next C P t q l n)))
      | inr ne ↦ rw (ne_eqb q s ne) refl
    ]) in omega arith

-- where q alone is ended, of those that were not
closes : (P Q : History) (t q : ℕ) → q < 2 ^ 32 → is_ended P q ≡ false → ((s : ℕ) → is_open Q t s ≡ (is_open P t s && not (q == s))) → open_requests P t ≡ open_requests Q t + cond (is_of_tenant t (request_at P q)) 1 0
unfolding open_requests is_open request_bound
closes P Q t q b unended is = elim (cases_Bool (is_of_tenant t (request_at P q))) [
  | inl e ↦ rw e (count_more (is_open Q t) (is_open P t) q (2 ^ 32) b (is q ∙ rw (eq-eqb q q refl) (and_right _ _ refl)) (and_from _ _ e (not_from_false _ unended)) (λ s ne. is s ∙ rw (ne_eqb q s (λ x. ne (sym x))) (and_with_true _ _ refl)))
  | inr e ↦ rw e (same e)
]
  where
    same : is_of_tenant t (request_at P q) ≡ false → count_below (is_open P t) (2 ^ 32) ≡ count_below (is_open Q t) (2 ^ 32) + 0
    same e = let k : count_below (is_open P t) (2 ^ 32) ≡ count_below (is_open Q t) (2 ^ 32) = count_same _ _ (2 ^ 32) (λ s d. elim (cases_eq q s) [
      | inl x ↦ sym (is s ∙ rw (← x) (rw e refl))
      | inr ne ↦ sym (is s ∙ rw (ne_eqb q s ne) (and_with_true _ _ refl))
    ]) in omega arith

and_neither : (a b c : Bool) → (a && not (b || c)) ≡ ((a && not c) && not b)
and_neither true true true = refl
and_neither true true false = refl
and_neither true false true = refl
and_neither true false false = refl
and_neither false b c = refl

-- a Done closes one of its request's tenant
pub open_done : (C : Config) (P : History) (who m t w q c : ℕ) → InLimits C → IsLegal C P → FitsUse P w q c → open_requests P t ≡ open_requests (one_more who m (Done w q c) P) t + cond (is_of_tenant t (request_at P q)) 1 0
unfolding is_open is_ended
open_done C P who m t w q c lim l f = closes P (one_more who m (Done w q c) P) t q (use_small C P w q c lim l f) (use_unended C P w q c l f) (λ s. and_neither (is_of_tenant t (request_at P s)) (q == s) (is_ended P s))

-- so does a Withdraw
pub open_withdraw : (C : Config) (P : History) (who m t q : ℕ) → InLimits C → IsLegal C P → is_waiting P q ≡ true → open_requests P t ≡ open_requests (one_more who m (Withdraw q) P) t + cond (is_of_tenant t (request_at P q)) 1 0
unfolding is_open is_ended
open_withdraw C P who m t q lim l w = closes P (one_more who m (Withdraw q) P) t q (waits_number_small C P q lim l w) (waits_unended C P q l w) (λ s. and_neither (is_of_tenant t (request_at P s)) (q == s) (is_ended P s))

pub open_take : (P : History) (who m t w q c : ℕ) → open_requests (one_more who m (Take w q c) P) t ≡ open_requests P t
unfolding open_requests is_open is_ended
open_take P who m t w q c = refl

pub open_report : (P : History) (who m t w q used : ℕ) → open_requests (one_more who m (Report w q used) P) t ≡ open_requests P t
unfolding open_requests is_open is_ended
open_report P who m t w q used = refl

pub open_quiet : (P : History) (who m t : ℕ) (a : Act) → is_quiet a ≡ true → open_requests (one_more who m a P) t ≡ open_requests P t
unfolding open_requests is_open is_ended
open_quiet P who m t (Submit request tenant kind declared label) q = absurd (false≢true q)
open_quiet P who m t (Done worker request cost) q = absurd (false≢true q)
open_quiet P who m t (Withdraw request) q = absurd (false≢true q)
open_quiet P who m t _ q = refl

-- ---- the active weight

-- a tenant is active where it has an open request
pub active_of_open : (P : History) (t : ℕ) → 1 ≤ open_requests P t → is_active P t ≡ true
unfolding is_active
active_of_open P t h = lt-ltb 0 (open_requests P t) (omega arith)

pub inactive_of_open : (P : History) (t : ℕ) → open_requests P t ≡ 0 → is_active P t ≡ false
unfolding is_active
inactive_of_open P t h = rw h refl

pub active_same : (P : History) (e : Entry) (t : ℕ) → open_requests (e ∷ P) t ≡ open_requests P t → is_active (e ∷ P) t ≡ is_active P t
unfolding is_active
active_same P e t h = rw h refl

open_submitted : (P : History) (t r : ℕ) → is_open P t r ≡ true → is_submitted P r ≡ true
unfolding is_open
open_submitted P t r h = let x = is_of_asked t (request_at P r) (and_parts _ _ h).0 in asked_submitted P r x.0 x.1

pub open_requests_low : (C : Config) (P : History) (t : ℕ) → InLimits C → IsLegal C P → open_requests P t ≤ submits P
unfolding open_requests
open_requests_low C P t lim l = omega (arith, submitted_count C P lim l, count_at_most (is_open P t) (is_submitted P) request_bound (λ r h. open_submitted P t r h))
