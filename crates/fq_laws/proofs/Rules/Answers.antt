-- Each call has exactly one answer, which leaves a legal history.
use Rattle.std.proofs.Common.{Option, None, ℕ, refl, ◌≤◌, ◌≡◌, ◌<◌, ap, sym, ◌∙◌, Some, ◌==◌, Bool, true, false, cond, arith, subst, inr, inl}
use Rattle.std.specs.Prelude.{MatchBool, nat_le}
use Rattle.std.proofs.lemmas.Bool.{eqb-false}
use Rattle.fq_model.specs.declared.config.Config.{Config}
use Rattle.fq_model.specs.History.{History, Request, waiting, request_at, is_closed, submits, pool_at}
use Rattle.fq_model.specs.Charge.{request_estimate}
use Rattle.fq_model.specs.Keys.{HeadKeys, IsChoiceAt}
use Rattle.fq_model.specs.Rules.{RefusedOrElse, IsChosen, IsLegal, IsAccepted, IsAnswered, RunsChosen, AnswersPooled, AnswersFree, RunsNothing, request_on, submit_refusal, take_refusal, report_refusal, done_refusal, close_refusal, weight_refusal, workers_refusal, withdraw_refusal, label_of, Answers, Fits}
use Rattle.fq_model.specs.declared.event.Act.{Act}
use Rattle.fq_model.specs.declared.event.Reply.{Reply}
use Rattle.fq_model.specs.Time.{effective_moment}
use Rattle.fq_model.specs.declared.event.Act.TheVariants.{Take, Submit, Report, Done, Close, Weight, Workers, Withdraw}
use Rattle.fq_model.specs.declared.event.Call.{Call}
use Rattle.fq_model.specs.Limits.{InLimits}
use Rattle.fq_model.specs.declared.event.Cause.{Cause}
use Rattle.fq_model.specs.declared.event.Call.TheVariants as call
use Rattle.fq_model.specs.declared.event.Reply.TheVariants as answer
use Rattle.fq_laws.specs.Words.{one_more, Extends, caller, named_moment}
use Rattle.fq_laws.proofs.Rules.Takes.{choice_head}
use Rattle.fq_laws.proofs.Keys.Choices.{keys_of, KeysOf, chosen, chosen_keys}
use Rattle.fq_laws.proofs.Rules.Refusals.{SomeReply, refused_exists, refused_one, refused_keeps, le_false, submit_fits, take_free, report_fits, done_fits, close_fits, weight_fits, workers_fits, withdraw_fits}
use Rattle.fq_laws.proofs.Rules.Limits.{effective_rises, effective_small}

-- ---- the request that a worker takes

-- the head of the tenant with these keys is the chosen request
pub is_chosen : (C : Config) (P : History) (m i t : ℕ) (k : HeadKeys) → IsChoiceAt C P m i t k → (q : Request) × IsChosen C P m i k.request (request_estimate C P q) q
is_chosen C P m i t k c =
    let z : KeysOf C P m t k = keys_of C P m t k (choice_head C P m i t k c) in
    (z.what, record { tenant = t; keys = k; choice = c; request_is = refl; asked = z.was_asked; estimate_is = refl })

-- where something waits, a request is chosen
pub chosen_exists : (C : Config) (P : History) (m i : ℕ) → IsLegal C P → 1 ≤ waiting P → (r : ℕ) × (estimate : ℕ) × (q : Request) × IsChosen C P m i r estimate q
chosen_exists C P m i l w =
    let x = chosen C P m i l w in
    let y = is_chosen C P m i x.0 x.1 x.2 in
    (x.1.request, request_estimate C P y.0, y.0, y.1)

pub chosen_request_one : (C : Config) (P : History) (m i r s a b : ℕ) (p q : Request) → IsChosen C P m i r a p → IsChosen C P m i s b q → r ≡ s
chosen_request_one C P m i r s a b p q x y =
    let e : x.keys ≡ y.keys = chosen_keys C P m i x.tenant y.tenant x.keys y.keys x.choice y.choice in
    x.request_is ∙ (ap (λ z. z.request) e ∙ sym y.request_is)

pub chosen_asked_one : (C : Config) (P : History) (m i r s a b : ℕ) (p q : Request) → IsChosen C P m i r a p → IsChosen C P m i s b q → p ≡ q
chosen_asked_one C P m i r s a b p q x y =
    let e : r ≡ s = chosen_request_one C P m i r s a b p q x y in
    let k : Some p ≡ Some q = sym x.asked ∙ (ap (request_at P) e ∙ y.asked) in
    cc

pub chosen_estimate_one : (C : Config) (P : History) (m i r s a b : ℕ) (p q : Request) → IsChosen C P m i r a p → IsChosen C P m i s b q → a ≡ b
chosen_estimate_one C P m i r s a b p q x y =
    let e : p ≡ q = chosen_asked_one C P m i r s a b p q x y in
    x.estimate_is ∙ (ap (request_estimate C P) e ∙ sym y.estimate_is)

-- ---- a call is refused for a cause, or answered so

-- why a call is refused, if it is
abbrev refusal_of : Config → History → Call → Option Cause
refusal_of C P (call.Submit who moment tenant kind declared label) = submit_refusal C P tenant kind declared
refusal_of C P (call.Take who moment worker) = take_refusal C P worker
refusal_of C P (call.Report who moment worker used) = report_refusal C P worker used
refusal_of C P (call.Done who moment worker cost) = done_refusal C P worker cost
refusal_of C P (call.Close who moment) = close_refusal P
refusal_of C P (call.Weight who moment tenant weight) = weight_refusal C P tenant weight
refusal_of C P (call.Workers who moment count) = workers_refusal C P count
refusal_of C P (call.Withdraw who moment request) = withdraw_refusal P request

-- the act of a call that is accepted, and its reply; those of a Take are not read
abbrev act_of : History → Call → Act
act_of P (call.Submit who moment tenant kind declared label) = Submit (submits P) tenant kind declared label
act_of P (call.Report who moment worker used) = Report worker (request_on P worker) used
act_of P (call.Done who moment worker cost) = Done worker (request_on P worker) cost
act_of P (call.Weight who moment tenant weight) = Weight tenant weight
act_of P (call.Workers who moment count) = Workers count
act_of P (call.Withdraw who moment request) = Withdraw request
act_of P _ = Close

abbrev reply_of : History → Call → Reply
reply_of P (call.Submit who moment tenant kind declared label) = answer.Request (submits P)
reply_of P (call.Withdraw who moment request) = answer.Withdrawn (label_of (request_at P request))
reply_of P _ = answer.Accepted

-- the reply and the history of a call that is not refused
abbrev Unrefused : Config → History → Call → Reply → History → Type 0
Unrefused C P (call.Take who moment worker) r Q = AnswersFree C P who moment worker r Q
Unrefused C P c r Q = IsAccepted P (caller c) (named_moment c) (act_of P c) (reply_of P c) r Q

refused_or : (C : Config) (P : History) (c : Call) (r : Reply) (Q : History) → Answers C P c r Q → RefusedOrElse (refusal_of C P c) P r Q (Unrefused C P c r Q)
refused_or C P (call.Take who moment worker) r Q x = x
refused_or C P c r Q x = x

answers_so : (C : Config) (P : History) (c : Call) (r : Reply) (Q : History) → RefusedOrElse (refusal_of C P c) P r Q (Unrefused C P c r Q) → Answers C P c r Q
answers_so C P (call.Take who moment worker) r Q x = x
answers_so C P c r Q x = x

-- ---- there is an answer

pooled_at : (C : Config) (P : History) (who moment i : ℕ) (b : Bool) → IsLegal C P → (waiting P == 0) ≡ b → SomeReply (λ reply Q. MatchBool b (IsAnswered P (cond (is_closed P) answer.Drained answer.Idle) reply Q) (RunsChosen C P who moment i reply Q))
pooled_at C P who moment i true l e = (cond (is_closed P) answer.Drained answer.Idle, P, (refl, refl))
pooled_at C P who moment i false l e =
    let w : 1 ≤ waiting P = omega (arith, eqb-false (waiting P) 0 e) in
    let x = chosen_exists C P (effective_moment P moment) i l w in (
      answer.Run x.0 x.1 x.2.label,
      one_more who (effective_moment P moment) (Take i x.0 x.1) P,
      record { request = x.0; estimate = x.1; asked = x.2; chosen = x.3; accepted = (refl, refl) },
    )

free_at : (C : Config) (P : History) (who moment i : ℕ) (p : Bool) → IsLegal C P → SomeReply (λ reply Q. MatchBool p (IsAnswered P (answer.Retired (pool_at C P)) reply Q) (AnswersPooled C P who moment i reply Q))
free_at C P who moment i true l = (answer.Retired (pool_at C P), P, (refl, refl))
free_at C P who moment i false l = pooled_at C P who moment i (waiting P == 0) l refl

unrefused_exists : (C : Config) (P : History) (c : Call) → IsLegal C P → SomeReply (λ r Q. Unrefused C P c r Q)
unrefused_exists C P (call.Take who moment worker) l = free_at C P who moment worker (nat_le (pool_at C P) worker) l
unrefused_exists C P c l = (reply_of P c, one_more (caller c) (effective_moment P (named_moment c)) (act_of P c) P, (refl, refl))

-- each call has an answer
pub answered : (C : Config) (P : History) (c : Call) → IsLegal C P → SomeReply (λ r Q. Answers C P c r Q)
answered C P c l = let x = refused_exists (refusal_of C P c) P (Unrefused C P c) (λ e. unrefused_exists C P c l) in (x.0, x.1, answers_so C P c x.0 x.1 x.2)

-- ---- and no other

pub runs_chosen_one : (C : Config) (P : History) (who moment i : ℕ) (r s : Reply) (Q R : History) → RunsChosen C P who moment i r Q → RunsChosen C P who moment i s R → (r ≡ s) × (Q ≡ R)
runs_chosen_one C P who moment i r s Q R x y =
    let m : ℕ = effective_moment P moment in
    let e : x.request ≡ y.request = chosen_request_one C P m i x.request y.request x.estimate y.estimate x.asked y.asked x.chosen y.chosen in
    let f : x.asked ≡ y.asked = chosen_asked_one C P m i x.request y.request x.estimate y.estimate x.asked y.asked x.chosen y.chosen in
    let g : x.estimate ≡ y.estimate = chosen_estimate_one C P m i x.request y.request x.estimate y.estimate x.asked y.asked x.chosen y.chosen in
    let same : answer.Run x.request x.estimate x.asked.label ≡ answer.Run y.request y.estimate y.asked.label = ap (λ z. answer.Run z x.estimate x.asked.label) e ∙ (ap (λ z. answer.Run y.request z x.asked.label) g ∙ ap (λ z. answer.Run y.request y.estimate z.label) f) in
    let left : one_more who m (Take i x.request x.estimate) P ≡ one_more who m (Take i y.request y.estimate) P = ap (λ z. one_more who m (Take i z x.estimate) P) e ∙ ap (λ z. one_more who m (Take i y.request z) P) g in
    (x.accepted.0 ∙ (same ∙ sym y.accepted.0), x.accepted.1 ∙ (left ∙ sym y.accepted.1))

pooled_one_at : (C : Config) (P : History) (who moment i : ℕ) (b : Bool) (wanted r s : Reply) (Q R : History) → MatchBool b (IsAnswered P wanted r Q) (RunsChosen C P who moment i r Q) → MatchBool b (IsAnswered P wanted s R) (RunsChosen C P who moment i s R) → (r ≡ s) × (Q ≡ R)
pooled_one_at C P who moment i true wanted r s Q R x y = (x.0 ∙ sym y.0, x.1 ∙ sym y.1)
pooled_one_at C P who moment i false wanted r s Q R x y = runs_chosen_one C P who moment i r s Q R x y

free_one_at : (C : Config) (P : History) (who moment i : ℕ) (p : Bool) (wanted r s : Reply) (Q R : History) → MatchBool p (IsAnswered P wanted r Q) (AnswersPooled C P who moment i r Q) → MatchBool p (IsAnswered P wanted s R) (AnswersPooled C P who moment i s R) → (r ≡ s) × (Q ≡ R)
free_one_at C P who moment i true wanted r s Q R x y = (x.0 ∙ sym y.0, x.1 ∙ sym y.1)
free_one_at C P who moment i false wanted r s Q R x y = pooled_one_at C P who moment i (waiting P == 0) (cond (is_closed P) answer.Drained answer.Idle) r s Q R x y

unrefused_one : (C : Config) (P : History) (c : Call) (r s : Reply) (Q R : History) → Unrefused C P c r Q → Unrefused C P c s R → (r ≡ s) × (Q ≡ R)
unrefused_one C P (call.Take who moment worker) r s Q R x y = free_one_at C P who moment worker (nat_le (pool_at C P) worker) (answer.Retired (pool_at C P)) r s Q R x y
unrefused_one C P c r s Q R x y = (x.0 ∙ sym y.0, x.1 ∙ sym y.1)

-- each call has one answer at most
pub answer_one : (C : Config) (P : History) (c : Call) (r s : Reply) (Q R : History) → Answers C P c r Q → Answers C P c s R → (r ≡ s) × (Q ≡ R)
answer_one C P c r s Q R x y = refused_one (refusal_of C P c) P r s Q R (Unrefused C P c r Q) (Unrefused C P c s R) (λ e. unrefused_one C P c r s Q R) (refused_or C P c r Q x) (refused_or C P c s R y)

-- ---- the history after an answer

-- an act that fits at the effective moment leaves a legal history
pub accepted_legal : (C : Config) (P : History) (who moment : ℕ) (a : Act) → IsLegal C P → Fits C P (effective_moment P moment) a → IsLegal C (one_more who (effective_moment P moment) a P)
accepted_legal C P who moment a l f = (l, effective_rises C P moment l, effective_small P moment, f)

accepted_keeps : (C : Config) (P : History) (who moment : ℕ) (a : Act) (wanted r : Reply) (Q : History) → IsLegal C P → Fits C P (effective_moment P moment) a → IsAccepted P who moment a wanted r Q → IsLegal C Q
accepted_keeps C P who moment a wanted r Q l f x = subst (IsLegal C) (sym x.1) (accepted_legal C P who moment a l f)

pooled_legal_at : (C : Config) (P : History) (who moment i : ℕ) (b : Bool) (wanted r : Reply) (Q : History) → IsLegal C P → i < pool_at C P → RunsNothing P i → MatchBool b (IsAnswered P wanted r Q) (RunsChosen C P who moment i r Q) → IsLegal C Q
pooled_legal_at C P who moment i true wanted r Q l known free x = subst (IsLegal C) (sym x.1) l
pooled_legal_at C P who moment i false wanted r Q l known free x =
    accepted_keeps C P who moment (Take i x.request x.estimate) (answer.Run x.request x.estimate x.asked.label) r Q l (record { worker_known = known; free = free; asked = x.asked; chosen = x.chosen }) x.accepted

free_legal_at : (C : Config) (P : History) (who moment i : ℕ) (p : Bool) (r : Reply) (Q : History) → nat_le (pool_at C P) i ≡ p → IsLegal C P → RunsNothing P i → MatchBool p (IsAnswered P (answer.Retired (pool_at C P)) r Q) (AnswersPooled C P who moment i r Q) → IsLegal C Q
free_legal_at C P who moment i true r Q e l free x = subst (IsLegal C) (sym x.1) l
free_legal_at C P who moment i false r Q e l free x = pooled_legal_at C P who moment i (waiting P == 0) (cond (is_closed P) answer.Drained answer.Idle) r Q l (le_false (pool_at C P) i e) free x

unrefused_legal : (C : Config) (P : History) (c : Call) (r : Reply) (Q : History) → InLimits C → IsLegal C P → refusal_of C P c ≡ None → Unrefused C P c r Q → IsLegal C Q
unrefused_legal C P (call.Submit who moment tenant kind declared label) r Q lim l e x = accepted_keeps C P who moment _ _ r Q l (submit_fits C P tenant kind declared lim l e) x
unrefused_legal C P (call.Take who moment worker) r Q lim l e x = free_legal_at C P who moment worker (nat_le (pool_at C P) worker) r Q refl l (take_free C P worker l e) x
unrefused_legal C P (call.Report who moment worker used) r Q lim l e x = accepted_keeps C P who moment _ _ r Q l (report_fits C P worker used l e) x
unrefused_legal C P (call.Done who moment worker cost) r Q lim l e x = accepted_keeps C P who moment _ _ r Q l (done_fits C P worker cost l e) x
unrefused_legal C P (call.Close who moment) r Q lim l e x = accepted_keeps C P who moment _ _ r Q l (close_fits P e) x
unrefused_legal C P (call.Weight who moment tenant weight) r Q lim l e x = accepted_keeps C P who moment _ _ r Q l (weight_fits C P tenant weight e) x
unrefused_legal C P (call.Workers who moment count) r Q lim l e x = accepted_keeps C P who moment _ _ r Q l (workers_fits C P count e) x
unrefused_legal C P (call.Withdraw who moment request) r Q lim l e x = accepted_keeps C P who moment _ _ r Q l (withdraw_fits P request e) x

-- an answer leaves a legal history legal
pub answer_legal : (C : Config) (P : History) (c : Call) (r : Reply) (Q : History) → InLimits C → IsLegal C P → Answers C P c r Q → IsLegal C Q
answer_legal C P c r Q lim l x = refused_keeps (refusal_of C P c) P r Q (Unrefused C P c r Q) (IsLegal C) l (unrefused_legal C P c r Q lim l) (refused_or C P c r Q x)

pooled_extends_at : (C : Config) (P : History) (who moment i : ℕ) (b : Bool) (wanted r : Reply) (Q : History) → MatchBool b (IsAnswered P wanted r Q) (RunsChosen C P who moment i r Q) → Extends who moment P Q
pooled_extends_at C P who moment i true wanted r Q x = inl x.1
pooled_extends_at C P who moment i false wanted r Q x = inr (Take i x.request x.estimate, x.accepted.1)

free_extends_at : (C : Config) (P : History) (who moment i : ℕ) (p : Bool) (r : Reply) (Q : History) → MatchBool p (IsAnswered P (answer.Retired (pool_at C P)) r Q) (AnswersPooled C P who moment i r Q) → Extends who moment P Q
free_extends_at C P who moment i true r Q x = inl x.1
free_extends_at C P who moment i false r Q x = pooled_extends_at C P who moment i (waiting P == 0) (cond (is_closed P) answer.Drained answer.Idle) r Q x

unrefused_extends : (C : Config) (P : History) (c : Call) (r : Reply) (Q : History) → Unrefused C P c r Q → Extends (caller c) (named_moment c) P Q
unrefused_extends C P (call.Take who moment worker) r Q x = free_extends_at C P who moment worker (nat_le (pool_at C P) worker) r Q x
unrefused_extends C P c r Q x = inr (act_of P c, x.1)

-- an answer leaves the history as it was, or adds one entry
pub answer_extends : (C : Config) (P : History) (c : Call) (r : Reply) (Q : History) → Answers C P c r Q → Extends (caller c) (named_moment c) P Q
answer_extends C P c r Q x = refused_keeps (refusal_of C P c) P r Q (Unrefused C P c r Q) (Extends (caller c) (named_moment c) P) (inl refl) (λ e. unrefused_extends C P c r Q) (refused_or C P c r Q x)

-- ---- a refused call changes nothing

pooled_refused_at : (C : Config) (P : History) (who moment i : ℕ) (b : Bool) (wanted : Reply) (x : Cause) (Q : History) → MatchBool b (IsAnswered P wanted (answer.Refused x) Q) (RunsChosen C P who moment i (answer.Refused x) Q) → Q ≡ P
pooled_refused_at C P who moment i true wanted x Q h = h.1
pooled_refused_at C P who moment i false wanted x Q h = let no : answer.Refused x ≡ answer.Run h.request h.estimate h.asked.label = h.accepted.0 in absurd (cc)

free_refused_at : (C : Config) (P : History) (who moment i : ℕ) (p : Bool) (x : Cause) (Q : History) → MatchBool p (IsAnswered P (answer.Retired (pool_at C P)) (answer.Refused x) Q) (AnswersPooled C P who moment i (answer.Refused x) Q) → Q ≡ P
free_refused_at C P who moment i true x Q h = h.1
free_refused_at C P who moment i false x Q h = pooled_refused_at C P who moment i (waiting P == 0) (cond (is_closed P) answer.Drained answer.Idle) x Q h

unrefused_unlike : (C : Config) (P : History) (c : Call) (x : Cause) (Q : History) → Unrefused C P c (answer.Refused x) Q → Q ≡ P
unrefused_unlike C P (call.Take who moment worker) x Q h = free_refused_at C P who moment worker (nat_le (pool_at C P) worker) x Q h
unrefused_unlike C P (call.Submit who moment tenant kind declared label) x Q h = let no : answer.Refused x ≡ answer.Request (submits P) = h.0 in absurd (cc)
unrefused_unlike C P (call.Withdraw who moment request) x Q h = let no : answer.Refused x ≡ answer.Withdrawn (label_of (request_at P request)) = h.0 in absurd (cc)
unrefused_unlike C P _ x Q h = let no : answer.Refused x ≡ answer.Accepted = h.0 in absurd (cc)

-- a refused call leaves the history as it was
pub refused_leaves : (C : Config) (P : History) (c : Call) (x : Cause) (Q : History) → Answers C P c (answer.Refused x) Q → Q ≡ P
refused_leaves C P c x Q h = refused_keeps (refusal_of C P c) P (answer.Refused x) Q (Unrefused C P c (answer.Refused x) Q) (λ R. R ≡ P) refl (λ e. unrefused_unlike C P c x Q) (refused_or C P c (answer.Refused x) Q h)
