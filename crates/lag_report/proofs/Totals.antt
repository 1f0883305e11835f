-- A tenant's line of a report, by the courses of its requests.
use Rattle.std.proofs.Common.{ℕ, zero, suc, ◌+◌, ◌<◌, ◌≤◌, ◌≡◌, ◌^◌, Bool, true, false, not, cond, nat_eq, List, [], ◌∷◌, Some, None, unwrap_or, length, take, arith, refl, ap, sym, ◌∙◌, subst, inl, inr, add-one, sum_by, nat_lt}
use Rattle.std.specs.List.{position, position_or_len}
use Rattle.std.proofs.lemmas.Bool.{cases_eq, cases_Bool, cond-true, cond-false, eq-eqb, ne_eqb, false≢true, and_from, and_left, and_right, true_from_ne_false, ltb-true, ltb-false}
use Rattle.std.proofs.lemmas.List.{take_all}
use Rattle.std.proofs.lemmas.List.Sums.{sum_by_more, sum_by_push, sum_by-set, fails_before_first, passes_at_first}
use Rattle.fq_model.specs.declared.config.Config.{Config}
use Rattle.fq_model.specs.declared.event.Act.{Act}
use Rattle.fq_model.specs.declared.event.Act.TheVariants.{Submit, Take, Done, Withdraw}
use Rattle.fq_model.specs.Limits.{InLimits}
use Rattle.fq_model.specs.Sums.{sum_below}
use Rattle.fq_model.specs.History.{History, Request, request_at, request_in, submits, is_submitted, is_taken, is_done, is_ended, is_of_tenant, request_bound}
use Rattle.fq_model.specs.Charge.{net_charge, net_charged, final_cost, cost_in}
use Rattle.fq_model.specs.Rules.{IsLegal, Fits}
use Rattle.fq_model.specs.Lag.{work_of, work_done_for, work_done, measured_cost}
use Rattle.fq_model.specs.Report.{submits_for, with_submit_for, unfinished, is_unfinished}
use Rattle.fq_laws.proofs.Sums.{sum_same, sum_at, sum_zero, least_none, least_by}
use Rattle.fq_laws.proofs.History.Requests.{fresh, fresh_unsubmitted, fresh_untaken, done_taken, untaken_undone, withdrawn_untaken}
use Rattle.fq_laws.proofs.History.Asked.{asked_submitted, ended_by}
use Rattle.fq_laws.proofs.History.Numbers.{submits_small}
use Rattle.fq_laws.proofs.Charge.Requests.{charge_final, cost_none}
use Rattle.fq_laws.proofs.Charge.Tenants.{net_charged_untaken, net_charged_taken}
use Rattle.lag_report.specs.declared.course.Course.{Course}
use Rattle.lag_report.specs.Courses.{submitted, course_at, courses_after, courses_of, own, NamesOneOf}
use Rattle.lag_report.specs.Work.{worked}
use Rattle.lag_report.proofs.CoursesAre.{course_of, tenant_in, courses_are, names_known}

-- ---- sums over courses and over numbers

sum_to : (f : Course → ℕ) (cs : List Course) (n : ℕ) → n ≤ length cs → sum_by f (take n cs) ≡ sum_below (λ r. f (course_at cs r)) n
unfolding sum_below
sum_to f cs zero h = refl
sum_to f cs (suc n) h =
    let more : sum_by f (take (n + 1) cs) ≡ sum_by f (take n cs) + f (course_at cs n) = sum_by_more f cs n (submitted 0 0) (omega arith) in
    let same : sum_by f (take (suc n) cs) ≡ sum_by f (take (n + 1) cs) = ap (λ k. sum_by f (take k cs)) (sym (add-one n)) in
    omega (arith, same, more, sum_to f cs n (omega arith))

sum_beyond : (f : ℕ → ℕ) (n m : ℕ) → n ≤ m → ((r : ℕ) → n ≤ r → f r ≡ 0) → sum_below f m ≡ sum_below f n
unfolding sum_below
sum_beyond f n zero h none = let same : zero ≡ n = omega arith in ap (sum_below f) same
sum_beyond f n (suc m) h none = elim (cases_eq n (suc m)) [
  | inl e ↦ ap (sum_below f) (sym e)
  | inr ne ↦ omega (arith, none m (omega (arith, ne)), sum_beyond f n m (omega (arith, ne)) none)
]

-- a sum over all numbers, of which each that is a request's counts its course, is the sum over the courses
over_courses : (C : Config) (H : History) (f : Course → ℕ) (g : ℕ → ℕ) → InLimits C → IsLegal C H → ((r : ℕ) → r < submits H → g r ≡ f (course_of H r)) → ((r : ℕ) → submits H ≤ r → g r ≡ 0) → sum_below g request_bound ≡ sum_by f (courses_of H)
unfolding request_bound
over_courses C H f g lim l same none =
    let are = courses_are C H l in
    let small : submits H < 2 ^ 32 = submits_small C H lim l in
    let all : sum_by f (take (submits H) (courses_of H)) ≡ sum_by f (courses_of H) = ap (sum_by f) (take_all (submits H) (courses_of H) (omega (arith, are.counted))) in
    sum_beyond g (submits H) (2 ^ 32) (omega (arith, small)) none
    ∙ sum_same g (λ r. f (course_at (courses_of H) r)) (submits H) (λ r b. same r b ∙ sym (ap f (are.each r b)))
    ∙ sym (sum_to f (courses_of H) (submits H) (omega (arith, are.counted)))
    ∙ all

-- ---- a request that is submitted

known_at : (C : Config) (P : History) (m r : ℕ) (a : Act) → IsLegal C P → Fits C P m a → (r < submits P → (q : Request) × (request_at P r ≡ Some q)) → r < submits (record { who = 0; moment = m; act = a } ∷ P) → (q : Request) × (request_in r a (request_at P r) ≡ Some q)
known_at C P m r (Submit request tenant kind declared label) l f ih b = elim (cases_eq request r) [
  | inl e ↦ (record { tenant = tenant; kind = kind; declared = declared; label = label }, cond-true (nat_eq request r) _ _ (eq-eqb request r e))
  | inr ne ↦ (let old = ih (omega (arith, b, ne, f.numbered)) in (old.0, cond-false (nat_eq request r) _ _ (ne_eqb request r ne) ∙ old.1))
]
known_at C P m r _ l f ih b = ih b

pub known : (C : Config) (H : History) (r : ℕ) → IsLegal C H → r < submits H → (q : Request) × (request_at H r ≡ Some q)
known C [] r l b = absurd (omega (arith, b))
known C (e ∷ P) r l b = known_at C P e.moment r e.act l.0 l.3 (known C P r l.0) b

pub came : (C : Config) (H : History) (r : ℕ) → IsLegal C H → r < submits H → is_submitted H r ≡ true
came C H r l b = let q = known C H r l b in asked_submitted H r q.0 q.1

-- ---- work

pub work_is : (C : Config) (H : History) (t m : ℕ) → InLimits C → IsLegal C H → work_of H t m ≡ sum_by (own t (worked m)) (courses_of H)
unfolding work_of
work_is C H t m lim l = over_courses C H (own t (worked m)) (work_done_for H t m) lim l
    (λ r b. let q = known C H r l b in
    ap (λ o. cond (is_of_tenant t o) (work_done H r m) 0) q.1 ∙ sym (ap (λ o. cond (nat_eq (tenant_in o) t) (work_done H r m) 0) q.1))
    (λ r b. ap (λ o. cond (is_of_tenant t o) (work_done H r m) 0) (fresh C H r l b))

-- ---- charges

-- a request that is done has a cost
final_at : (r : ℕ) (a : Act) (P : History) → (is_done P r ≡ true → final_cost P r ≡ Some (measured_cost P r)) → is_done (record { who = 0; moment = 0; act = a } ∷ P) r ≡ true → cost_in r a (final_cost P r) ≡ Some (unwrap_or (cost_in r a (final_cost P r)) 0)
unfolding is_done
final_at r (Done worker request cost) P ih h = elim (cases_eq request r) [
  | inl e ↦ (let is : cost_in r (Done worker request cost) (final_cost P r) ≡ Some cost = cond-true (nat_eq request r) _ _ (eq-eqb request r e) in is ∙ ap Some (sym (ap (λ o. unwrap_or o 0) is)))
  | inr ne ↦ (let is : cost_in r (Done worker request cost) (final_cost P r) ≡ final_cost P r = cond-false (nat_eq request r) _ _ (ne_eqb request r ne) in is ∙ ih (rw (ne_eqb request r ne) at h) ∙ ap Some (sym (ap (λ o. unwrap_or o 0) is)))
]
final_at r _ P ih h = ih h

final_is : (H : History) (r : ℕ) → is_done H r ≡ true → final_cost H r ≡ Some (measured_cost H r)
unfolding is_done
final_is [] r h = absurd (false≢true h)
final_is (e ∷ P) r h = final_at r e.act P (final_is P r) h

-- a request that is done is charged its cost
net_done : (C : Config) (H : History) (t r : ℕ) → IsLegal C H → r < submits H → is_done H r ≡ true → net_charged H t r ≡ own t (λ c. c.cost) (course_of H r)
net_done C H t r l b done =
    let q = known C H r l b in
    net_charged_taken H t r (done_taken C H r l done)
    ∙ ap (λ n. cond (is_of_tenant t (request_at H r)) n 0) (charge_final C H r (measured_cost H r) l (final_is H r done))
    ∙ ap (λ o. cond (is_of_tenant t o) (measured_cost H r) 0) q.1 ∙ sym (ap (λ o. cond (nat_eq (tenant_in o) t) (measured_cost H r) 0) q.1)

-- a request that was never taken is charged nothing, and has the cost 0
net_untaken : (C : Config) (H : History) (t r : ℕ) → IsLegal C H → is_taken H r ≡ false → net_charged H t r ≡ own t (λ c. c.cost) (course_of H r)
net_untaken C H t r l untaken = net_charged_untaken H t r untaken ∙ sym (nothing (nat_eq (tenant_in (request_at H r)) t) (measured_cost H r) (ap (λ o. unwrap_or o 0) (cost_none H r (untaken_undone C H r l untaken))))
  where
    nothing : (b : Bool) (n : ℕ) → n ≡ 0 → cond b n 0 ≡ 0
    nothing true n is = is
    nothing false n is = refl

pub net_is : (C : Config) (H : History) (t : ℕ) → InLimits C → IsLegal C H → ((r : ℕ) → r < submits H → is_ended H r ≡ true) → net_charge H t ≡ sum_by (own t (λ c. c.cost)) (courses_of H)
unfolding net_charge
net_is C H t lim l ended = over_courses C H (own t (λ c. c.cost)) (net_charged H t) lim l
    (λ r b. elim (ended_by H r (ended r b)) [
      | inl done ↦ net_done C H t r l b done
      | inr withdrawn ↦ net_untaken C H t r l (withdrawn_untaken C H r l withdrawn)
    ])
    (λ r b. net_charged_untaken H t r (fresh_untaken C H r l b))

-- ---- how many requests

abbrev pub once : Course → ℕ
once c = 1

count_at : (t m : ℕ) (a : Act) (cs : List Course) (older : ℕ) → NamesOneOf (length cs) a → older ≡ sum_by (own t once) cs → with_submit_for t a older ≡ sum_by (own t once) (courses_after m a cs)
count_at t m (Submit request tenant kind declared label) cs older names is = elim (cases_Bool (nat_eq tenant t)) [
  | inl e ↦ omega (arith, is, cond-true (nat_eq tenant t) (suc older) older e, sum_by_push (own t once) cs (submitted tenant m), cond-true {A = ℕ} (nat_eq tenant t) 1 0 e)
  | inr e ↦ omega (arith, is, cond-false (nat_eq tenant t) (suc older) older e, sum_by_push (own t once) cs (submitted tenant m), cond-false {A = ℕ} (nat_eq tenant t) 1 0 e)
]
count_at t m (Take worker request estimate) cs older names is = omega (arith, is, sum_by-set (own t once) cs request (record (course_at cs request) { taken = m }) (submitted 0 0) names)
count_at t m (Done worker request cost) cs older names is = omega (arith, is, sum_by-set (own t once) cs request (record (course_at cs request) { ended = m; cost = cost; is_ended = true }) (submitted 0 0) names)
count_at t m (Withdraw request) cs older names is = omega (arith, is, sum_by-set (own t once) cs request (record (course_at cs request) { is_ended = true }) (submitted 0 0) names)
count_at t m _ cs older names is = is

pub count_is : (C : Config) (H : History) (t : ℕ) → IsLegal C H → submits_for H t ≡ sum_by (own t once) (courses_of H)
count_is C [] t l = refl
count_is C (e ∷ P) t l = count_at t e.moment e.act (courses_of P) (submits_for P t) (subst (λ n. NamesOneOf n e.act) (sym (courses_are C P l.0).counted) (names_known C P e.moment e.act l.0 l.3)) (count_is C P t l.0)

-- all tenants submitted all that was submitted
all_at : (C : Config) (P : History) (m : ℕ) (a : Act) → Fits C P m a → sum_below (submits_for P) (length C.weights) ≡ submits P → sum_below (λ t. with_submit_for t a (submits_for P t)) (length C.weights) ≡ submits (record { who = 0; moment = m; act = a } ∷ P)
all_at C P m (Submit request tenant kind declared label) f is =
    let one = sum_at (submits_for P) (λ t. with_submit_for t (Submit request tenant kind declared label) (submits_for P t)) tenant (length C.weights) f.tenant_known (λ s ne. sym (cond-false (nat_eq tenant s) _ _ (ne_eqb tenant s (λ e. ne (sym e))))) in
    omega (arith, one, is, cond-true (nat_eq tenant tenant) (suc (submits_for P tenant)) (submits_for P tenant) (eq-eqb tenant tenant refl))
all_at C P m _ f is = is

pub all_submits : (C : Config) (H : History) → IsLegal C H → sum_below (submits_for H) (length C.weights) ≡ submits H
all_submits C [] l = sum_zero (submits_for []) (length C.weights) (λ r. refl)
all_submits C (e ∷ P) l = all_at C P e.moment e.act l.3 (all_submits C P l.0)

-- ---- requests that are neither done nor withdrawn

pub all_ended : (C : Config) (H : History) → IsLegal C H → InLimits C → unfinished H ≡ None → (r : ℕ) → r < submits H → is_ended H r ≡ true
unfolding unfinished request_bound
all_ended C H l lim none r b =
    let small : submits H < 2 ^ 32 = submits_small C H lim l in
    true_from_ne_false (is_ended H r) (λ open_still. false≢true (sym (least_none (is_unfinished H) (2 ^ 32) none r (omega (arith, b, small))) ∙ and_from _ _ (came C H r l b) (ap not open_still)))

-- the first course that is not ended is that of the least request that is not
pub unfinished_is : (C : Config) (H : History) → InLimits C → IsLegal C H → position (λ c. not c.is_ended) (courses_of H) ≡ unfinished H
unfolding unfinished request_bound
unfinished_is C H lim l =
    let test : Course → Bool = λ c. not c.is_ended in
    let cs : List Course = courses_of H in
    let k : ℕ = position_or_len test cs in
    let are = courses_are C H l in
    let small : submits H < 2 ^ 32 = submits_small C H lim l in
    let ended : (r : ℕ) → r < k → r < submits H → is_unfinished H r ≡ false = λ r b c. and_right (is_submitted H r) (not (is_ended H r)) (sym (ap test (are.each r c)) ∙ fails_before_first test cs r (submitted 0 0) b) in
    elim (cases_Bool (nat_lt k (length cs))) [
      | inl e ↦
          let inside : k < submits H = omega (arith, ltb-true _ _ e, are.counted) in
          let here : not (is_ended H k) ≡ true = sym (ap test (are.each k inside)) ∙ passes_at_first test cs (submitted 0 0) (ltb-true _ _ e) in
          cond-true (nat_lt k (length cs)) _ _ e ∙ sym (least_by (is_unfinished H) (2 ^ 32) (Some k) (and_from _ _ (came C H k l inside) here, omega (arith, inside, small), λ s b. ended s b (omega (arith, b, inside))))
      | inr e ↦
          let past : submits H ≤ k = omega (arith, ltb-false _ _ e, are.counted) in
          cond-false (nat_lt k (length cs)) _ _ e ∙ sym (least_by (is_unfinished H) (2 ^ 32) None (λ s b. elim (cases_Bool (nat_lt s (submits H))) [
            | inl f ↦ ended s (omega (arith, ltb-true _ _ f, past)) (ltb-true _ _ f)
            | inr f ↦ and_left (is_submitted H s) (not (is_ended H s)) (fresh_unsubmitted C H s l (ltb-false _ _ f))
          ]))
    ]
