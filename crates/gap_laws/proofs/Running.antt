-- Sums over the running requests of a tenant: at one entry more.
use Rattle.std.proofs.Common.{ℕ, ◌+◌, ◌<◌, ◌≡◌, ◌≢◌, ◌∙◌, max, cond, Bool, true, false, refl, sym, ap, subst, arith, Option, Some, None}
use Rattle.std.proofs.lemmas.Bool.{false≢true, eq-eqb, ne_eqb}
use Rattle.vt_fixed.specs.Rounding.{length_of}
use Rattle.fq_model.specs.declared.config.Config.{Config}
use Rattle.fq_model.specs.declared.event.Act.{Act}
use Rattle.fq_model.specs.declared.event.Act.TheVariants.{Submit, Take, Report, Done, Withdraw}
use Rattle.fq_model.specs.History.{History, request_at, is_of_tenant, is_taken, running_on, submits, weight_at, Runs}
use Rattle.fq_model.specs.Charge.{charge, taken_weight}
use Rattle.fq_model.specs.Rules.{IsLegal, FitsTake, FitsUse}
use Rattle.fq_model.specs.Lead.{request_length, of_request, over_running}
use Rattle.fq_laws.specs.Words.{one_more, is_quiet}
use Rattle.fq_laws.proofs.Sums.{sum_same, sum_at}
use Rattle.fq_laws.proofs.History.Requests.{submitted_below, taken_submitted, worker_runs, runs_taken}
use Rattle.fq_laws.proofs.History.Workers.{running_runs, nothing_running, runs_running, runs_on_one, runs_worker_known}
use Rattle.fq_laws.proofs.History.Weights.{pool_high}
use Rattle.fq_laws.proofs.History.Asked.{waits_untaken}
use Rattle.fq_laws.proofs.Rules.Takes.{take_waits}
use Rattle.fq_laws.proofs.Charge.Requests.{charge_take, charge_take_other, taken_weight_take, taken_weight_take_other, charge_report, charge_report_other, charge_done_other, charge_submit, charge_withdraw, charge_quiet}

-- ---- the part of one worker

-- the part of a request in a sum, by its number and its length
abbrev pub Measure : Type 0
Measure = ℕ → ℕ → ℕ

abbrev pub over : Measure → Config → History → ℕ → ℕ
over v C P t = over_running C P t (λ r. v r (request_length C P t r))

-- the part of worker i
abbrev pub term : Measure → Config → History → ℕ → ℕ → ℕ
term v C P t i = of_request P t (λ r. v r (request_length C P t r)) (running_on P i)

-- request r has in Q the tenant, the charge and the weight that it has in P
record Same (C : Config) (P Q : History) (t r : ℕ) : Type 0 where
  tenant : is_of_tenant t (request_at Q r) ≡ is_of_tenant t (request_at P r)
  charge_is : charge Q r ≡ charge P r
  weight : taken_weight C Q t r ≡ taken_weight C P t r

measured_same : (v : Measure) (r x y w z : ℕ) (own mine : Bool) → own ≡ mine → x ≡ y → w ≡ z → cond own (v r (length_of x w)) 0 ≡ cond mine (v r (length_of y z)) 0
measured_same v r x y w z own mine e f g = rw (e, f, g) refl

of_same : (v : Measure) (C : Config) (P Q : History) (t : ℕ) (o : Option ℕ) → ((r : ℕ) → o ≡ Some r → Same C P Q t r) → of_request Q t (λ r. v r (request_length C Q t r)) o ≡ of_request P t (λ r. v r (request_length C P t r)) o
of_same v C P Q t None h = refl
of_same v C P Q t (Some r) h = let k : Same C P Q t r = h r refl in measured_same v r _ _ _ _ _ _ k.tenant k.charge_is k.weight

-- a worker's part stays where it runs the same request, with an unchanged tenant, charge and weight
term_same : (v : Measure) (C : Config) (P Q : History) (t i : ℕ) → running_on Q i ≡ running_on P i → ((r : ℕ) → running_on P i ≡ Some r → Same C P Q t r) → term v C Q t i ≡ term v C P t i
term_same v C P Q t i e h = rw e (of_same v C P Q t (running_on P i) h)

-- ---- requests that an entry leaves as they were

pub running_taken : (C : Config) (P : History) (i r : ℕ) → IsLegal C P → running_on P i ≡ Some r → is_taken P r ≡ true
running_taken C P i r l e = runs_taken P r (worker_runs P i r (running_runs C P i r l e))

same_submit : (C : Config) (P : History) (who m t r q u kind declared label : ℕ) → IsLegal C P → q ≡ submits P → is_taken P r ≡ true → Same C P (one_more who m (Submit q u kind declared label) P) t r
same_submit C P who m t r q u kind declared label l n taken =
    let b : r < submits P = submitted_below C P r l (taken_submitted C P r l taken) in
    let ne : q ≢ r = λ e. omega (arith, n, e, b) in
    record { tenant = rw (ne_eqb q r ne) refl; charge_is = charge_submit P who m r q u kind declared label; weight = refl }

same_take : (C : Config) (P : History) (who m t r w q c : ℕ) → q ≢ r → Same C P (one_more who m (Take w q c) P) t r
same_take C P who m t r w q c ne = record { tenant = refl; charge_is = charge_take_other P who m r w q c ne; weight = taken_weight_take_other C P who m t r w q c ne }

same_report : (C : Config) (P : History) (who m t r w q used : ℕ) → q ≢ r → Same C P (one_more who m (Report w q used) P) t r
same_report C P who m t r w q used ne = record { tenant = refl; charge_is = charge_report_other P who m r w q used ne; weight = refl }

same_done : (C : Config) (P : History) (who m t r w q cost : ℕ) → q ≢ r → Same C P (one_more who m (Done w q cost) P) t r
same_done C P who m t r w q cost ne = record { tenant = refl; charge_is = charge_done_other P who m r w q cost ne; weight = refl }

same_withdraw : (C : Config) (P : History) (who m t r q : ℕ) → Same C P (one_more who m (Withdraw q) P) t r
same_withdraw C P who m t r q = record { tenant = refl; charge_is = charge_withdraw P who m r q; weight = refl }

same_quiet : (C : Config) (P : History) (who m t r : ℕ) (a : Act) → is_quiet a ≡ true → Same C P (one_more who m a P) t r
same_quiet C P who m t r (Submit request tenant kind declared label) q = absurd (false≢true q)
same_quiet C P who m t r (Take worker request estimate) q = absurd (false≢true q)
same_quiet C P who m t r (Report worker request used) q = absurd (false≢true q)
same_quiet C P who m t r (Done worker request cost) q = absurd (false≢true q)
same_quiet C P who m t r a q = record { tenant = refl; charge_is = charge_quiet P who m r a q; weight = refl }

quiet_runs : (P : History) (who m i : ℕ) (a : Act) → is_quiet a ≡ true → running_on (one_more who m a P) i ≡ running_on P i
quiet_runs P who m i (Submit request tenant kind declared label) q = absurd (false≢true q)
quiet_runs P who m i (Take worker request estimate) q = absurd (false≢true q)
quiet_runs P who m i (Report worker request used) q = absurd (false≢true q)
quiet_runs P who m i (Done worker request cost) q = absurd (false≢true q)
quiet_runs P who m i a q = refl

-- another worker runs another request
apart : (C : Config) (P : History) (w i q r : ℕ) → IsLegal C P → i ≢ w → Runs P w q → running_on P i ≡ Some r → q ≢ r
apart C P w i q r l ne runs is = λ e. ne (runs_on_one C P i w r l (running_runs C P i r l is) (subst (λ s. Runs P w s) e runs))

-- the request of a Take ran nowhere before it
untaken : (C : Config) (P : History) (m w q c i r : ℕ) → IsLegal C P → FitsTake C P m w q c → running_on P i ≡ Some r → q ≢ r
untaken C P m w q c i r l f is = λ e.
    let no : is_taken P q ≡ false = waits_untaken P q (take_waits C P m w q c f) in
    let yes : is_taken P r ≡ true = running_taken C P i r l is in
    false≢true (sym no ∙ (ap (is_taken P) e ∙ yes))

-- ---- the sums

pub over_quiet : (v : Measure) (C : Config) (P : History) (who m t : ℕ) (a : Act) → is_quiet a ≡ true → over v C (one_more who m a P) t ≡ over v C P t
unfolding over_running
over_quiet v C P who m t a q = sum_same (term v C (one_more who m a P) t) (term v C P t) C.workers (λ i b. term_same v C P (one_more who m a P) t i (quiet_runs P who m i a q) (λ r is. same_quiet C P who m t r a q))

pub over_submit : (v : Measure) (C : Config) (P : History) (who m t q u kind declared label : ℕ) → IsLegal C P → q ≡ submits P → over v C (one_more who m (Submit q u kind declared label) P) t ≡ over v C P t
unfolding over_running
over_submit v C P who m t q u kind declared label l n = sum_same (term v C (one_more who m (Submit q u kind declared label) P) t) (term v C P t) C.workers
    (λ i b. term_same v C P (one_more who m (Submit q u kind declared label) P) t i refl (λ r is. same_submit C P who m t r q u kind declared label l n (running_taken C P i r l is)))

-- a Withdraw does not change the sum
pub over_withdraw : (v : Measure) (C : Config) (P : History) (who m t q : ℕ) → over v C (one_more who m (Withdraw q) P) t ≡ over v C P t
unfolding over_running
over_withdraw v C P who m t q = sum_same (term v C (one_more who m (Withdraw q) P) t) (term v C P t) C.workers (λ i b. term_same v C P (one_more who m (Withdraw q) P) t i refl (λ r is. same_withdraw C P who m t r q))

-- one worker's part changes
over_at : (v : Measure) (C : Config) (P Q : History) (t w : ℕ) → w < C.workers → ((i : ℕ) → i ≢ w → term v C Q t i ≡ term v C P t i) → over v C Q t + term v C P t w ≡ over v C P t + term v C Q t w
unfolding over_running
over_at v C P Q t w known others = sum_at (term v C P t) (term v C Q t) w C.workers known (λ i ne. sym (others i ne))

-- a Take adds the part of its request
pub over_taken : (v : Measure) (C : Config) (P : History) (who m t w q c : ℕ) → IsLegal C P → FitsTake C P m w q c → over v C (one_more who m (Take w q c) P) t ≡ over v C P t + cond (is_of_tenant t (request_at P q)) (v q (length_of c (weight_at C P t))) 0
over_taken v C P who m t w q c l f =
    let Q : History = one_more who m (Take w q c) P in
    let none : running_on P w ≡ None = nothing_running C P w l f.free in
    let before : term v C P t w ≡ 0 = rw none refl in
    let now : running_on Q w ≡ Some q = rw (eq-eqb w w refl) refl in
    let after : term v C Q t w ≡ cond (is_of_tenant t (request_at P q)) (v q (length_of c (weight_at C P t))) 0 =
    rw now (measured_same v q _ _ _ _ _ _ refl (charge_take C P who m w q c l f) (taken_weight_take C P who m t w q c)) in
    omega (arith, over_at v C P Q t w (omega (arith, f.worker_known, pool_high C P l)) (λ i ne. term_same v C P Q t i (rw (ne_eqb w i (λ e. ne (sym e))) refl) (λ r is. same_take C P who m t r w q c (untaken C P m w q c i r l f is))), before, after)

-- a Report changes the part of its request
pub over_reported : (v : Measure) (C : Config) (P : History) (who m t w q used : ℕ) → IsLegal C P → FitsUse P w q used → over v C (one_more who m (Report w q used) P) t + cond (is_of_tenant t (request_at P q)) (v q (request_length C P t q)) 0 ≡ over v C P t + cond (is_of_tenant t (request_at P q)) (v q (length_of (max used (charge P q)) (taken_weight C P t q))) 0
over_reported v C P who m t w q used l f =
    let Q : History = one_more who m (Report w q used) P in
    let runs : running_on P w ≡ Some q = runs_running C P w q l f.runs in
    let before : term v C P t w ≡ cond (is_of_tenant t (request_at P q)) (v q (request_length C P t q)) 0 = rw runs refl in
    let after : term v C Q t w ≡ cond (is_of_tenant t (request_at P q)) (v q (length_of (max used (charge P q)) (taken_weight C P t q))) 0 =
    rw runs (measured_same v q _ _ _ _ _ _ refl (charge_report P who m w q used f) refl) in
    omega (arith, over_at v C P Q t w (runs_worker_known C P w q l f.runs) (λ i ne. term_same v C P Q t i refl (λ r is. same_report C P who m t r w q used (apart C P w i q r l ne f.runs is))), before, after)

-- a Done takes away the part of its request
pub over_finished : (v : Measure) (C : Config) (P : History) (who m t w q cost : ℕ) → IsLegal C P → FitsUse P w q cost → over v C (one_more who m (Done w q cost) P) t + cond (is_of_tenant t (request_at P q)) (v q (request_length C P t q)) 0 ≡ over v C P t
over_finished v C P who m t w q cost l f =
    let Q : History = one_more who m (Done w q cost) P in
    let runs : running_on P w ≡ Some q = runs_running C P w q l f.runs in
    let before : term v C P t w ≡ cond (is_of_tenant t (request_at P q)) (v q (request_length C P t q)) 0 = rw runs refl in
    let none : running_on Q w ≡ None = rw (eq-eqb w w refl) refl in
    let after : term v C Q t w ≡ 0 = rw none refl in
    omega (arith, over_at v C P Q t w (runs_worker_known C P w q l f.runs) (λ i ne. term_same v C P Q t i (rw (ne_eqb w i (λ e. ne (sym e))) refl) (λ r is. same_done C P who m t r w q cost (apart C P w i q r l ne f.runs is))), before, after)

-- just after a Take its request is as long as by its estimate
pub taken_length : (C : Config) (P : History) (who m w q c t : ℕ) → IsLegal C P → FitsTake C P m w q c → request_length C (one_more who m (Take w q c) P) t q ≡ length_of c (weight_at C P t)
taken_length C P who m w q c t l f = rw (charge_take C P who m w q c l f, taken_weight_take C P who m t w q c) refl
