-- The book of a history at one entry more.
use Rattle.std.proofs.Common.{ℕ, suc, ◌+◌, ◌-◌, ◌<◌, ◌≤◌, ◌≡◌, ◌≢◌, ◌^◌, ◌==◌, max, Bool, true, false, cond, [], ◌∷◌, length, slice_set, slice_index, replicate, Option, Some, None, pos, ◌+ℤ◌, ◌-ℤ◌, arith, refl, sym, ap, subst, ◌∙◌, inl, inr, length-set, get_or-set_same, get_or-set_other}
use Rattle.std.proofs.lemmas.Bool.{cases_eq, eq-eqb, ne_eqb, false≢true}
use Rattle.std.proofs.lemmas.Int.{ints}
use Rattle.std.proofs.lemmas.List.{get_or-replicate, length-replicate}
use Rattle.vt_fixed.specs.Rounding.{length_of}
use Rattle.fq_model.specs.declared.config.Config.{Config}
use Rattle.fq_model.specs.declared.event.Act.{Act}
use Rattle.fq_model.specs.declared.event.Act.TheVariants.{Submit, Take, Report, Done, Withdraw}
use Rattle.fq_model.specs.Limits.{InLimits}
use Rattle.fq_model.specs.History.{History, Request, request_at, is_of_tenant, running_on, last_use, is_taken, Runs, submits, count_acts, weight_at, request_bound}
use Rattle.fq_model.specs.Sums.{sum_below}
use Rattle.fq_model.specs.Charge.{charge, is_taken_of, charged, virtual_charge, net_charge, net_charged, taken_weight}
use Rattle.fq_laws.proofs.Sums.{sum_at}
use Rattle.fq_model.specs.Rules.{IsLegal, FitsTake}
use Rattle.fq_laws.specs.Words.{one_more, is_quiet}
use Rattle.fq_laws.proofs.History.Requests.{submitted_below, taken_submitted, request_known}
use Rattle.fq_laws.proofs.Rules.Takes.{take_waits}
use Rattle.fq_laws.proofs.History.Asked.{waits_untaken, of_own, of_other}
use Rattle.fq_laws.proofs.History.Workers.{running_runs, runs_running, nothing_running, runs_on_one, took, runs_worker_known}
use Rattle.fq_laws.proofs.History.Weights.{pool_high}
use Rattle.fq_laws.proofs.Rules.Limits.{entries_low}
use Rattle.fq_laws.proofs.History.Numbers.{use_small}
use Rattle.fq_laws.proofs.Charge.Requests.{charge_report, charge_done, unused}
use Rattle.fq_laws.proofs.Charge.Tenants.{taken_of, taken_of_report, taken_of_done, virtual_charge_taken, virtual_charge_report, virtual_charge_done, net_charged_taken, net_charge_nil, net_charge_submit, net_charge_taken, net_charge_reported, net_charge_finished, net_charge_withdraw, net_charge_quiet}
use Rattle.charge_book.specs.declared.row.RunRow.{RunRow}
use Rattle.fq_laws.specs.Changes.{length_change}
use Rattle.charge_book.specs.Rows.{row_charge}
use Rattle.charge_book.specs.Book.{BookView, row_on, row_of_run, begun, recharged, with_use, reported_at, reported, report_change_at, report_change, finished_at, finished, finish_change_at, finish_change}
use Rattle.charge_book.specs.Histories.{run_row, row_of_worker, is_take, takes, BookIs, BookFollows}
use Rattle.charge_book.proofs.Rows.{of_worker_same, of_worker_known, of_worker_none, charge_is, reads_submit, reads_take, reads_report, reads_done, reads_withdraw, reads_quiet, running_on_quiet}

-- ---- acts that leave the book

pub book_nil : (C : Config) → BookIs C [] (record { rows = replicate C.workers None; nets = replicate (length C.weights) 0; begins = 0 })
book_nil C = record {
  workers = length-replicate C.workers None;
  tenants = length-replicate (length C.weights) 0;
  rows = λ i b. get_or-replicate C.workers i None None b;
  nets = λ t b. get_or-replicate (length C.weights) t 0 0 b ∙ sym (net_charge_nil t);
  begins = refl;
}

-- a running request is submitted
known_below : (C : Config) (P : History) (i s : ℕ) → IsLegal C P → running_on P i ≡ Some s → s < submits P
known_below C P i s l runs = submitted_below C P s l (taken_submitted C P s l (took P i s (running_runs C P i s l runs).taken))

-- an act that touches no request is no Take
takes_quiet : (P : History) (who m : ℕ) (a : Act) → is_quiet a ≡ true → takes (one_more who m a P) ≡ takes P
takes_quiet P who m (Take worker request estimate) q = absurd (false≢true q)
takes_quiet P who m _ q = refl

pub book_submit : (C : Config) (P : History) (b : BookView) (who m r t k d x : ℕ) → IsLegal C (one_more who m (Submit r t k d x) P) → BookIs C P b → BookIs C (one_more who m (Submit r t k d x) P) b
book_submit C P b who m r t k d x l is = record {
  workers = is.workers;
  tenants = is.tenants;
  rows = λ i b2. is.rows i b2 ∙ sym (of_worker_same C P (one_more who m (Submit r t k d x) P) i refl (λ s runs. reads_submit C P who m r t k d x s (new s (known_below C P i s l.0 runs))));
  nets = λ u b2. is.nets u b2 ∙ sym (net_charge_submit C P who m u r t k d x l.0 l.3.numbered);
  begins = is.begins;
}
  where
    new : (s : ℕ) → s < submits P → r ≢ s
    new s below same = absurd (omega (arith, l.3.numbered, below, same))

-- a Withdraw leaves the book: its request does not run
pub book_withdraw : (C : Config) (P : History) (b : BookView) (who m r : ℕ) → BookIs C P b → BookIs C (one_more who m (Withdraw r) P) b
book_withdraw C P b who m r is = record {
  workers = is.workers;
  tenants = is.tenants;
  rows = λ i b2. is.rows i b2 ∙ sym (of_worker_same C P (one_more who m (Withdraw r) P) i refl (λ s runs. reads_withdraw C P who m r s));
  nets = λ t b2. is.nets t b2 ∙ sym (net_charge_withdraw C P who m t r);
  begins = is.begins;
}

-- a Close, a Weight and a Workers touch no request and leave the book: each worker keeps its row, and this its weight
pub book_quiet : (C : Config) (P : History) (b : BookView) (who m : ℕ) (a : Act) → is_quiet a ≡ true → BookIs C P b → BookIs C (one_more who m a P) b
book_quiet C P b who m a q is = record {
  workers = is.workers;
  tenants = is.tenants;
  rows = λ i b2. is.rows i b2 ∙ sym (of_worker_same C P (one_more who m a P) i (running_on_quiet P who m i a q) (λ s runs. reads_quiet C P who m s a q));
  nets = λ u b2. is.nets u b2 ∙ sym (net_charge_quiet P who m u a q);
  begins = is.begins ∙ sym (takes_quiet P who m a q);
}

-- ---- one worker's row and one tenant's net charge are written

-- the row of worker w and the net charge of tenant t that are written
pub record Written (C : Config) (P Q : History) (w t : ℕ) (row : Option RunRow) (net : ℕ) (begins : ℕ) : Type 0 where
  pub worker_known : w < C.workers
  pub tenant_known : t < length C.weights
  pub row_is : row ≡ row_of_worker C Q w
  pub others_stay : (i : ℕ) → w ≢ i → row_of_worker C Q i ≡ row_of_worker C P i
  pub net_is : net ≡ net_charge Q t
  pub nets_stay : (u : ℕ) → t ≢ u → net_charge Q u ≡ net_charge P u
  pub begins_is : begins ≡ takes Q

written : (C : Config) (P Q : History) (b : BookView) (w t : ℕ) (row : Option RunRow) (net begins : ℕ) → BookIs C P b → Written C P Q w t row net begins → BookIs C Q (record { rows = slice_set b.rows w row; nets = slice_set b.nets t net; begins = begins })
written C P Q b w t row net begins is x = record {
  workers = length-set b.rows w row ∙ is.workers;
  tenants = length-set b.nets t net ∙ is.tenants;
  rows = λ i b2. elim (cases_eq w i) [
    | inl same ↦ rw (← same, get_or-set_same b.rows w row None (omega (arith, is.workers, x.worker_known))) x.row_is
    | inr other ↦ rw (get_or-set_other b.rows w i row None (λ e. other (sym e))) (is.rows i b2 ∙ sym (x.others_stay i other))
  ];
  nets = λ u b2. elim (cases_eq t u) [
    | inl same ↦ rw (← same, get_or-set_same b.nets t net 0 (omega (arith, is.tenants, x.tenant_known))) x.net_is
    | inr other ↦ rw (get_or-set_other b.nets t u net 0 (λ e. other (sym e))) (is.nets u b2 ∙ sym (x.nets_stay u other))
  ];
  begins = x.begins_is;
}

-- another worker runs another request
others_differ : (C : Config) (P : History) (w i r s : ℕ) → IsLegal C P → Runs P w r → w ≢ i → running_on P i ≡ Some s → r ≢ s
others_differ C P w i r s l runs other on same = other (runs_on_one C P w i r l runs (rw (← same) at (running_runs C P i s l on)))

after_other : (w i : ℕ) (o p : Option ℕ) → w ≢ i → cond (w == i) o p ≡ p
after_other w i o p other = rw (ne_eqb w i other) refl

-- ---- a Take

-- who is not taken runs nowhere
untaken_elsewhere : (C : Config) (P : History) (i r s : ℕ) → IsLegal C P → is_taken P r ≡ false → running_on P i ≡ Some s → r ≢ s
untaken_elsewhere C P i r s l un on same = false≢true (sym un ∙ (ap (is_taken P) same ∙ took P i s (running_runs C P i s l on).taken))

count_low : (test : Act → Bool) (P : History) → count_acts test P ≤ length P
count_low test [] = omega arith
count_low test (e ∷ P) = go (test e.act) (count_low test P)
  where
    go : (b : Bool) → count_acts test P ≤ length P → cond b (suc (count_acts test P)) (count_acts test P) ≤ suc (length P)
    go true h = omega (arith, h)
    go false h = omega (arith, h)

takes_small : (C : Config) (P : History) → InLimits C → IsLegal C P → takes P < 2 ^ 32
takes_small C P lim l = omega (arith, count_low is_take P, (entries_low C P lim l).1)

-- who takes a request is one of the workers of the configuration, which are the most that there may be
taker_below : (C : Config) (P : History) (m w r c : ℕ) → IsLegal C P → FitsTake C P m w r c → w < C.workers
taker_below C P m w r c l f = omega (arith, f.worker_known, pool_high C P l)

-- at a Take its worker is free in the book, and the book has room for one more
pub may_begin : (C : Config) (P : History) (b : BookView) (who m w r c : ℕ) (q : Request) → InLimits C → IsLegal C (one_more who m (Take w r c) P) → request_at P r ≡ Some q → BookIs C P b → (row_on b w ≡ None) × (b.begins < 2 ^ 32)
may_begin C P b who m w r c q lim l known is = (is.rows w (taker_below C P m w r c l.0 l.3) ∙ of_worker_none C P w (nothing_running C P w l.0 l.3.free), rw is.begins (takes_small C P lim l.0))

pub book_take : (C : Config) (P : History) (b : BookView) (who m w r c : ℕ) (q : Request) → InLimits C → IsLegal C (one_more who m (Take w r c) P) → request_at P r ≡ Some q → BookIs C P b → BookFollows C P (one_more who m (Take w r c) P) q.tenant (begun b w (row_of_run r q.tenant q.kind (weight_at C P q.tenant) c)) (pos (length_of c (weight_at C P q.tenant)))
book_take C P b who m w r c q lim l known is = record {
  book_is = written C P (one_more who m (Take w r c) P) b w q.tenant (Some (row_of_run r q.tenant q.kind (weight_at C P q.tenant) c)) (slice_index b.nets q.tenant + c) (b.begins + 1) is (record {
    worker_known = taker_below C P m w r c l.0 l.3;
    tenant_known = tenant_in;
    row_is = sym (of_worker_known C (one_more who m (Take w r c) P) w r q (ap (λ t. cond t (Some r) (running_on P w)) (eq-eqb w w refl)) known ∙ ap Some row);
    others_stay = λ i other. of_worker_same C P (one_more who m (Take w r c) P) i (after_other w i (Some r) (running_on P i) other) (λ s on. reads_take C P who m w r c s (untaken_elsewhere C P i r s l.0 untaken on));
    net_is = rw (is.nets q.tenant tenant_in) (sym (net_charge_taken C P who m q.tenant w r c lim l.0 l.3 ∙ ap (λ t. net_charge P q.tenant + cond t c 0) own));
    nets_stay = λ u other. net_charge_taken C P who m u w r c lim l.0 l.3 ∙ (ap (λ t. net_charge P u + cond t c 0) (of_other P u r q known other) ∙ omega arith);
    begins_is = omega (arith, is.begins);
  });
  changes_by = record {
    own = ap pos (sym (virtual_charge_taken C P who m q.tenant w r c lim l.0 l.3 ∙ ap (λ t. virtual_charge C P q.tenant + cond t (length_of c (weight_at C P q.tenant)) 0) own));
    others = λ u other. virtual_charge_taken C P who m u w r c lim l.0 l.3 ∙ (ap (λ t. virtual_charge C P u + cond t (length_of c (weight_at C P u)) 0) (of_other P u r q known (λ e. other (sym e))) ∙ omega arith);
  };
}
  where
    own : is_of_tenant q.tenant (request_at P r) ≡ true
    own = of_own P q.tenant r q known refl

    tenant_in : q.tenant < length C.weights
    tenant_in = (request_known C P r q l.0 known).tenant_known

    untaken : is_taken P r ≡ false
    untaken = waits_untaken P r (take_waits C P m w r c l.3)

    row : run_row C (one_more who m (Take w r c) P) r q ≡ row_of_run r q.tenant q.kind (weight_at C P q.tenant) c
    row = rw (eq-eqb r r refl, unused C P r l.0 untaken) refl

-- ---- a Report and a Done

term_below : (f : ℕ → ℕ) (r n : ℕ) → r < n → f r ≤ sum_below f n
term_below f r n b =
    let at : sum_below (λ s. cond (s == r) 0 (f s)) n + f r ≡ sum_below f n + cond (r == r) 0 (f r) = sum_at f (λ s. cond (s == r) 0 (f s)) r n b (λ s ne. sym (ap (λ t. cond t 0 (f s)) (ne_eqb s r ne))) in
    omega (arith, at, ap (λ t. cond t 0 (f r)) (eq-eqb r r refl))

-- the net charge of a tenant covers the charge of each of its taken requests
net_covers : (P : History) (t r : ℕ) → r < 2 ^ 32 → net_charged P t r ≤ net_charge P t
unfolding net_charge request_bound
net_covers P t r small = term_below (net_charged P t) r (2 ^ 32) small

charged_by : (C : Config) (P : History) (t r : ℕ) (own : Bool) → is_taken_of P t r ≡ own → charged C P t r ≡ cond own (length_of (charge P r) (taken_weight C P t r)) 0
charged_by C P t r own h = go (charge P r)
  where
    go : (y : ℕ) → cond (is_taken_of P t r) (length_of y (taken_weight C P t r)) 0 ≡ cond own (length_of y (taken_weight C P t r)) 0
    go y = ap (λ b. cond b (length_of y (taken_weight C P t r)) 0) h

-- the old number and the difference are the new number
whole : (v u a c : ℕ) → u + a ≡ v + c → pos v +ℤ (pos c -ℤ pos a) ≡ pos u
whole v u a c e = omega (arith, ints)

-- an act after which the request r of worker w is charged n, and the worker runs this
record UseStep (C : Config) (P Q : History) (w r : ℕ) (next : Option RunRow) (n : ℕ) : Type 0 where
  runs : Runs P w r
  small : r < 2 ^ 32
  row_is : next ≡ row_of_worker C Q w
  others_stay : (i : ℕ) → w ≢ i → row_of_worker C Q i ≡ row_of_worker C P i
  net : (t : ℕ) → net_charge Q t + cond (is_of_tenant t (request_at P r)) (charge P r) 0 ≡ net_charge P t + cond (is_of_tenant t (request_at P r)) n 0
  virtual : (t : ℕ) → virtual_charge C Q t + charged C P t r ≡ virtual_charge C P t + charged C Q t r
  charge_then : charge Q r ≡ n
  weight_stays : (t : ℕ) → taken_weight C Q t r ≡ taken_weight C P t r
  taken_stays : (t : ℕ) → is_taken_of Q t r ≡ is_taken_of P t r
  takes_stay : takes Q ≡ takes P

book_use : (C : Config) (P Q : History) (b : BookView) (w r n : ℕ) (next : Option RunRow) (q : Request) → InLimits C → IsLegal C P → request_at P r ≡ Some q → BookIs C P b → UseStep C P Q w r next n → BookFollows C P Q q.tenant (recharged b w (run_row C P r q) next n) (length_change (taken_weight C P q.tenant r) (row_charge (run_row C P r q)) n)
book_use C P Q b w r n next q lim l known is x = record {
  book_is = written C P Q b w q.tenant next (slice_index b.nets q.tenant - row_charge (run_row C P r q) + n) b.begins is (record {
    worker_known = runs_worker_known C P w r l x.runs;
    tenant_known = tenant_in;
    row_is = x.row_is;
    others_stay = x.others_stay;
    net_is = rw (is.nets q.tenant tenant_in, ← was) (omega (arith, net_own, covers));
    nets_stay = λ u other. net_other u other;
    begins_is = is.begins ∙ sym x.takes_stay;
  });
  changes_by = record {
    own = virtual_own;
    others = λ u other. virtual_other u (λ e. other (sym e));
  };
}
  where
    own : is_of_tenant q.tenant (request_at P r) ≡ true
    own = of_own P q.tenant r q known refl

    tenant_in : q.tenant < length C.weights
    tenant_in = (request_known C P r q l known).tenant_known

    taken : is_taken P r ≡ true
    taken = took P w r x.runs.taken

    was : charge P r ≡ row_charge (run_row C P r q)
    was = charge_is C P w r q x.runs

    net_own : net_charge Q q.tenant + charge P r ≡ net_charge P q.tenant + n
    net_own = ap (λ c. net_charge Q q.tenant + cond c (charge P r) 0) (sym own) ∙ (x.net q.tenant ∙ ap (λ c. net_charge P q.tenant + cond c n 0) own)

    covers : charge P r ≤ net_charge P q.tenant
    covers = omega (arith, net_covers P q.tenant r x.small, net_charged_taken P q.tenant r taken ∙ ap (λ c. cond c (charge P r) 0) own)

    net_other : (u : ℕ) → q.tenant ≢ u → net_charge Q u ≡ net_charge P u
    net_other u other =
        let none = of_other P u r q known other in
        omega (arith, x.net u, ap (λ c. cond c (charge P r) 0) none, ap (λ c. cond c n 0) none)

    before : (t : ℕ) (c : Bool) → is_of_tenant t (request_at P r) ≡ c → charged C P t r ≡ cond c (length_of (charge P r) (taken_weight C P t r)) 0
    before t c e = charged_by C P t r c (taken_of P t r taken ∙ e)

    later : (t : ℕ) (c : Bool) → is_of_tenant t (request_at P r) ≡ c → charged C Q t r ≡ cond c (length_of n (taken_weight C P t r)) 0
    later t c e = charged_by C Q t r c (x.taken_stays t ∙ (taken_of P t r taken ∙ e)) ∙ (ap (λ y. cond c (length_of y (taken_weight C Q t r)) 0) x.charge_then ∙ ap (λ y. cond c (length_of n y) 0) (x.weight_stays t))

    virtual_other : (u : ℕ) → q.tenant ≢ u → virtual_charge C Q u ≡ virtual_charge C P u
    virtual_other u other =
        let none = of_other P u r q known other in
        omega (arith, x.virtual u, before u false none, later u false none)

    virtual_own : pos (virtual_charge C P q.tenant) +ℤ length_change (taken_weight C P q.tenant r) (row_charge (run_row C P r q)) n ≡ pos (virtual_charge C Q q.tenant)
    virtual_own =
        let lengths : virtual_charge C Q q.tenant + length_of (row_charge (run_row C P r q)) (taken_weight C P q.tenant r) ≡ virtual_charge C P q.tenant + length_of n (taken_weight C P q.tenant r) = omega (arith, x.virtual q.tenant, before q.tenant true own, later q.tenant true own, ap (λ y. length_of y (taken_weight C P q.tenant r)) was) in
        whole _ _ _ _ lengths

pub book_report : (C : Config) (P : History) (b : BookView) (who m w r used : ℕ) (q : Request) → InLimits C → IsLegal C (one_more who m (Report w r used) P) → request_at P r ≡ Some q → BookIs C P b → BookFollows C P (one_more who m (Report w r used) P) q.tenant (reported b w used) (report_change b w used)
book_report C P b who m w r used q lim l known is =
    subst (λ o. BookFollows C P Q q.tenant (reported_at b w o used) (report_change_at o used)) (sym held)
    (book_use C P Q b w r (row_charge (with_use row used)) (Some (with_use row used)) q lim l.0 known is (record {
      runs = l.3.0.runs;
      small = use_small C P w r used lim l.0 l.3.0;
      row_is = sym (of_worker_known C Q w r q on known ∙ ap Some later_row);
      others_stay = λ i other. of_worker_same C P Q i refl (λ s runs. reads_report C P who m w r used s (others_differ C P w i r s l.0 l.3.0.runs other runs));
      net = λ t. net_charge_reported C P who m t w r used lim l.0 l.3.0 ∙ ap (λ y. net_charge P t + cond (is_of_tenant t (request_at P r)) y 0) charge_then;
      virtual = λ t. virtual_charge_report C P who m t w r used (use_small C P w r used lim l.0 l.3.0);
      charge_then = charge_report P who m w r used l.3.0 ∙ charge_then;
      weight_stays = λ t. refl;
      taken_stays = λ t. taken_of_report P who m t r w r used;
      takes_stay = refl;
    }))
  where
    Q : History
    Q = one_more who m (Report w r used) P

    row : RunRow
    row = run_row C P r q

    on : running_on P w ≡ Some r
    on = runs_running C P w r l.0 l.3.0.runs

    held : row_on b w ≡ Some (run_row C P r q)
    held = is.rows w (runs_worker_known C P w r l.0 l.3.0.runs) ∙ of_worker_known C P w r q on known

    charge_then : max used (charge P r) ≡ row_charge (with_use (run_row C P r q) used)
    charge_then = omega (arith, charge_is C P w r q l.3.0.runs, l.3.0.rising)

    later_row : run_row C (one_more who m (Report w r used) P) r q ≡ with_use (run_row C P r q) used
    later_row = let e : max used (last_use P r) ≡ used = omega (arith, l.3.0.rising) in rw (eq-eqb r r refl, e) refl

pub book_done : (C : Config) (P : History) (b : BookView) (who m w r cost : ℕ) (q : Request) → InLimits C → IsLegal C (one_more who m (Done w r cost) P) → request_at P r ≡ Some q → BookIs C P b → BookFollows C P (one_more who m (Done w r cost) P) q.tenant (finished b w cost) (finish_change b w cost)
book_done C P b who m w r cost q lim l known is =
    subst (λ o. BookFollows C P Q q.tenant (finished_at b w o cost) (finish_change_at o cost)) (sym held)
    (book_use C P Q b w r cost None q lim l.0 known is (record {
      runs = l.3.runs;
      small = use_small C P w r cost lim l.0 l.3;
      row_is = sym (of_worker_none C Q w (ap (λ t. cond t None (running_on P w)) (eq-eqb w w refl)));
      others_stay = λ i other. of_worker_same C P Q i (after_other w i None (running_on P i) other) (λ s runs. reads_done C P who m w r cost s);
      net = λ t. net_charge_finished C P who m t w r cost lim l.0 l.3;
      virtual = λ t. virtual_charge_done C P who m t w r cost (use_small C P w r cost lim l.0 l.3);
      charge_then = charge_done P who m w r cost l.3;
      weight_stays = λ t. refl;
      taken_stays = λ t. taken_of_done P who m t r w r cost;
      takes_stay = refl;
    }))
  where
    Q : History
    Q = one_more who m (Done w r cost) P

    held : row_on b w ≡ Some (run_row C P r q)
    held = is.rows w (runs_worker_known C P w r l.0 l.3.runs) ∙ of_worker_known C P w r q (runs_running C P w r l.0 l.3.runs) known
