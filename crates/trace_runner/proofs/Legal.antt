-- Properties of legal histories, and their numbers of entries.
use Rattle.std.proofs.Common.{ℕ, zero, suc, ◌+◌, ◌*◌, ◌<◌, ◌≤◌, ◌≡◌, ◌==◌, ◌||◌, Bool, true, false, cond, max, [], ◌∷◌, length, arith, refl, ap, sym, ◌∙◌, subst, inl, inr}
use Rattle.std.proofs.lemmas.Bool.{cases_eq, eq-eqb, ne_eqb, false≢true, both_ways, or_parts, or_cases, or_left, or_right, and_from, cond-true, cond-false}
use Rattle.fq_model.specs.declared.config.Config.{Config}
use Rattle.fq_model.specs.declared.event.Act.{Act}
use Rattle.fq_model.specs.declared.event.Act.TheVariants.{Submit, Take, Report, Done, Close, Weight, Workers, Withdraw}
use Rattle.fq_model.specs.declared.event.Entry.{Entry}
use Rattle.program_model.specs.Courses.{course, serves}
use Rattle.fq_model.specs.History.{History, has_act, count_acts, is_submitted, is_taken, is_done, is_closed, is_change, is_take_of, is_take_by, is_submit_of, is_waiting, waiting, running, submits, with_submit, last_use, use_in, Runs, pool_at, request_bound}
use Rattle.fq_model.specs.Limits.{InLimits}
use Rattle.fq_model.specs.Rules.{IsLegal, Fits}
use Rattle.fq_model.specs.Sums.{sum_below}
use Rattle.fq_laws.specs.Words.{one_more}
use Rattle.fq_laws.proofs.Sums.{sum_same, sum_at, sum_zero, count_at_most}
use Rattle.fq_laws.proofs.History.Requests.{submitted_below, taken_submitted, use_taken}
use Rattle.fq_laws.proofs.History.Counts.{running_submit, running_report, waiting_report, waiting_done, waiting_none, running_none}
use Rattle.fq_laws.proofs.History.Numbers.{waiting_submitted, waiting_taken, running_taken, running_finished}
use Rattle.fq_laws.proofs.Rules.Limits.{submitted_count}

-- ---- workers

pool_kept : (C : Config) (P : History) (a : Act) (pool : ℕ) → is_change a ≡ false → Rattle.fq_model.specs.History.pool_after a pool ≡ pool
pool_kept C P (Workers count) pool h = absurd (false≢true (sym h))
pool_kept C P (Withdraw request) pool h = absurd (false≢true (sym h))
pool_kept C P (Close) pool h = refl
pool_kept C P _ pool h = refl

pub pool_same : (C : Config) (P : History) → has_act is_change P ≡ false → pool_at C P ≡ C.workers
unfolding pool_at
pool_same C [] h = refl
pool_same C (e ∷ P) h = let p = or_parts _ _ h in pool_kept C P e.act (pool_at C P) p.0 ∙ pool_same C P p.1

-- ---- requests

submitted_at : (C : Config) (P : History) (m r : ℕ) (a : Act) → Fits C P m a → (r < submits P → has_act (is_submit_of r) P ≡ true) → r < with_submit a (submits P) → (is_submit_of r a || has_act (is_submit_of r) P) ≡ true
submitted_at C P m r (Submit request tenant kind declared label) f ih h = elim (cases_eq request r) [
  | inl e ↦ or_left _ _ (eq-eqb request r e)
  | inr ne ↦ or_right _ _ (ih (omega (arith, f.numbered)))
]
submitted_at C P m r (Close) f ih h = ih h
submitted_at C P m r _ f ih h = ih h

-- each number below the count of Submits is submitted
pub submitted_all : (C : Config) (P : History) (r : ℕ) → IsLegal C P → r < submits P → is_submitted P r ≡ true
unfolding is_submitted
submitted_all C [] r l h = absurd (omega arith)
submitted_all C (e ∷ P) r l h = submitted_at C P e.moment r e.act l.3 (submitted_all C P r l.0) h

taker_at : (P : History) (r : ℕ) (a : Act) → is_take_of r a ≡ true → (i : ℕ) × (is_take_by i r a ≡ true)
taker_at P r (Take worker request estimate) h = (worker, and_from _ _ (eq-eqb worker worker refl) h)
taker_at P r (Close) h = absurd (false≢true h)
taker_at P r _ h = absurd (false≢true h)

-- a request that is taken is taken by some worker
pub taker : (P : History) (r : ℕ) → is_taken P r ≡ true → (i : ℕ) × (has_act (is_take_by i r) P ≡ true)
unfolding is_taken
taker [] r h = absurd (false≢true h)
taker (e ∷ P) r h = elim (or_cases _ _ h) [
  | inl x ↦ let t = taker_at P r e.act x in (t.0, or_left _ _ t.1)
  | inr x ↦ let t = taker P r x in (t.0, or_right _ _ t.1)
]

pub somewhere : (P : History) (r : ℕ) → is_taken P r ≡ true → is_done P r ≡ false → (i : ℕ) × Runs P i r
somewhere P r t d = let w = taker P r t in (w.0, record { taken = w.1; not_done = d })

pub waiting_low : (C : Config) (P : History) → InLimits C → IsLegal C P → waiting P ≤ submits P
unfolding waiting
waiting_low C P lim l = omega (arith, submitted_count C P lim l, count_at_most (is_waiting P) (is_submitted P) request_bound (λ r w. Rattle.fq_laws.proofs.History.Asked.waits_submitted P r w))

-- ---- courses

untouched_at : (C : Config) (P : History) (m r : ℕ) (e : Entry) (a : Act) → Fits C P m a → (is_taken P r ≡ false → course P r ≡ []) → (is_take_of r a || is_taken P r) ≡ false → cond (serves r a) (e ∷ course P r) (course P r) ≡ []
untouched_at C P m r e (Take w q est) f ih h = let p = or_parts _ _ h in cond-false (q == r) _ _ p.0 ∙ ih p.1
untouched_at C P m r e (Report w q used) f ih h = cond-false (q == r) _ _ (ne_eqb q r (λ s. both_ways _ h (subst (λ t. is_taken P t ≡ true) s (use_taken P w q used f.0)))) ∙ ih h
untouched_at C P m r e (Done w q cost) f ih h = cond-false (q == r) _ _ (ne_eqb q r (λ s. both_ways _ h (subst (λ t. is_taken P t ≡ true) s (use_taken P w q cost f)))) ∙ ih h
untouched_at C P m r e (Close) f ih h = ih h
untouched_at C P m r e _ f ih h = ih h

-- of a request that is not taken there is no Take, Report or Done
pub untouched : (C : Config) (P : History) (r : ℕ) → IsLegal C P → is_taken P r ≡ false → course P r ≡ []
unfolding is_taken
untouched C [] r l h = refl
untouched C (e ∷ P) r l h = untouched_at C P e.moment r e e.act l.3 (untouched C P r l.0) h

-- an act that does not serve the request reports no use of it
pub unused : (r : ℕ) (a : Act) → serves r a ≡ false → use_in r a ≡ 0
unused r (Report worker request used) h = cond-false (request == r) _ _ h
unused r (Close) h = refl
unused r _ h = refl

no_use_at : (C : Config) (P : History) (m r : ℕ) (a : Act) → Fits C P m a → (is_taken P r ≡ false → last_use P r ≡ 0) → (is_take_of r a || is_taken P r) ≡ false → max (use_in r a) (last_use P r) ≡ 0
no_use_at C P m r (Take w q est) f ih h = let p = or_parts _ _ h in omega (arith, ih p.1)
no_use_at C P m r (Report w q used) f ih h =
    let no : use_in r (Report w q used) ≡ 0 = cond-false (q == r) _ _ (ne_eqb q r (λ s. both_ways _ h (subst (λ t. is_taken P t ≡ true) s (use_taken P w q used f.0)))) in
    omega (arith, no, ih h)
no_use_at C P m r (Close) f ih h = omega (arith, ih h)
no_use_at C P m r _ f ih h = omega (arith, ih h)

pub no_use : (C : Config) (P : History) (r : ℕ) → IsLegal C P → is_taken P r ≡ false → last_use P r ≡ 0
unfolding is_taken
no_use C [] r l h = refl
no_use C (e ∷ P) r l h = no_use_at C P e.moment r e.act l.3 (no_use C P r l.0) h

-- ---- counts

abbrev pub is_report : Act → Bool
is_report (Report worker request used) = true
is_report _ = false

abbrev pub is_report_of : ℕ → Act → Bool
is_report_of r (Report worker request used) = request == r
is_report_of r _ = false

-- the number of Reports, and that of one request
abbrev pub reports : History → ℕ
reports P = count_acts is_report P

abbrev pub reports_of : History → ℕ → ℕ
reports_of P r = count_acts (is_report_of r) P

counted_at : (C : Config) (P : History) (who m : ℕ) (a : Act) → InLimits C → IsLegal C P → Fits C P m a → is_closed (one_more who m a P) ≡ false → is_change a ≡ false → length P + 2 * waiting P + running P ≡ 3 * submits P + reports P →
    length (one_more who m a P) + 2 * waiting (one_more who m a P) + running (one_more who m a P) ≡ 3 * submits (one_more who m a P) + reports (one_more who m a P)
unfolding is_closed
counted_at C P who m (Submit q t k d label) lim l f o n ih = omega (arith, ih, waiting_submitted C P who m q t k d label lim l f, running_submit P who m q t k d label)
counted_at C P who m (Take w q c) lim l f o n ih = omega (arith, ih, waiting_taken C P who m w q c lim l f, running_taken C P who m w q c lim l f)
counted_at C P who m (Report w q u) lim l f o n ih = omega (arith, ih, waiting_report P who m w q u, running_report P who m w q u)
counted_at C P who m (Done w q c) lim l f o n ih = omega (arith, ih, waiting_done P who m w q c, running_finished C P who m w q c lim l f)
counted_at C P who m Close lim l f o n ih = absurd (false≢true (sym o))
counted_at C P who m (Weight t w) lim l f o n ih = absurd (false≢true (sym n))
counted_at C P who m (Workers c) lim l f o n ih = absurd (false≢true (sym n))
counted_at C P who m (Withdraw request) lim l f o n ih = absurd (false≢true (sym n))

-- each request will have a Submit, a Take and a Done
pub counted : (C : Config) (P : History) → InLimits C → IsLegal C P → is_closed P ≡ false → has_act is_change P ≡ false → length P + 2 * waiting P + running P ≡ 3 * submits P + reports P
unfolding is_closed
counted C [] lim l o n = omega (arith, waiting_none, running_none)
counted C (e ∷ P) lim l o n = let p = or_parts _ _ n in counted_at C P e.who e.moment e.act lim l.0 l.3 o p.0 (counted C P lim l.0 (or_parts _ _ o).1 p.1)

reports_sum_at : (C : Config) (P : History) (n : ℕ) (e : Entry) (a : Act) → e.act ≡ a → IsLegal C P → Fits C P e.moment a → submits P ≤ n → sum_below (reports_of P) n ≡ reports P → sum_below (reports_of (e ∷ P)) n ≡ cond (is_report a) (suc (reports P)) (reports P)
reports_sum_at C P n e (Report w q u) is l f b ih =
    let low : q < n = omega (arith, submitted_below C P q l (taken_submitted C P q l (use_taken P w q u f.0))) in
    let one : reports_of (e ∷ P) q ≡ suc (reports_of P q) = cond-true _ _ _ (ap (is_report_of q) is ∙ eq-eqb q q refl) in
    omega (arith, ih, one, sum_at (reports_of P) (reports_of (e ∷ P)) q n low (λ s ne. sym (cond-false _ _ _ (ap (is_report_of s) is ∙ ne_eqb q s (λ x. ne (sym x))))))
reports_sum_at C P n e (Close) is l f b ih = sum_same (reports_of (e ∷ P)) (reports_of P) n (λ r c. cond-false _ _ _ (ap (is_report_of r) is)) ∙ ih
reports_sum_at C P n e _ is l f b ih = sum_same (reports_of (e ∷ P)) (reports_of P) n (λ r c. cond-false _ _ _ (ap (is_report_of r) is)) ∙ ih

with_submit_low : (a : Act) (n : ℕ) → n ≤ with_submit a n
with_submit_low (Submit q t k d label) n = omega arith
with_submit_low (Close) n = omega arith
with_submit_low _ n = omega arith

-- the Reports are those of the submitted requests
pub reports_sum : (C : Config) (P : History) (n : ℕ) → IsLegal C P → submits P ≤ n → sum_below (reports_of P) n ≡ reports P
reports_sum C [] n l b = sum_zero (reports_of []) n (λ r. refl)
reports_sum C (e ∷ P) n l b = let low : submits P ≤ n = omega (arith, with_submit_low e.act (submits P)) in reports_sum_at C P n e e.act refl l.0 l.3 low (reports_sum C P n l.0 low)

serves_reports : (r : ℕ) (a : Act) → serves r a ≡ false → is_report_of r a ≡ false
serves_reports r (Report w q u) h = h
serves_reports r (Close) h = refl
serves_reports r _ h = refl

-- the Reports of a request stand in its course
pub course_reports : (P : History) (r : ℕ) → reports_of (course P r) r ≡ reports_of P r
course_reports [] r = refl
course_reports (e ∷ P) r = by_test (serves r e.act) refl (course_reports P r)
  where
    by_test : (b : Bool) → serves r e.act ≡ b → reports_of (course P r) r ≡ reports_of P r → reports_of (cond b (e ∷ course P r) (course P r)) r ≡ reports_of (e ∷ P) r
    by_test true is ih = ap (λ n. cond (is_report_of r e.act) (suc n) n) ih
    by_test false is ih = ih ∙ sym (cond-false _ _ _ (serves_reports r e.act is))

pub sum_le : (f g : ℕ → ℕ) (n : ℕ) → ((r : ℕ) → r < n → f r ≤ g r) → sum_below f n ≤ sum_below g n
unfolding sum_below
sum_le f g zero h = omega arith
sum_le f g (suc n) h = omega (arith, h n (omega arith), sum_le f g n (λ r b. h r (omega arith)))

pub sum_less : (f g : ℕ → ℕ) (r n : ℕ) → r < n → f r < g r → ((s : ℕ) → s < n → f s ≤ g s) → sum_below f n < sum_below g n
unfolding sum_below
sum_less f g r zero b here h = absurd (omega arith)
sum_less f g r (suc n) b here h = elim (cases_eq n r) [
  | inl e ↦
      let at_n : f n < g n = subst (λ s. f s < g s) (sym e) here in
      omega (arith, at_n, sum_le f g n (λ s c. h s (omega arith)))
  | inr ne ↦ omega (arith, h n (omega arith), sum_less f g r n (omega arith) here (λ s c. h s (omega arith)))
]
