-- The length that an entry measures.
use Rattle.std.proofs.Common.{ℕ, ◌<◌, ◌≡◌, ◌≢◌, ◌∙◌, cond, Bool, true, false, not, refl, sym, ap, arith, ◌∷◌, length, Option, Some, None}
use Rattle.std.proofs.lemmas.Bool.{eq-eqb, false≢true}
use Rattle.vt_fixed.specs.Rounding.{length_of}
use Rattle.fq_model.specs.declared.config.Config.{Config}
use Rattle.fq_model.specs.declared.event.Act.{Act}
use Rattle.fq_model.specs.declared.event.Act.TheVariants.{Submit, Take, Report, Done, Close, Weight, Workers, Withdraw}
use Rattle.fq_model.specs.declared.event.Entry.{Entry}
use Rattle.fq_model.specs.Limits.{InLimits}
use Rattle.fq_model.specs.History.{History, Request, request_at, is_taken, running_on}
use Rattle.fq_model.specs.Charge.{charge, taken_weight, is_taken_of, charged}
use Rattle.fq_model.specs.Rules.{IsLegal, FitsTake, FitsUse}
use Rattle.fq_laws.specs.Words.{one_more, is_quiet}
use Rattle.fq_laws.proofs.Charge.Requests.{charge_submit, charge_withdraw, charge_quiet, charge_take_other, charge_report_other, charge_done, charge_done_other, taken_weight_take_other}
use Rattle.fq_laws.proofs.Charge.Tenants.{taken_of, untaken_of, taken_of_submit, taken_of_take_other, taken_of_report, taken_of_done, taken_of_withdraw, taken_of_quiet, charged_taken}
use Rattle.fq_laws.proofs.History.Asked.{of_own, of_other, waits_untaken}
use Rattle.fq_laws.proofs.History.Workers.{runs_running}
use Rattle.fq_laws.proofs.Rules.Takes.{take_waits}
use Rattle.charge_book.specs.Rows.{row_charge}
use Rattle.charge_book.specs.Histories.{run_row, row_of_worker}
use Rattle.tag_lead.specs.declared.spans.MeasuredLength.{MeasuredLength}
use Rattle.tag_lead.specs.Spans.{CanMeasure, measured_length, measured_by, row_of_act}
use Rattle.tag_lead.proofs.Rows.{RowIs, row_is, measurable, own_measurable}

-- ---- the length of one charge

same_length : (a b : Bool) (x y v w : ℕ) → a ≡ b → x ≡ y → v ≡ w → cond a (length_of x v) 0 ≡ cond b (length_of y w) 0
same_length a b x y v w e f g = rw (e, f, g) refl

charged_same : (C : Config) (P Q : History) (t r : ℕ) → is_taken_of Q t r ≡ is_taken_of P t r → charge Q r ≡ charge P r → taken_weight C Q t r ≡ taken_weight C P t r → charged C Q t r ≡ charged C P t r
charged_same C P Q t r e f g = same_length _ _ (charge Q r) (charge P r) _ _ e f g

-- nothing to a tenant that is not its own
charged_foreign : (C : Config) (P : History) (t r : ℕ) (q : Request) → request_at P r ≡ Some q → t ≢ q.tenant → charged C P t r ≡ 0
unfolding is_taken_of
charged_foreign C P t r q was ne = rw (of_other P t r q was (λ e. ne (sym e))) refl

-- its length to its own
charged_own : (C : Config) (P : History) (r : ℕ) (q : Request) → request_at P r ≡ Some q → is_taken P r ≡ true → charged C P q.tenant r ≡ length_of (charge P r) (taken_weight C P q.tenant r)
charged_own C P r q was taken = charged_taken C P q.tenant r taken ∙ ap (λ (b : Bool). cond b (length_of (charge P r) (taken_weight C P q.tenant r)) 0) (of_own P q.tenant r q was refl)

taken_own : (P : History) (r : ℕ) (q : Request) → request_at P r ≡ Some q → is_taken P r ≡ true → is_taken_of P q.tenant r ≡ true
taken_own P r q was taken = taken_of P q.tenant r taken ∙ of_own P q.tenant r q was refl

-- ---- the length that an entry measures

-- x is the length of its request by its charge after the entry, and the charges of all others stay
pub record Measures (C : Config) (P Q : History) (x : MeasuredLength) : Type 0 where
  pub within : x.request < length Q
  pub others : (t r : ℕ) → r ≢ x.request → charged C Q t r ≡ charged C P t r
  pub foreign : (t : ℕ) → t ≢ x.tenant → charged C Q t x.request ≡ charged C P t x.request
  pub own : charged C Q x.tenant x.request ≡ x.len
  pub first : is_taken_of P x.tenant x.request ≡ not x.taken
  pub taken : is_taken_of Q x.tenant x.request ≡ true

abbrev pub MeasuresIf : Config → History → History → Option MeasuredLength → Type 0
MeasuresIf C P Q None = (t r : ℕ) → charged C Q t r ≡ charged C P t r
MeasuresIf C P Q (Some x) = Measures C P Q x

-- the length by the row of a request
row_measures : (C : Config) (P Q : History) (i r : ℕ) (x : RowIs C Q i r) (first : Bool) → request_at P r ≡ Some x.what → ((t s : ℕ) → s ≢ r → charged C Q t s ≡ charged C P t s) → is_taken_of P x.what.tenant r ≡ not first → Measures C P Q (measured_length (run_row C Q r x.what) (row_charge (run_row C Q r x.what)) first)
row_measures C P Q i r x first before others was = record {
  within = x.below;
  others = others;
  foreign = λ t ne. charged_foreign C Q t r x.what x.was ne ∙ sym (charged_foreign C P t r x.what before ne);
  own = charged_own C Q r x.what x.was x.taken ∙ ap (λ (n : ℕ). length_of n (taken_weight C Q x.what.tenant r)) x.charge_was;
  first = was;
  taken = taken_own Q r x.what x.was x.taken;
}

quiet_weight : (C : Config) (P : History) (who m t r : ℕ) (a : Act) → is_quiet a ≡ true → taken_weight C (one_more who m a P) t r ≡ taken_weight C P t r
quiet_weight C P who m t r (Take worker request estimate) q = absurd (false≢true q)
quiet_weight C P who m t r _ q = refl

quiet_measures : (C : Config) (P : History) (who m : ℕ) (a : Act) → is_quiet a ≡ true → (t r : ℕ) → charged C (one_more who m a P) t r ≡ charged C P t r
quiet_measures C P who m a q = λ t r. charged_same C P (one_more who m a P) t r (taken_of_quiet P who m t r a q) (charge_quiet P who m r a q) (quiet_weight C P who m t r a q)

take_measures : (C : Config) (P : History) (who m w r c : ℕ) → InLimits C → IsLegal C (one_more who m (Take w r c) P) → MeasuresIf C P (one_more who m (Take w r c) P) (measured_by (Take w r c) (row_of_worker C P w) (row_of_worker C (one_more who m (Take w r c) P) w))
take_measures C P who m w r c lim l =
    let Q : History = one_more who m (Take w r c) P in
    let f : FitsTake C P m w r c = l.3 in
    let on : running_on Q w ≡ Some r = rw (eq-eqb w w refl) refl in
    let x : RowIs C Q w r = row_is C Q w r l on in
    rw x.row_is (row_measures C P Q w r x true x.was
    (λ t s ne. charged_same C P Q t s (taken_of_take_other P who m t s w r c (λ e. ne (sym e))) (charge_take_other P who m s w r c (λ e. ne (sym e))) (taken_weight_take_other C P who m t s w r c (λ e. ne (sym e))))
    (untaken_of P x.what.tenant r (waits_untaken P r (take_waits C P m w r c f))))

report_measures : (C : Config) (P : History) (who m w r used : ℕ) → InLimits C → IsLegal C (one_more who m (Report w r used) P) → MeasuresIf C P (one_more who m (Report w r used) P) (measured_by (Report w r used) (row_of_worker C P w) (row_of_worker C (one_more who m (Report w r used) P) w))
report_measures C P who m w r used lim l =
    let Q : History = one_more who m (Report w r used) P in
    let f : FitsUse P w r used = l.3.0 in
    let before : RowIs C P w r = row_is C P w r l.0 (runs_running C P w r l.0 f.runs) in
    let x : RowIs C Q w r = row_is C Q w r l (runs_running C P w r l.0 f.runs) in
    rw x.row_is (row_measures C P Q w r x false x.was
    (λ t s ne. charged_same C P Q t s (taken_of_report P who m t s w r used) (charge_report_other P who m s w r used (λ e. ne (sym e))) refl)
    (taken_own P r x.what x.was before.taken))

done_measures : (C : Config) (P : History) (who m w r cost : ℕ) → InLimits C → IsLegal C (one_more who m (Done w r cost) P) → MeasuresIf C P (one_more who m (Done w r cost) P) (measured_by (Done w r cost) (row_of_worker C P w) (row_of_worker C (one_more who m (Done w r cost) P) w))
done_measures C P who m w r cost lim l =
    let Q : History = one_more who m (Done w r cost) P in
    let f : FitsUse P w r cost = l.3 in
    let x : RowIs C P w r = row_is C P w r l.0 (runs_running C P w r l.0 f.runs) in
    let now : is_taken_of Q x.what.tenant r ≡ true = taken_of_done P who m x.what.tenant r w r cost ∙ taken_own P r x.what x.was x.taken in
    rw x.row_is (record {
      within = omega (arith, x.below);
      others = λ t s ne. charged_same C P Q t s (taken_of_done P who m t s w r cost) (charge_done_other P who m s w r cost (λ e. ne (sym e))) refl;
      foreign = λ t ne. charged_foreign C Q t r x.what x.was ne ∙ sym (charged_foreign C P t r x.what x.was ne);
      own = same_length _ true (charge Q r) cost _ _ now (charge_done P who m w r cost f) refl;
      first = taken_own P r x.what x.was x.taken;
      taken = now;
    })

measures_at : (C : Config) (P : History) (who m : ℕ) (a : Act) → InLimits C → IsLegal C (one_more who m a P) → MeasuresIf C P (one_more who m a P) (measured_by a (row_of_act C P a) (row_of_act C (one_more who m a P) a))
measures_at C P who m (Submit request tenant kind declared label) lim l =
    λ t r. charged_same C P (one_more who m (Submit request tenant kind declared label) P) t r (taken_of_submit C P who m t r request tenant kind declared label l.0 l.3.numbered) (charge_submit P who m r request tenant kind declared label) refl
measures_at C P who m (Take worker request estimate) lim l = take_measures C P who m worker request estimate lim l
measures_at C P who m (Report worker request used) lim l = report_measures C P who m worker request used lim l
measures_at C P who m (Done worker request cost) lim l = done_measures C P who m worker request cost lim l
measures_at C P who m (Withdraw request) lim l =
    λ t r. charged_same C P (one_more who m (Withdraw request) P) t r (taken_of_withdraw P who m t r request) (charge_withdraw P who m r request) refl
measures_at C P who m Close lim l = quiet_measures C P who m Close refl
measures_at C P who m (Weight tenant weight) lim l = quiet_measures C P who m (Weight tenant weight) refl
measures_at C P who m (Workers count) lim l = quiet_measures C P who m (Workers count) refl

pub measures : (C : Config) (P : History) (e : Entry) → InLimits C → IsLegal C (e ∷ P) → MeasuresIf C P (e ∷ P) (measured_by e.act (row_of_act C P e.act) (row_of_act C (e ∷ P) e.act))
measures C P e lim l = measures_at C P e.who e.moment e.act lim l

-- ---- the limits that it needs

can_at : (C : Config) (P : History) (who m : ℕ) (a : Act) → InLimits C → IsLegal C (one_more who m a P) → CanMeasure a (row_of_act C P a) (row_of_act C (one_more who m a P) a)
can_at C P who m (Take worker request estimate) lim l =
    let Q : History = one_more who m (Take worker request estimate) P in
    let on : running_on Q worker ≡ Some request = rw (eq-eqb worker worker refl) refl in
    let x : RowIs C Q worker request = row_is C Q worker request l on in
    rw x.row_is (own_measurable C Q worker request x lim l)
can_at C P who m (Report worker request used) lim l =
    let Q : History = one_more who m (Report worker request used) P in
    let x : RowIs C Q worker request = row_is C Q worker request l (runs_running C P worker request l.0 l.3.0.runs) in
    rw x.row_is (own_measurable C Q worker request x lim l)
can_at C P who m (Done worker request cost) lim l =
    let x : RowIs C P worker request = row_is C P worker request l.0 (runs_running C P worker request l.0 l.3.runs) in
    rw x.row_is (measurable C P request cost x.what lim l.0 x.was x.taken l.3.in_range)
can_at C P who m a lim l = tt

pub can_measure : (C : Config) (P : History) (e : Entry) → InLimits C → IsLegal C (e ∷ P) → CanMeasure e.act (row_of_act C P e.act) (row_of_act C (e ∷ P) e.act)
can_measure C P e lim l = can_at C P e.who e.moment e.act lim l
