-- The row of a worker, and the request that it runs.
use Rattle.std.proofs.Common.{ℕ, ◌<◌, ◌≤◌, ◌≡◌, true, arith, inl, inr, [], ◌∷◌, length, Some}
use Rattle.std.proofs.lemmas.Bool.{cases_Bool}
use Rattle.vt_fixed.specs.declared.limits.TheConstants.{GREATEST_WEIGHT}
use Rattle.fq_model.specs.declared.config.Config.{Config}
use Rattle.fq_model.specs.declared.event.Act.{Act}
use Rattle.fq_model.specs.declared.event.Act.TheVariants.{Take, Report, Done}
use Rattle.fq_model.specs.declared.event.Entry.{Entry}
use Rattle.fq_model.specs.Limits.{InLimits}
use Rattle.fq_model.specs.History.{History, Request, request_at, is_taken, is_take_of, running_on}
use Rattle.fq_model.specs.Charge.{charge, taken_weight}
use Rattle.fq_model.specs.Rules.{IsLegal, Fits}
use Rattle.fq_laws.proofs.Charge.Limits.{charge_low}
use Rattle.fq_laws.proofs.History.Asked.{asked_submitted}
use Rattle.fq_laws.proofs.History.Counts.{submits_le_length}
use Rattle.fq_laws.proofs.History.Requests.{submitted_below, request_known, taken_known}
use Rattle.fq_laws.proofs.History.Weights.{weight_high, taken_weight_low, pool_high}
use Rattle.fq_laws.proofs.History.Workers.{running_runs, took, runs_worker_known}
use Rattle.charge_book.specs.Rows.{row_charge}
use Rattle.charge_book.specs.Histories.{run_row, row_of_worker}
use Rattle.charge_book.proofs.Rows.{of_worker_known, charge_is}
use Rattle.tag_lead.specs.Spans.{Measurable, HasWorker}

-- the weight of a tenant at a Take is one
pub taken_weight_high : (C : Config) (P : History) (t r : ℕ) → InLimits C → IsLegal C P → taken_weight C P t r ≤ GREATEST_WEIGHT
taken_weight_high C [] t r lim l = omega arith
taken_weight_high C (e ∷ P) t r lim l = elim (cases_Bool (is_take_of r e.act)) [
  | inl x ↦ rw x (weight_high C P t lim l.0)
  | inr x ↦ rw x (taken_weight_high C P t r lim l.0)
]

-- a request of which something is known is one of as many as there are entries
pub asked_below : (C : Config) (P : History) (r : ℕ) (q : Request) → IsLegal C P → request_at P r ≡ Some q → r < length P
asked_below C P r q l was = omega (arith, submitted_below C P r l (asked_submitted P r q was), submits_le_length P)

-- ---- the request that a worker runs

-- the row is of this request
pub record RowIs (C : Config) (P : History) (i r : ℕ) : Type 0 where
  pub what : Request
  pub was : request_at P r ≡ Some what
  pub taken : is_taken P r ≡ true
  pub row_is : row_of_worker C P i ≡ Some (run_row C P r what)
  pub charge_was : charge P r ≡ row_charge (run_row C P r what)
  pub below : r < length P

pub row_is : (C : Config) (P : History) (i r : ℕ) → IsLegal C P → running_on P i ≡ Some r → RowIs C P i r
row_is C P i r l on =
    let runs = running_runs C P i r l on in
    let taken : is_taken P r ≡ true = took P i r runs.taken in
    let q = taken_known C P r l taken in
    record {
      what = q.0;
      was = q.1;
      taken = taken;
      row_is = of_worker_known C P i r q.0 on q.1;
      charge_was = charge_is C P i r q.0 runs;
      below = asked_below C P r q.0 l q.1;
    }

-- its length can be reckoned, at any charge in its limits
pub measurable : (C : Config) (P : History) (r x : ℕ) (q : Request) → InLimits C → IsLegal C P → request_at P r ≡ Some q → is_taken P r ≡ true → x ≤ 1000000000 → Measurable (run_row C P r q) x
measurable C P r x q lim l was taken low = record {
  charge_low = low;
  weight_positive = taken_weight_low C P q.tenant r lim l (request_known C P r q l was).tenant_known taken;
  weight_in_range = taken_weight_high C P q.tenant r lim l;
}

-- and at its own
pub own_measurable : (C : Config) (P : History) (i r : ℕ) (x : RowIs C P i r) → InLimits C → IsLegal C P → Measurable (run_row C P r x.what) (row_charge (run_row C P r x.what))
own_measurable C P i r x lim l = measurable C P r _ x.what lim l x.was x.taken (omega (arith, x.charge_was, charge_low C P r lim l))

-- ---- the worker of an act

worker_at : (C : Config) (P : History) (m : ℕ) (a : Act) → IsLegal C P → Fits C P m a → HasWorker C a
worker_at C P m (Take worker request estimate) l f = omega (arith, f.worker_known, pool_high C P l)
worker_at C P m (Report worker request used) l f = runs_worker_known C P worker request l f.0.runs
worker_at C P m (Done worker request cost) l f = runs_worker_known C P worker request l f.runs
worker_at C P m _ l f = tt

pub has_worker : (C : Config) (P : History) (e : Entry) → IsLegal C (e ∷ P) → HasWorker C e.act
has_worker C P e l = worker_at C P e.moment e.act l.0 l.3
