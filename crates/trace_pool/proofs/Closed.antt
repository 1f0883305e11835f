-- All rows of a pool are submitted, and its history closes once.
use Rattle.std.proofs.Common.{◌≡◌, ◌<◌, ◌==◌, ◌||◌, ℕ, zero, suc, Bool, true, false, List, [], ◌∷◌, length, map, reverse, refl, sym, ap, ◌∙◌, arith, inl, inr, Option, Some, None}
use Rattle.std.proofs.lemmas.Bool.{cases_lt, cases_eq, or_cases, or_left, or_right, both_ways, false≢true, eqb-true, eq-eqb}
use Rattle.fq_model.specs.declared.config.Config.{Config}
use Rattle.fq_model.specs.declared.event.Act.{Act}
use Rattle.fq_model.specs.declared.event.Act.TheVariants.{Submit}
use Rattle.fq_model.specs.declared.event.Cause.{Cause}
use Rattle.program_model.specs.declared.trace.RunOptions.{RunOptions}
use Rattle.program_model.specs.declared.trace.TraceRow.{TraceRow}
use Rattle.program_model.specs.Courses.{submitters, Each}
use Rattle.fq_model.specs.History.{History, has_act, is_close, is_closed, is_submit, is_submit_of, is_submitted, submits, with_submit}
use Rattle.fq_model.specs.Limits.{InLimits}
use Rattle.fq_model.specs.Outcome.{own_entries}
use Rattle.program_model.specs.PoolHistory.{pool_config, requests_from, IsFed, ClosesOnce}
use Rattle.fq_model.specs.Rules.{IsLegal, Fits}
use Rattle.program_model.specs.Trace.{Trace}
use Rattle.program_model.specs.TraceText.{IsLawfulTrace}
use Rattle.fq_laws.proofs.Sums.{sum_same}
use Rattle.gate_rules.specs.declared.rows.Row.{Row}
use Rattle.worker_gate.specs.Feeding.{Splits, is_last_submit}
use Rattle.trace_pool.specs.PoolEnd.{row_asks}
use Rattle.trace_pool.proofs.Balance.{closes_once}
use Rattle.trace_pool.proofs.Callers.{has_owner}
use Rattle.trace_pool.proofs.Absent.{no_worker_does}
use Rattle.trace_pool.proofs.Parts.{Sees, PoolParts}
use Rattle.trace_pool.proofs.Refused.{never_stopped}
use Rattle.trace_pool.proofs.Rows.{from_sum, from_parts, rows_count}
use Rattle.trace_pool.proofs.Submitted.{IsStopped, submitters_sum, none_submitted}
use Rattle.trace_pool.proofs.Sums.{own_sum, counted, has_within, submit_weight, submitted_sum, submits_are, request_sum, request_sum_turned, one_each}

-- ---- submitted requests

submitted_at : (C : Config) (P : History) (m r : ℕ) (a : Act) → Fits C P m a → (r < submits P → is_submitted P r ≡ true) → r < with_submit a (submits P) → (is_submit_of r a || is_submitted P r) ≡ true
submitted_at C P m r (Submit request tenant kind declared label) f ih h = elim (cases_eq request r) [
  | inl e ↦ or_left (request == r) (is_submitted P r) (eq-eqb request r e)
  | inr ne ↦ or_right (request == r) (is_submitted P r) (ih (omega (arith, f.numbered)))
]
submitted_at C P m r _ f ih h = ih h

-- each number below the number of Submits is the number of a submitted request
submitted_above : (C : Config) (P : History) (r : ℕ) → IsLegal C P → r < submits P → is_submitted P r ≡ true
unfolding is_submitted
submitted_above C [] r l h = absurd (omega arith)
submitted_above C (e ∷ P) r l h = submitted_at C P e.moment r e.act l.3 (submitted_above C P r l.0) h

submitters_some : (rows : List TraceRow) → 0 < submitters rows
submitters_some [] = omega arith
submitters_some (row ∷ rows) = omega (arith, submitters_some rows)

-- an act that an act of the history implies is there
pub has_more : (p q : Act → Bool) → ((a : Act) → p a ≡ true → q a ≡ true) → (P : History) → has_act p P ≡ true → has_act q P ≡ true
has_more p q h [] some = some
has_more p q h (e ∷ P) some = elim (or_cases (p e.act) (has_act p P) some) [
  | inl now ↦ or_left (q e.act) (has_act q P) (h e.act now)
  | inr was ↦ or_right (q e.act) (has_act q P) (has_more p q h P was)
]

last_at : (r total : ℕ) → suc r ≡ total → (a : Act) → is_submit_of r a ≡ true → is_last_submit total a ≡ true
last_at r total e (Submit request tenant kind declared label) h = eq-eqb (suc request) total (let s : request ≡ r = eqb-true request r h in omega (arith, s, e))
last_at r total e _ h = absurd (false≢true h)

all_sent : (rows sent rest : List (Row ℕ)) (stopped : Option (Row ℕ × Cause)) → Splits rows sent stopped rest → (IsStopped stopped → ⊥) → rows ≡ sent
all_sent rows sent rest None split never = split.0
all_sent rows sent rest (Some x) split never = absurd (never tt)

open_at : (C : Config) (P : History) (m : ℕ) (a : Act) → Fits C P m a → is_submit a ≡ true → is_closed P ≡ false
open_at C P m (Submit request tenant kind declared label) f h = f.open_still
open_at C P m _ f h = absurd (false≢true h)

no_late_submit : (C : Config) (P : History) → IsLegal C P → Each (λ Q e. is_submit e.act ≡ true → is_closed Q ≡ false) P
no_late_submit C [] l = tt
no_late_submit C (e ∷ P) l = (no_late_submit C P l.0, open_at C P e.moment e.act l.3)

module _ (T : Trace) (O : RunOptions) (Tells : ℕ → Type 0) (H : History) (law : IsLawfulTrace T) (lim : InLimits (pool_config T O)) (p : PoolParts T O Tells H) where
  -- each submitter has fed its rows
  pub is_fed : (j : ℕ) → j < submitters T.rows → IsFed T j (own_entries H j)
  is_fed j h =
      let f = p.fed j h in
      let sent : f.rows ≡ f.sent = all_sent f.rows f.sent f.rest f.stopped f.split (never_stopped T O Tells H law lim p j h) in
      record {
        rows = f.feed.rows ∙ ap reverse (ap (map row_asks) (sym sent) ∙ f.rows_are);
        no_other = f.feed.no_other;
        closes = f.feed.one_close;
      }

  own_submits : (j : ℕ) → j < submitters T.rows → own_sum (submit_weight one_each) H j ≡ from_sum one_each 0 T.rows j
  own_submits j h = submitted_sum one_each (own_entries H j) ∙ (ap (request_sum one_each) (is_fed j h).rows ∙ request_sum_turned one_each (requests_from j 0 T.rows))

  -- so there are as many Submits as rows
  pub all_submitted : submits H ≡ length T.rows
  all_submitted = submits_are H ∙ (submitters_sum T O Tells H (submit_weight one_each) (none_submitted T O Tells H one_each) p
      ∙ (sum_same (own_sum (submit_weight one_each) H) (from_sum one_each 0 T.rows) (submitters T.rows) own_submits ∙ (from_parts one_each (submitters T.rows) 0 T.rows (omega arith) ∙ rows_count 0 T.rows)))

  closed_since : (j : ℕ) (seen : History) → Sees H j seen → is_closed seen ≡ true → has_act is_close H ≡ true
  unfolding is_closed
  closed_since j seen s h = ap (has_act is_close) s.begins ∙ has_within is_close s.newer seen h

  closed_at_once : length T.rows ≡ 0 → has_act is_close H ≡ true
  closed_at_once none = let f = p.fed 0 (submitters_some T.rows) in closed_since 0 f.seen f.sees (f.closed.at_once none refl)

  -- whoever submits the last request closes
  closed_by : (r j : ℕ) → suc r ≡ length T.rows → has_act (is_submit_of r) (own_entries H j) ≡ true → has_act is_close H ≡ true
  closed_by r j last has = elim (cases_lt j (submitters T.rows)) [
    | inl h ↦ (let f = p.fed j h in closed_since j f.seen f.sees (f.closed.after_last (has_more (is_submit_of r) (is_last_submit (length T.rows)) (last_at r (length T.rows) last) (own_entries H j) has)))
    | inr h ↦ (let none : has_act (is_submit_of r) (own_entries H j) ≡ false = no_worker_does T O Tells H p (is_submit_of r) (λ i. record { takes = λ q estimate. refl; reports = λ q used. refl; dones = λ q cost. refl }) j h in absurd (both_ways (has_act (is_submit_of r) (own_entries H j)) none has))
  ]

  closed_after : (n : ℕ) → length T.rows ≡ n → has_act is_close H ≡ true
  unfolding is_submitted
  closed_after zero e = closed_at_once e
  closed_after (suc r) e =
      let there : has_act (is_submit_of r) H ≡ true = submitted_above (pool_config T O) H r p.legal (omega (arith, e, all_submitted)) in
      let by = has_owner (is_submit_of r) H there in
      closed_by r by.0 (sym e) by.1

  pub is_closed_once : ClosesOnce H
  is_closed_once = record {
    once = omega (arith, closes_once (pool_config T O) H p.legal, counted is_close H (closed_after (length T.rows) refl));
    no_later_submit = no_late_submit (pool_config T O) H p.legal;
  }
