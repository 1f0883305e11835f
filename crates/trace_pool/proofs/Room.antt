-- A pool has room for all Reports of its rows.
use Rattle.std.proofs.Common.{◌≡◌, ◌<◌, ◌≤◌, ◌+◌, ℕ, List, ◌++◌, sym, ap, ◌∙◌, subst, arith, inl, inr, append_assoc}
use Rattle.fq_model.specs.declared.event.Entry.{Entry}
use Rattle.program_model.specs.declared.trace.RunOptions.{RunOptions}
use Rattle.program_model.specs.Courses.{submitters, worker_caller, sum_over}
use Rattle.fq_model.specs.History.{History, history_of, submits, count_acts, is_close, has_act, is_change}
use Rattle.fq_model.specs.Limits.{InLimits}
use Rattle.program_model.specs.PoolHistory.{pool_config, row_reports}
use Rattle.fq_model.specs.Rules.{IsLegal}
use Rattle.program_model.specs.Trace.{Trace}
use Rattle.trace_pool.proofs.Balance.{Balanced, balanced, reports, legal_older, closes_once, taken_covered, asked_sum}
use Rattle.trace_pool.proofs.Callers.{front_turns, who_is}
use Rattle.trace_pool.proofs.Absent.{no_change, no_reports}
use Rattle.trace_pool.proofs.Labels.{label_reports, number_reports, reports_of_rows, run_rows, runs_where_room, few_uses}
use Rattle.trace_pool.proofs.Parts.{acts, Sees, PoolParts, WorkPart}
use Rattle.trace_pool.proofs.Runs.{AllKept, WasFull, all_kept_or_full, reports_low, runs_reports, runs_takes}
use Rattle.trace_pool.proofs.Submitted.{submits_low, whole_sum}
use Rattle.trace_pool.proofs.Sums.{act_sum, own_sum, sum_within, sums_rise, sums_rise_at, none_within, submits_are, submit_weight, take_weight, report_weight, one_each}
use Rattle.fq_model.specs.Outcome.{own_entries}

-- a history that the whole one begins with: how many entries it has, and that it has no more of each kind
pub record Front (T : Trace) (O : RunOptions) (H P : History) : Type 0 where
  pub legal : IsLegal (pool_config T O) P
  pub balance : Balanced P
  pub fewer_submits : submits P ≤ submits H
  pub fewer_reports : reports P ≤ reports H
  pub closes : count_acts is_close P ≤ 1

module _ (T : Trace) (O : RunOptions) (Tells : ℕ → Type 0) (H : History) (lim : InLimits (pool_config T O)) (p : PoolParts T O Tells H) where
  front_of : (newer P : History) → H ≡ newer ++ P → Front T O H P
  front_of newer P is =
      let legal : IsLegal (pool_config T O) P = legal_older (pool_config T O) newer P (subst (IsLegal (pool_config T O)) is p.legal) in
      let same : act_sum (submit_weight one_each) (acts H) ≡ act_sum (submit_weight one_each) (acts (newer ++ P)) = ap (λ Q. act_sum (submit_weight one_each) (acts Q)) is in
      let same_reports : reports H ≡ reports (newer ++ P) = ap reports is in
      record {
        legal = legal;
        balance = balanced (pool_config T O) P lim legal (none_within is_change newer P (ap (has_act is_change) (sym is) ∙ no_change T O Tells H p));
        fewer_submits = omega (arith, same, submits_are H, submits_are P, sum_within (submit_weight one_each) newer P);
        fewer_reports = omega (arith, same_reports, sum_within report_weight newer P);
        closes = closes_once (pool_config T O) P legal;
      }

  pub front : (j : ℕ) (P : History) → Sees H j P → Front T O H P
  front j P s = front_of s.newer P s.begins

  -- ---- Reports

  abbrev taken : ℕ → ℕ
  taken = own_sum (take_weight (number_reports T O H)) H

  own_reports_low : (j : ℕ) → own_sum report_weight H j ≤ taken j
  own_reports_low j = elim (who_is (submitters T.rows) O.workers j) [
    | inl h ↦ omega (arith, no_reports (own_entries H j) (p.fed j h).feed.no_other)
    | inr other ↦ elim other [
      | inl x ↦ (let w = p.served x.0 x.1 in subst (λ n. own_sum report_weight H n ≤ taken n) (sym x.2) (served_low x.0 w))
      | inr h ↦ (let e : own_sum report_weight H j ≡ 0 = ap (λ P. act_sum report_weight (acts P)) (p.no_other j h) in omega (arith, e))
    ]
  ]
    where
      served_low : (i : ℕ) → WorkPart T O Tells H i → own_sum report_weight H (worker_caller T.rows i) ≤ taken (worker_caller T.rows i)
      served_low i w =
          let low : runs_reports i w.runs ≤ runs_takes (number_reports T O H) i w.runs = reports_low (number_reports T O H) i w.runs (few_uses T O H w.runs (run_rows T O Tells H p (worker_caller T.rows i) i w.seen w.runs w.sees w.runs_are)) in
          omega (arith, low, ap (act_sum report_weight) w.acts_are, ap (act_sum (take_weight (number_reports T O H))) w.acts_are)

  taken_low : act_sum (take_weight (number_reports T O H)) (acts H) ≤ sum_over (row_reports O.refresh) T.rows
  taken_low = omega (arith, taken_covered (pool_config T O) (number_reports T O H) H lim p.legal, asked_sum (pool_config T O) (label_reports O.refresh T.rows) H p.legal, reports_of_rows T O Tells H p)

  -- there are at most as many Reports as the rows ask
  pub reports_at_most : reports H ≤ sum_over (row_reports O.refresh) T.rows
  reports_at_most = omega (arith, taken_low, whole_sum T O Tells H report_weight p, whole_sum T O Tells H (take_weight (number_reports T O H)) p, sums_rise (own_sum report_weight H) taken (submitters T.rows + O.workers) (λ j b. own_reports_low j))

  fewer_reports : (j : ℕ) → j < submitters T.rows + O.workers → own_sum report_weight H j < taken j → reports H < sum_over (row_reports O.refresh) T.rows
  fewer_reports j b less = omega (arith, taken_low, whole_sum T O Tells H report_weight p, whole_sum T O Tells H (take_weight (number_reports T O H)) p, sums_rise_at (own_sum report_weight H) taken (submitters T.rows + O.workers) j b (λ k c. own_reports_low k) less)

  -- where one is missing there was room for it
  never_full : (j : ℕ) (seen : List Entry) → Sees H j (history_of seen) → WasFull (pool_config T O) seen → reports H < sum_over (row_reports O.refresh) T.rows → ⊥
  never_full j seen s full few =
      let P : History = history_of full.0 in
      let x = front_turns full.0 seen full.1 in
      let begins : H ≡ (s.newer ++ x.0) ++ P = s.begins ∙ (ap (λ Q. s.newer ++ Q) x.1 ∙ sym (append_assoc s.newer x.0 P)) in
      let f = front_of (s.newer ++ x.0) P begins in
      omega (arith, f.balance, f.fewer_submits, f.fewer_reports, f.closes, submits_low T O Tells H p, full.2)

  -- so each use is kept
  pub all_kept : (i : ℕ) → i < O.workers → (w : WorkPart T O Tells H i) → AllKept w.runs
  all_kept i b w =
      let j : ℕ = worker_caller T.rows i in
      let few = few_uses T O H w.runs (run_rows T O Tells H p j i w.seen w.runs w.sees w.runs_are) in
      elim (all_kept_or_full (pool_config T O) j w.seen (number_reports T O H) i w.runs few (runs_where_room (pool_config T O) j i _ _ w.seen w.runs w.runs_are)) [
        | inl all ↦ all
        | inr full ↦ (let less : runs_reports i w.runs < runs_takes (number_reports T O H) i w.runs = full.1 in
            let own : own_sum report_weight H j < taken j = omega (arith, less, ap (act_sum report_weight) w.acts_are, ap (act_sum (take_weight (number_reports T O H))) w.acts_are) in
            absurd (never_full j w.seen w.sees full.0 (fewer_reports j (omega arith) own)))
      ]
