-- A simulated history has just the entries that are needed.
use Rattle.std.proofs.Common.{ℕ, ◌<◌, ◌≡◌, true, ◌∷◌, length, arith, ap, sym, ◌∙◌, subst}
use Rattle.std.proofs.lemmas.Bool.{and_parts, both_ways, false_from_ne_true, not-true}
use Rattle.program_model.specs.declared.trace.RunOptions.{RunOptions}
use Rattle.program_model.specs.Courses.{reports_below}
use Rattle.fq_model.specs.History.{History, is_done, is_waiting, is_running, waiting, running, submits, request_bound}
use Rattle.program_model.specs.Simulated.{run_config, IsSimulated, needed_entries}
use Rattle.program_model.specs.Trace.{Trace}
use Rattle.fq_laws.proofs.History.Asked.{waits_submitted, waits_untaken}
use Rattle.fq_laws.proofs.History.Requests.{submitted_below, taken_submitted, done_taken}
use Rattle.fq_laws.proofs.Sums.{count_zero, sum_same}
use Rattle.trace_reader.specs.Rows.{row_at}
use Rattle.trace_runner.specs.Plan.{IsPlan, planned_reports}
use Rattle.trace_runner.proofs.Ending.{close_entry}
use Rattle.trace_runner.proofs.InLimits.{in_limits}
use Rattle.trace_runner.proofs.Legal.{counted, reports, reports_of, reports_sum}
use Rattle.trace_runner.proofs.Only.{served_done, done_before}
use Rattle.trace_runner.proofs.Rests.{all_submitted}
use Rattle.trace_runner.proofs.Room.{served_reports, planned_by_number}
use Rattle.trace_runner.proofs.Rows.{row_there}

module _ (T : Trace) (O : RunOptions) (P : History) (p : IsPlan T O) (s : IsSimulated T O (close_entry P ∷ P)) where
  all : submits P ≡ length T.rows
  all = omega (arith, all_submitted T O (close_entry P ∷ P) s)

  done : (r : ℕ) → r < submits P → is_done P r ≡ true
  done r b = done_before P r (served_done T O.refresh (close_entry P ∷ P) r (row_at T.rows r) (s.served r (row_at T.rows r) (row_there T.rows r (omega (arith, all)))))

  none_waits : waiting P ≡ 0
  unfolding waiting
  none_waits = count_zero (is_waiting P) request_bound (λ r. false_from_ne_true (is_waiting P r) (λ w.
      both_ways _ (waits_untaken P r w) (done_taken (run_config T O) P r s.legal.0 (done r (submitted_below (run_config T O) P r s.legal.0 (waits_submitted P r w))))))

  none_runs : running P ≡ 0
  unfolding running is_running
  none_runs = count_zero (is_running P) request_bound (λ r. false_from_ne_true (is_running P r) (λ w.
      both_ways _ (not-true _ (and_parts _ _ w).1) (done r (submitted_below (run_config T O) P r s.legal.0 (taken_submitted (run_config T O) P r s.legal.0 (and_parts _ _ w).0)))))

  all_reports : reports P ≡ planned_reports T.rows O.refresh
  all_reports =
      sym (reports_sum (run_config T O) P (length T.rows) s.legal.0 (omega (arith, all)))
      ∙ sum_same (reports_of P) (λ r. reports_below O.refresh (row_at T.rows r).cost) (length T.rows) (λ r b. served_reports T O.refresh (close_entry P ∷ P) r (row_at T.rows r) (s.served r (row_at T.rows r) (row_there T.rows r b)))
      ∙ planned_by_number T O

  -- the entries before the Close, and the Close
  pub entries_with_close : length (close_entry P ∷ P) ≡ needed_entries T.rows O.refresh
  entries_with_close = omega (arith, counted (run_config T O) P (in_limits T O p) s.legal.0 s.legal.3 s.unchanged, none_waits, none_runs, all_reports, all)

pub entries_are_needed : (T : Trace) (O : RunOptions) (H : History) → IsPlan T O → IsSimulated T O H → length H ≡ needed_entries T.rows O.refresh
entries_are_needed T O H p s =
    ap length s.closed.last_is ∙ entries_with_close T O s.closed.older p (subst (IsSimulated T O) s.closed.last_is s)
