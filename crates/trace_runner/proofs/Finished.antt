-- A simulated history leaves no request undone.
use Rattle.std.proofs.Common.{ℕ, ◌≡◌, Bool, true, false, not, ◌&&◌, None, arith, refl, ap}
use Rattle.std.proofs.lemmas.Bool.{false≢true}
use Rattle.program_model.specs.declared.trace.RunOptions.{RunOptions}
use Rattle.fq_model.specs.declared.event.Act.{Act}
use Rattle.fq_model.specs.declared.event.Act.TheVariants.{Done}
use Rattle.fq_model.specs.History.{History, is_submitted, is_done, is_ended, is_done_of, is_end_of, request_bound}
use Rattle.fq_model.specs.Report.{unfinished, is_unfinished}
use Rattle.program_model.specs.Simulated.{run_config, IsSimulated}
use Rattle.program_model.specs.Trace.{Trace}
use Rattle.fq_laws.proofs.History.Asked.{done_ended}
use Rattle.fq_laws.proofs.History.Requests.{submitted_below}
use Rattle.fq_laws.proofs.Sums.{least_by}
use Rattle.trace_reader.specs.Rows.{row_at}
use Rattle.trace_runner.proofs.Only.{served_done}
use Rattle.trace_runner.proofs.Rests.{all_submitted}
use Rattle.trace_runner.proofs.Rows.{row_there}

-- where each submitted request is done, none is unfinished
pub none_is_unfinished : (H : History) → ((r : ℕ) → is_submitted H r ≡ true → is_done H r ≡ true) → unfinished H ≡ None
unfolding unfinished
none_is_unfinished H done = least_by (is_unfinished H) request_bound None (λ r _. go r (is_submitted H r) refl)
  where
    go : (r : ℕ) (b : Bool) → is_submitted H r ≡ b → (b && not (is_ended H r)) ≡ false
    go r false is = refl
    go r true is = ap not (done_ended H r (done r is))

module _ (T : Trace) (O : RunOptions) (H : History) (s : IsSimulated T O H) where
  ended : (r : ℕ) → is_submitted H r ≡ true → is_done H r ≡ true
  ended r submitted =
      let b = submitted_below (run_config T O) H r s.legal submitted in
      served_done T O.refresh H r (row_at T.rows r) (s.served r (row_at T.rows r) (row_there T.rows r (omega (arith, b, all_submitted T O H s))))

  pub none_unfinished : unfinished H ≡ None
  none_unfinished = none_is_unfinished H ended
