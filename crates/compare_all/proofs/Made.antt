-- The result for a pair, by its simulated history.
use Rattle.std.proofs.Common.{ℕ, ◌+◌, ◌≤◌, ◌≡◌, ap, subst, sym, arith, Bool, true, false, not, [], ◌∷◌, length, None, Some, is_some, unwrap_or, Result, Ok, Err}
use Rattle.std.proofs.Math.Nat.{div-le_self}
use Rattle.fq_model.specs.declared.config.Config.{Config}
use Rattle.fq_model.specs.declared.config.Estimator.{Estimator}
use Rattle.fq_model.specs.declared.config.Policy.{Policy}
use Rattle.fq_model.specs.declared.limits.TheConstants.{MOST_ENTRIES}
use Rattle.fq_model.specs.History.{History}
use Rattle.fq_model.specs.Limits.{HasTextLimits}
use Rattle.fq_model.specs.Report.{slots_of, are_cells_few, unfinished}
use Rattle.fq_model.specs.Rows.{first_true}
use Rattle.fq_model.specs.Rules.{IsLegal}
use Rattle.fq_model.specs.Time.{last_moment}
use Rattle.fq_laws.proofs.Rules.Limits.{last_moment_small}
use Rattle.lag_report.specs.declared.fault.ReportFault.{ReportFault}
use Rattle.lag_report.specs.declared.fault.ReportFault.TheVariants as faults
use Rattle.lag_report.specs.Reports.{report_refusal, IsReason}
use Rattle.vt_fixed.specs.declared.limits.TheConstants.{GREATEST_MOMENT}
use Rattle.program_model.specs.declared.compare.CompareOptions.{CompareOptions}
use Rattle.program_model.specs.declared.compare.CompareRow.{CompareRow}
use Rattle.program_model.specs.Compare.{run_options}
use Rattle.program_model.specs.declared.trace.RunOptions.{RunOptions}
use Rattle.program_model.specs.Simulated.{needed_entries, run_config, IsSimulated}
use Rattle.program_model.specs.Trace.{Trace}
use Rattle.compare_all.specs.declared.rows.RowFault.{RowFault}
use Rattle.compare_all.specs.declared.rows.RowFault.TheVariants.{TooLong, NoMemory}
use Rattle.compare_all.specs.Rows.{IsMade, IsMadeOf}

module _ (T : Trace) (o : CompareOptions) (pair : Policy × Estimator) (H : History) (simulated : IsSimulated T (run_options o pair) H) where
  made_here : (made : Result CompareRow RowFault) → IsMadeOf o.slot pair (run_config T (run_options o pair)) H made → IsMade T o pair made
  made_here (Ok row) x = (record { history = H; simulated = simulated; few = x.0 }, record { history = H; simulated = simulated; row_is = x.1 })
  made_here (Err (TooLong cells)) x = record { history = H; simulated = simulated; many = x.0; cells_are = x.1 }
  made_here (Err NoMemory) x = tt

  pub made_of : (C : Config) (made : Result CompareRow RowFault) → C ≡ run_config T (run_options o pair) → IsMadeOf o.slot pair C H made → IsMade T o pair made
  made_of C made same x = made_here made (subst (λ D. IsMadeOf o.slot pair D H made) same x)

-- a simulated history keeps the limits of texts
pub run_limits : (T : Trace) (O : RunOptions) (C : Config) → C ≡ run_config T O → HasTextLimits C
run_limits T O C same = ap (λ (D : Config). D.limits) same

-- why there is no report, where all requests are done, is how many slots it would have
long_parts : (C : Config) (H : History) (Q slots tenants : ℕ) → unfinished H ≡ None → report_refusal C H Q ≡ Some (faults.TooLong slots tenants) → slots ≡ slots_of H Q
long_parts C H Q slots tenants done is =
    let cells : first_true ((not (are_cells_few C H Q), faults.TooLong (slots_of H Q) (length C.weights)) ∷ []) ≡ Some (faults.TooLong slots tenants) =
    subst (λ o. first_true ((is_some o, faults.Unfinished (unwrap_or o 0)) ∷ (not (are_cells_few C H Q), faults.TooLong (slots_of H Q) (length C.weights)) ∷ []) ≡ Some (faults.TooLong slots tenants)) done is in
    told (not (are_cells_few C H Q)) cells
  where
    told : (many : Bool) → first_true ((many, faults.TooLong (slots_of H Q) (length C.weights)) ∷ []) ≡ Some (faults.TooLong slots tenants) → slots ≡ slots_of H Q
    told true same = cc
    told false same = absurd (cc)

-- and those are few
pub few_slots : (C : Config) (H : History) (Q slots tenants : ℕ) (fault : ReportFault) → IsLegal C H → unfinished H ≡ None → fault ≡ faults.TooLong slots tenants → IsReason fault (report_refusal C H Q) → slots ≤ GREATEST_MOMENT + 1
few_slots C H Q slots tenants fault legal done is reason =
    let told : report_refusal C H Q ≡ Some (faults.TooLong slots tenants) = subst (λ f. IsReason f (report_refusal C H Q)) is reason in
    omega (arith, long_parts C H Q slots tenants done told, last_moment_small C H legal, div-le_self (last_moment H) Q)
