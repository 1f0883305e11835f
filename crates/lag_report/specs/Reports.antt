-- Why there is no report, which slots serve a history, and how many requests a report is of.
use Rattle.std.specs.Prelude.{ℕ, ◌≡◌, true, not, List, [], ◌∷◌, length, sum_by, Option, Some, is_some, unwrap_or}
use Rattle.fq_model.specs.declared.config.Config.{Config}
use Rattle.fq_model.specs.declared.lag.TenantLag.{TenantLag}
use Rattle.fq_model.specs.declared.limits.TheConstants.{GREATEST_SLOT}
use Rattle.fq_model.specs.Rows.{first_true}
use Rattle.fq_model.specs.Limits.{IsWithin}
use Rattle.fq_model.specs.History.{History}
use Rattle.fq_model.specs.Report.{slots_of, are_cells_few, unfinished}
use Rattle.lag_report.specs.declared.fault.ReportFault.{ReportFault}
use Rattle.lag_report.specs.declared.fault.ReportFault.TheVariants.{Unfinished, TooLong, NoMemory}

-- why there is no report of a history with slots of length Q, if there is none (the request is read only below the row
-- that asks for it)
abbrev pub report_refusal : Config → History → ℕ → Option ReportFault
report_refusal C H Q = first_true
    ((is_some (unfinished H), Unfinished (unwrap_or (unfinished H) 0))
    ∷ (not (are_cells_few C H Q), TooLong (slots_of H Q) (length C.weights))
    ∷ [])

-- the fault is the reason; memory may run out whether there is one or not
abbrev pub IsReason : ReportFault → Option ReportFault → Type 0
IsReason NoMemory refusal = Unit {0}
IsReason fault refusal = refusal ≡ Some fault

-- slots of length Q may be asked for, and those that a history has are not too many
pub record Serves (C : Config) (H : History) (Q : ℕ) : Type 0 where
  pub in_range : IsWithin 1 GREATEST_SLOT Q
  pub few : are_cells_few C H Q ≡ true

-- how many requests the tenants submitted
abbrev pub requests_of : List TenantLag → ℕ
requests_of rows = sum_by (λ row. row.requests) rows
