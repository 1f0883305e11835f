-- The texts of lag reports, summaries and comparisons. Each line ends with LF.
use Rattle.std.specs.Prelude.{ℕ, List, [], ◌∷◌, ◌++◌, codes, Option, Some, None, slice_get}
use Rattle.std.specs.Fmt.{decimal, signed_decimal}
use Rattle.fq_model.specs.declared.config.Config.{Config}
use Rattle.fq_model.specs.declared.lag.TenantLag.{TenantLag}
use Rattle.program_model.specs.declared.compare.CompareRow.{CompareRow}
use Rattle.fq_model.specs.Spelling.{policy_word, estimator_word}
use Rattle.fq_model.specs.History.{History, submits}
use Rattle.fq_model.specs.Report.{LagReport, lag_report, least_lag, greatest_lag}
use Rattle.program_model.specs.Compare.{best}

-- the five numbers of a tenant's lags
abbrev pub lag_numbers : TenantLag → List ℕ
lag_numbers row =
    signed_decimal row.least ++ codes " " ++ signed_decimal row.p50 ++ codes " " ++ signed_decimal row.p90
    ++ codes " " ++ signed_decimal row.p99 ++ codes " " ++ signed_decimal row.greatest

-- a tenant's line
abbrev pub tenant_lag_line : List ℕ → TenantLag → List ℕ
tenant_lag_line name row =
    codes "tenant " ++ name ++ codes " weight " ++ decimal row.weight ++ codes " requests " ++ decimal row.requests
    ++ codes " charged " ++ decimal row.charged ++ codes " fluid " ++ decimal row.fluid
    ++ codes " lag " ++ lag_numbers row ++ codes "\n"

-- a line for each tenant, by number; there are as many names as rows
abbrev pub tenant_lag_lines : List (List ℕ) → List TenantLag → List ℕ
tenant_lag_lines (name ∷ names) (row ∷ rows) = tenant_lag_line name row ++ tenant_lag_lines names rows
tenant_lag_lines _ _ = []

-- the line of the slots
abbrev pub slot_line : LagReport → List ℕ
slot_line report = codes "slot " ++ decimal report.slot ++ codes " slots " ++ decimal report.slots ++ codes "\n"

-- the last line
abbrev pub end_line : LagReport → List ℕ
end_line report = codes "end " ++ decimal report.end ++ codes " entries " ++ decimal report.entries ++ codes "\n"

-- a report as text, with the tenants' names by number
abbrev pub lag_report_text : List (List ℕ) → LagReport → List ℕ
lag_report_text names report =
    codes "report 1\n" ++ slot_line report ++ tenant_lag_lines names report.rows ++ end_line report

-- the text of the report of a history with slots of length Q
abbrev pub report_text : Config → History → List (List ℕ) → ℕ → List ℕ
report_text C H names Q = lag_report_text names (lag_report C H Q)

-- the summary of a report of this number of requests
abbrev pub lag_summary_text : ℕ → LagReport → List ℕ
lag_summary_text requests report =
    codes "summary 1\n"
    ++ codes "requests " ++ decimal requests ++ codes "\n"
    ++ codes "entries " ++ decimal report.entries ++ codes "\n"
    ++ codes "end " ++ decimal report.end ++ codes "\n"
    ++ codes "lag " ++ signed_decimal (least_lag report.rows)
    ++ codes " " ++ signed_decimal (greatest_lag report.rows) ++ codes "\n"

-- the text of the summary of a history, from the report with slots of length Q
abbrev pub summary_text : Config → History → ℕ → List ℕ
summary_text C H Q = lag_summary_text (submits H) (lag_report C H Q)

-- a row's line
abbrev pub compare_line : CompareRow → List ℕ
compare_line row =
    codes "policy " ++ policy_word row.policy ++ codes " estimate " ++ estimator_word row.estimate
    ++ codes " end " ++ decimal row.end ++ codes " entries " ++ decimal row.entries
    ++ codes " lag " ++ signed_decimal row.least ++ codes " " ++ signed_decimal row.greatest ++ codes "\n"

-- a line for each row, in order
abbrev pub compare_lines : List CompareRow → List ℕ
compare_lines [] = []
compare_lines (row ∷ rows) = compare_line row ++ compare_lines rows

-- the line that names a pair
abbrev pub best_line : Option CompareRow → List ℕ
best_line None = []
best_line (Some row) = codes "best " ++ policy_word row.policy ++ codes " " ++ estimator_word row.estimate ++ codes "\n"

-- the text of a comparison
abbrev pub compare_text : List CompareRow → List ℕ
compare_text rows = codes "compare 1\n" ++ compare_lines rows ++ best_line (slice_get rows (best rows))
