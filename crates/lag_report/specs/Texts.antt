-- Parts of the texts of reports and summaries, each behind a text.
use Rattle.std.specs.Prelude.{List, ◌++◌, ℕ, codes}
use Rattle.std.specs.Fmt.{decimal, signed_decimal}
use Rattle.fq_model.specs.declared.lag.TenantLag.{TenantLag}
use Rattle.fq_model.specs.Report.{LagReport, least_lag, greatest_lag}
use Rattle.lag_report.specs.Reports.{requests_of}

-- the numbers of a tenant's line but those of its lags
abbrev pub with_counts : List ℕ → TenantLag → List ℕ
with_counts text row =
    text ++ codes " weight " ++ decimal row.weight ++ codes " requests " ++ decimal row.requests
    ++ codes " charged " ++ decimal row.charged ++ codes " fluid " ++ decimal row.fluid

-- the numbers of a summary but the lags
abbrev pub with_totals : List ℕ → LagReport → List ℕ
with_totals text report =
    text ++ codes "requests " ++ decimal (requests_of report.rows) ++ codes "\nentries " ++ decimal report.entries
    ++ codes "\nend " ++ decimal report.end

-- the least and the greatest lag of all tenants
abbrev pub with_range : List ℕ → List TenantLag → List ℕ
with_range text rows =
    text ++ codes "\nlag " ++ signed_decimal (least_lag rows) ++ codes " " ++ signed_decimal (greatest_lag rows)
    ++ codes "\n"
