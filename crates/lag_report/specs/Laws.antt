-- Consequences of the definitions of reports.
use Rattle.std.specs.Prelude.{ℕ, ◌≡◌}
use Rattle.fq_model.specs.declared.config.Config.{Config}
use Rattle.fq_model.specs.Limits.{InLimits}
use Rattle.fq_model.specs.History.{History, submits}
use Rattle.fq_model.specs.Rules.{IsLegal}
use Rattle.fq_model.specs.Report.{auto_slot, lag_report}
use Rattle.lag_report.specs.Reports.{Serves, requests_of}

-- the automatic slot serves each legal history
abbrev pub AutoSlotServes : Type 0
AutoSlotServes = (C : Config) (H : History) → InLimits C → IsLegal C H → Serves C H (auto_slot C H)

-- the rows of a report count each Submit once
abbrev pub RowsCountSubmits : Type 0
RowsCountSubmits = (C : Config) (H : History) (Q : ℕ) → IsLegal C H → requests_of (lag_report C H Q).rows ≡ submits H
