-- The report of a history that is asked for, and why there is none.
use Rattle.std.specs.Prelude.{ℕ, ◌≡◌, true, false, List}
use Rattle.fq_model.specs.declared.config.Config.{Config}
use Rattle.fq_model.specs.History.{History}
use Rattle.fq_model.specs.Report.{LagReport, lag_report, slot_for, cells_of}
use Rattle.program_model.specs.Answer.{Answer}
use Rattle.program_model.specs.HistoryAnswer.{has_many_cells, cells_answer}
use Rattle.program_model.specs.ReportText.{report_text}

-- the report of the history by the slot that is asked for, or by the automatic one
pub record IsReportBy (slot : ℕ) (C : Config) (H : History) (report : LagReport) : Type 0 where
  pub few : has_many_cells slot C H ≡ false
  pub report_is : report ≡ lag_report C H (slot_for C H slot)

-- the text of the report
pub record IsReportText (slot : ℕ) (C : Config) (H : History) (tenants : List (List ℕ)) (text : List ℕ) : Type 0 where
  pub few : has_many_cells slot C H ≡ false
  pub text_is : text ≡ report_text C H tenants (slot_for C H slot)

-- the report would have too many cells, and the answer has their number
pub record IsManyCells (slot : ℕ) (C : Config) (H : History) (answer : Answer) : Type 0 where
  pub many : has_many_cells slot C H ≡ true
  pub answer_is : answer ≡ cells_answer (cells_of C H slot)
