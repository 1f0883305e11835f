-- The answer from a history: its journal, its lag report, both, or its summary; or that it would be too large.
use Rattle.std.specs.Prelude.{ℕ, ◌≡◌, nat_le, nat_lt, Bool, true, false, not, ◌&&◌, if◌then◌else◌, List, ◌++◌, codes}
use Rattle.std.specs.Fmt.{decimal}
use Rattle.fq_model.specs.declared.config.Config.{Config}
use Rattle.fq_model.specs.declared.event.Entry.{Entry}
use Rattle.fq_model.specs.declared.limits.TheConstants.{MOST_ENTRIES}
use Rattle.fq_model.specs.History.{History, history_of}
use Rattle.fq_model.specs.Report.{are_cells_few, cells_of, slot_for}
use Rattle.program_model.specs.declared.command.HistoryPrint.{HistoryPrint}
use Rattle.program_model.specs.declared.command.HistoryPrint.TheVariants.{Journal, Report, Both, Summary}
use Rattle.program_model.specs.Answer.{Answer, Text, Message, message_line}
use Rattle.program_model.specs.JournalText.{journal_text}
use Rattle.program_model.specs.ReportText.{report_text, summary_text}

-- the output from a history, by its texts
abbrev pub output_text : HistoryPrint → (journal report summary : List ℕ) → List ℕ
output_text Journal journal report summary = journal
output_text Report journal report summary = report
output_text Both journal report summary = journal ++ report
output_text Summary journal report summary = summary

-- the output from a history, given in order of time, with the names of its tenants and kinds; the report, and the
-- summary of it, are by the slot that is asked for, or by the automatic one where that is 0
abbrev pub history_output : HistoryPrint → Config → (tenants kinds : List (List ℕ)) → List Entry → ℕ → List ℕ
history_output print C tenants kinds past slot =
    output_text print
    (journal_text C tenants kinds past)
    (report_text C (history_of past) tenants (slot_for C (history_of past) slot))
    (summary_text C (history_of past) (slot_for C (history_of past) slot))

-- a report is made
abbrev pub makes_report : HistoryPrint → Bool
makes_report Journal = false
makes_report _ = true

-- a report by the slot that is asked for would have more cells than it may. (Slot 0 asks for the automatic slot, whose
-- cells are never too many.)
abbrev pub has_many_cells : ℕ → Config → History → Bool
has_many_cells slot C H = nat_le 1 slot && not (are_cells_few C H slot)

-- the message for a report that would have this number of cells, and may not
abbrev pub cells_text : ℕ → List ℕ
cells_text cells = codes "the report would have " ++ decimal cells ++ codes " cells, more than 4000000"

abbrev pub cells_answer : ℕ → Answer
cells_answer cells = Message 7 (message_line (cells_text cells))

-- the answer from a history, given in order of time
abbrev pub history_answer : HistoryPrint → ℕ → Config → (tenants kinds : List (List ℕ)) → List Entry → Answer
history_answer print slot C tenants kinds past =
    if makes_report print && has_many_cells slot C (history_of past)
    then cells_answer (cells_of C (history_of past) slot)
    else Text 0 (history_output print C tenants kinds past slot)

-- the answer is that of one of these histories; its entries in order of time
pub record IsHistoryAnswer (IsOne : History → Type 0) (print : HistoryPrint) (slot : ℕ) (C : Config)
    (tenants kinds : List (List ℕ)) (answer : Answer) : Type 0 where
  pub past : List Entry
  pub is_one : IsOne (history_of past)
  pub answer_is : answer ≡ history_answer print slot C tenants kinds past

-- this number of entries is more than a history may have
abbrev pub has_many_entries : ℕ → Bool
has_many_entries needed = nat_lt MOST_ENTRIES needed

-- the message for a history that would have this number of entries, and may not
abbrev pub entries_text : ℕ → List ℕ
entries_text needed = codes "the history would have " ++ decimal needed ++ codes " entries, more than 4194304"

abbrev pub entries_answer : ℕ → Answer
entries_answer needed = Message 7 (message_line (entries_text needed))
