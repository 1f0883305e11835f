-- The texts of verdicts and explanations. Each line ends with LF.
use Rattle.std.specs.Prelude.{ℕ, ◌-◌, Bool, if◌then◌else◌, List, [], ◌∷◌, ◌++◌, codes, length, Option, Some, None, slice_get, slice_index_or}
use Rattle.std.specs.Fmt.{decimal, signed_decimal}
use Rattle.fq_model.specs.declared.event.Entry.{Entry}
use Rattle.fq_model.specs.declared.event.Reply.{Reply}
use Rattle.program_model.specs.JournalText.{entry_line}
use Rattle.program_model.specs.Texts.{reply_line}
use Rattle.program_model.specs.declared.verdict.Verdict.{Verdict}
use Rattle.program_model.specs.declared.verdict.Verdict.TheVariants.{Legal, Bad}
use Rattle.program_model.specs.declared.explained.Explained.{Explained}
use Rattle.program_model.specs.declared.explained.ExplainRow.{ExplainRow}

-- the line of the entry that isn't legal (a verdict names one that is there)
abbrev pub given_text : Option Entry → List ℕ
given_text None = []
given_text (Some given) = codes "given " ++ entry_line given

-- the line of the entry that is wanted in its place, or of the reply where none is
abbrev pub wanted_text : Reply → Option Entry → List ℕ
wanted_text reply None = codes "reply " ++ reply_line reply
wanted_text reply (Some wanted) = codes "wanted " ++ entry_line wanted

-- a verdict on these entries
abbrev pub verdict_text : List Entry → Verdict → List ℕ
verdict_text entries Legal = codes "legal entries " ++ decimal (length entries) ++ codes "\n"
verdict_text entries (Bad place reply wanted) =
    codes "entry " ++ decimal place ++ codes " is not legal\n"
    ++ given_text (slice_get entries (place - 1)) ++ wanted_text reply wanted

abbrev pub eligible_word : Bool → List ℕ
eligible_word eligible = if eligible then codes "eligible" else codes "later"

-- a tenant, its head, and where the tenant starts, with the tenants' names by number
abbrev pub start_text : List (List ℕ) → ExplainRow → List ℕ
start_text names row =
    codes "tenant " ++ slice_index_or names row.tenant [] ++ codes " head " ++ decimal row.head
    ++ codes " start " ++ signed_decimal row.start

-- where the head finishes, its eligible key, and whether it is eligible at the turn
abbrev pub finish_text : ExplainRow → List ℕ
finish_text row =
    codes " finish " ++ signed_decimal row.finish ++ codes " key " ++ signed_decimal row.key
    ++ codes " " ++ eligible_word row.eligible ++ codes "\n"

-- the line of a tenant's head
abbrev pub row_line : List (List ℕ) → ExplainRow → List ℕ
row_line names row = start_text names row ++ finish_text row

-- a line for each head, in order
abbrev pub rows_text : List (List ℕ) → List ExplainRow → List ℕ
rows_text names [] = []
rows_text names (row ∷ rows) = row_line names row ++ rows_text names rows

-- who took a request, and when
abbrev pub taken_line : ℕ → Explained → List ℕ
taken_line request x =
    codes "request " ++ decimal request ++ codes " worker " ++ decimal x.worker ++ codes " moment " ++ decimal x.moment
    ++ codes " virtual " ++ signed_decimal x.vtime ++ codes "\n"

-- the lines that explain a request, if it was taken
abbrev pub explanation_text : List (List ℕ) → ℕ → Option Explained → List ℕ
explanation_text names request None = codes "request " ++ decimal request ++ codes " was not taken\n"
explanation_text names request (Some x) = taken_line request x ++ rows_text names x.rows.items
