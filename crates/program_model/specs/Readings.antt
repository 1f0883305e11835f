-- The status of a scheduler, read again and again while its history grows, and the lines that tell it.
use Rattle.std.specs.Prelude.{ℕ, ◌≡◌, ◌≤◌, List, [], ◌∷◌, ◌++◌, length, take, codes}
use Rattle.std.specs.Fmt.{decimal, signed_decimal}
use Rattle.fq_model.specs.declared.config.Config.{Config}
use Rattle.fq_model.specs.declared.event.Entry.{Entry}
use Rattle.fq_model.specs.declared.parts.Status.{Status}
use Rattle.fq_model.specs.History.{history_of}
use Rattle.fq_model.specs.Status.{status_of}

-- the status is that of the first of these entries, given in order of time: of as many as it says
pub record IsStatusIn (C : Config) (past : List Entry) (status : Status) : Type 0 where
  pub within : status.entries ≤ length past
  pub is_status : status ≡ status_of C (history_of (take status.entries past))

-- each is the status of the first of these entries, of as many as it says; none says fewer than the status before
-- it, nor the first fewer than `least`
abbrev pub AreReadings : Config → List Entry → (least : ℕ) → List Status → Type 0
AreReadings C past least [] = Unit {0}
AreReadings C past least (status ∷ later) =
    (least ≤ status.entries) × IsStatusIn C past status × AreReadings C past status.entries later

-- the line of a status. It ends with LF
abbrev pub status_line : Status → List ℕ
status_line status =
    codes "status " ++ decimal status.entries ++ codes " " ++ decimal status.moment
    ++ codes " " ++ signed_decimal status.vtime ++ codes " " ++ decimal status.waiting
    ++ codes " " ++ decimal status.running ++ codes "\n"

-- a line for each, in order
abbrev pub status_lines : List Status → List ℕ
status_lines [] = []
status_lines (status ∷ later) = status_line status ++ status_lines later
