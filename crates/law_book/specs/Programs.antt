-- Laws of the program's answers and runs.
use Rattle.std.specs.Prelude.{ℕ, ◌<◌, ◌≤◌, ◌≡◌, ◌≢◌, ◌↔◌, false, List, [], ◌∷◌, length, codes, Option, Some, Ok, All}
use Rattle.fq_memory.specs.Clean.{IsClean}
use Rattle.fq_model.specs.declared.limits.TheConstants.{TEXT_TENANTS, MOST_ROWS}
use Rattle.fq_model.specs.History.{history_of}
use Rattle.fq_model.specs.Limits.{IsWithin}
use Rattle.fq_model.specs.Rules.{IsLegal}
use Rattle.program_model.specs.declared.command.Command.{Command}
use Rattle.program_model.specs.declared.command.Command.TheVariants.{Plain}
use Rattle.program_model.specs.declared.command.HistoryPrint.TheVariants.{Both}
use Rattle.program_model.specs.declared.command.PlainCommand.{PlainCommand}
use Rattle.program_model.specs.declared.command.PlainCommand.TheVariants.{Run, Gen}
use Rattle.program_model.specs.Answer.{Answer, Text, answer_status}
use Rattle.program_model.specs.CheckCommand.{IsCheckAnswer}
use Rattle.program_model.specs.CommandLimits.{IsInRange}
use Rattle.program_model.specs.Commands.{built_commands, is_live, row_of, IsAnswer}
use Rattle.program_model.specs.Document.{config_of}
use Rattle.program_model.specs.GenCommand.{default_run_options}
use Rattle.program_model.specs.Journal.{Journal, journal_of}
use Rattle.program_model.specs.Options.{Value, CommandRow, command_of}
use Rattle.program_model.specs.Program.{Move, IsRun}
use Rattle.program_model.specs.Statuses.{MaySay, MustSay}

-- the commands that a row means are of this row
abbrev pub IsOwnRow : CommandRow Command → Type 0
IsOwnRow row = (values : List Value) → row_of (row.means values) ≡ row

-- so it is for each row of the table
abbrev pub AreOwnRows : Type 0
AreOwnRows = All IsOwnRow built_commands

-- `gen` runs a trace with the options that `run` has where its words give none
abbrev pub GenRunsByDefaults : Type 0
GenRunsByDefaults = command_of built_commands (codes "run" ∷ []) ≡ Some (Plain (Run default_run_options 0 Both))

-- `check` answers to a journal with status 8 where and only where its entries are no legal history, and else with 0
abbrev pub CheckTellsLegal : Type 0
CheckTellsLegal =
    (asked : Option ℕ) (input : List ℕ) (journal : Journal) (answer : Answer)
    → journal_of input ≡ Ok journal → IsCheckAnswer asked input answer
    → ((answer_status answer ≡ 8) ↔ ¬ IsLegal (config_of journal) (history_of journal.body))
    × ((answer_status answer ≡ 0) ↔ IsLegal (config_of journal) (history_of journal.body))

-- a trace that is to be generated is within the limits
abbrev pub IsPlainWithinLimits : PlainCommand → Type 0
IsPlainWithinLimits (Gen seed tenants requests print) = IsWithin 1 TEXT_TENANTS tenants × (requests ≤ MOST_ROWS)
IsPlainWithinLimits _ = Unit {0}

abbrev pub IsWithinLimits : Command → Type 0
IsWithinLimits (Plain command) = IsPlainWithinLimits command
IsWithinLimits _ = Unit {0}

-- a command that asks no clock, with numbers within the limits, has one answer to an input at most
abbrev pub OneAnswer : (ℕ → Type 0) → Type 0
OneAnswer Told =
    (command : Command) (input : List ℕ) (a b : Answer)
    → is_live command ≡ false → IsWithinLimits command → IsAnswer Told command input a → IsAnswer Told command input b
    → a ≡ b

-- so one status
abbrev pub OneStatus : (ℕ → Type 0) → Type 0
OneStatus Told =
    (command : Command) (input : List ℕ) (a b : Answer)
    → is_live command ≡ false → IsWithinLimits command → IsAnswer Told command input a → IsAnswer Told command input b
    → answer_status a ≡ answer_status b

-- a command that asks no clock, with numbers in their ranges, has an answer to each input
abbrev pub SomeAnswer : (ℕ → Type 0) → Type 0
SomeAnswer Told =
    (command : Command) (input : List ℕ) → is_live command ≡ false → IsInRange command
    → (answer : Answer) × IsAnswer Told command input answer

-- so each input has one status: some answer may have this status, and each answer has it
abbrev pub SomeStatus : (ℕ → Type 0) → Type 0
SomeStatus Told =
    (command : Command) (input : List ℕ) → is_live command ≡ false → IsInRange command
    → (status : ℕ) × MaySay status Told command input × MustSay status Told command input

-- Runs over memory that never fails.

-- a clean source was read: its faults are 0 before and after
abbrev pub IsCleanSource : Move → Type 0
IsCleanSource source = (source.before.faults ≡ 0) × (source.after.faults ≡ 0)

-- a clean sink with this room was fresh, and was perhaps written to
pub record IsCleanSink (room : ℕ) (sink : Move) : Type 0 where
  pub fresh : sink.before ≡ record { bytes = Some []; faults = 0 }
  pub written : List ℕ
  pub told : sink.after.bytes ≡ Some written
  pub clean : IsClean room written sink.after.faults

-- the texts that may be written for this input, where a command is asked for, are shorter than this
abbrev pub AreTextsShorter : ℕ → (ℕ → Type 0) → Option Command → List ℕ → Type 0
AreTextsShorter room Told ask input =
    (command : Command) (status : ℕ) (text : List ℕ)
    → ask ≡ Some command → IsAnswer Told command input (Text status text) → length text < room

-- over a clean source the program never ends with 4, whatever it is asked
abbrev pub NeverFailsReading : (ℕ → Type 0) → Type 0
NeverFailsReading Told =
    (ask : Option Command) (source sink errs : Move) (status : ℕ)
    → IsRun Told ask source sink errs status → IsCleanSource source → status ≢ 4

-- over a fresh clean sink that has more room than a text has bytes it never ends with 5, where the input is known
abbrev pub NeverFailsWriting : (ℕ → Type 0) → Type 0
NeverFailsWriting Told =
    (ask : Option Command) (source sink errs : Move) (status room : ℕ) (input : List ℕ)
    → IsRun Told ask source sink errs status → source.before.bytes ≡ Some input → IsCleanSink room sink
    → AreTextsShorter room Told ask input → status ≢ 5
