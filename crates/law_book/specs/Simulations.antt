-- Laws of simulated histories.
use Rattle.std.specs.Prelude.{◌≡◌, length, None}
use Rattle.program_model.specs.declared.trace.RunOptions.{RunOptions}
use Rattle.fq_model.specs.History.{History}
use Rattle.fq_model.specs.Report.{unfinished}
use Rattle.program_model.specs.Simulated.{IsSimulated, needed_entries}
use Rattle.program_model.specs.Trace.{Trace}
use Rattle.program_model.specs.TraceText.{IsLawfulTrace}
use Rattle.trace_runner.specs.Plan.{IsPlan}

-- a lawful trace has one simulated history under its options at most
abbrev pub OneSimulated : Type 0
OneSimulated =
    (T : Trace) (O : RunOptions) (H K : History) →
    IsLawfulTrace T → IsSimulated T O H → IsSimulated T O K → H ≡ K

-- a trace and options that can be simulated have a simulated history
abbrev pub SomeSimulated : Type 0
SomeSimulated = (T : Trace) (O : RunOptions) → IsPlan T O → (H : History) × IsSimulated T O H

-- a simulated history has just the entries that are needed
abbrev pub EntriesNeeded : Type 0
EntriesNeeded =
    (T : Trace) (O : RunOptions) (H : History) →
    IsPlan T O → IsSimulated T O H → length H ≡ needed_entries T.rows O.refresh

-- and all that it submits is done
abbrev pub AllAreDone : Type 0
AllAreDone = (T : Trace) (O : RunOptions) (H : History) → IsSimulated T O H → unfinished H ≡ None
