-- Printed traces are read back, and the history of a generated one is short.
use Rattle.std.specs.Prelude.{ℕ, ◌≤◌, ◌≡◌, Ok}
use Rattle.fq_model.specs.declared.limits.TheConstants.{TEXT_TENANTS, MOST_ROWS, MOST_ENTRIES}
use Rattle.program_model.specs.GenCommand.{default_run_options}
use Rattle.program_model.specs.Generator.{generated_trace}
use Rattle.fq_model.specs.Limits.{IsWithin}
use Rattle.program_model.specs.Simulated.{needed_entries}
use Rattle.program_model.specs.Trace.{Trace}
use Rattle.program_model.specs.TraceGrammar.{trace_of}
use Rattle.program_model.specs.TraceText.{HasKindsInOrder, IsLawfulTrace, trace_text}

-- the text of a lawful trace whose kinds are in their order spells that trace
abbrev pub ReadsBack : Type 0
ReadsBack = (t : Trace) → IsLawfulTrace t → HasKindsInOrder t → trace_of (trace_text t) ≡ Ok t

-- the text of a generated trace spells that trace
abbrev pub GeneratedReadsBack : Type 0
GeneratedReadsBack =
    (seed tenants requests : ℕ) → IsWithin 1 TEXT_TENANTS tenants → requests ≤ MOST_ROWS
    → trace_of (trace_text (generated_trace seed tenants requests)) ≡ Ok (generated_trace seed tenants requests)

-- a generated trace has a simulated history under the default options: it needs no more entries than there may be
abbrev pub GeneratedIsShort : Type 0
GeneratedIsShort =
    (seed tenants requests : ℕ) → IsWithin 1 TEXT_TENANTS tenants → requests ≤ MOST_ROWS
    → needed_entries (generated_trace seed tenants requests).rows default_run_options.refresh ≤ MOST_ENTRIES
