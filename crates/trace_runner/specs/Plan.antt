-- The traces that can be simulated.
use Rattle.std.specs.Prelude.{ℕ, ◌<◌, ◌≤◌, List}
use Rattle.fq_model.specs.declared.limits.TheConstants.{MOST_ENTRIES}
use Rattle.program_model.specs.declared.trace.RunOptions.{RunOptions}
use Rattle.program_model.specs.declared.trace.TraceRow.{TraceRow}
use Rattle.program_model.specs.Courses.{sum_over, reports_below}
use Rattle.program_model.specs.RunLimits.{AreInRange}
use Rattle.program_model.specs.Simulated.{needed_entries}
use Rattle.program_model.specs.Trace.{Trace}
use Rattle.program_model.specs.TraceText.{IsLawfulTrace}
use Rattle.trace_runner.specs.declared.fault.SimFault.{SimFault}
use Rattle.trace_runner.specs.declared.fault.SimFault.TheVariants.{TooManyEntries}

-- how many Reports the requests will have
abbrev pub planned_reports : List TraceRow → ℕ → ℕ
planned_reports rows refresh = sum_over (λ row. reports_below refresh row.cost) rows

-- the simulated history of the trace would have too many entries, and the fault that says so
abbrev pub IsTooLong : Trace → RunOptions → Type 0
IsTooLong T O = MOST_ENTRIES < needed_entries T.rows O.refresh

abbrev pub too_long : Trace → RunOptions → SimFault
too_long T O = TooManyEntries (needed_entries T.rows O.refresh)

-- a trace and options that can be simulated
pub record IsPlan (T : Trace) (O : RunOptions) : Type 0 where
  pub lawful : IsLawfulTrace T
  pub options : AreInRange O
  pub few : needed_entries T.rows O.refresh ≤ MOST_ENTRIES
