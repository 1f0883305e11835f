-- Why there is no comparison.
use Rattle.std.specs.Prelude.{◌<◌, ◌≡◌}
use Rattle.fq_model.specs.declared.limits.TheConstants.{MOST_ENTRIES}
use Rattle.program_model.specs.declared.compare.CompareOptions.{CompareOptions}
use Rattle.program_model.specs.CompareCommand.{IsFirstLong}
use Rattle.program_model.specs.Simulated.{needed_entries}
use Rattle.program_model.specs.Trace.{Trace}
use Rattle.compare_all.specs.declared.fault.CompareFault.{CompareFault}
use Rattle.compare_all.specs.declared.fault.CompareFault.TheVariants.{TooManyEntries, TooLong, NoMemory}

-- the trace's histories, which are of one length, would have too many entries, and the fault that says so
abbrev pub HasManyEntries : Trace → CompareOptions → Type 0
HasManyEntries T o = MOST_ENTRIES < needed_entries T.rows o.refresh

abbrev pub many_entries : Trace → CompareOptions → CompareFault
many_entries T o = TooManyEntries (needed_entries T.rows o.refresh)

-- the fault is the first reason; memory may run out whether there is one or not
abbrev pub IsReason : Trace → CompareOptions → CompareFault → Type 0
IsReason T o (TooManyEntries needed) = HasManyEntries T o × (needed ≡ needed_entries T.rows o.refresh)
IsReason T o (TooLong row cells) = IsFirstLong T o row cells
IsReason T o NoMemory = Unit {0}
