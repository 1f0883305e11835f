-- The limits of the numbers that a command is asked with.
use Rattle.std.specs.Prelude.{◌≤◌}
use Rattle.fq_model.specs.declared.limits.TheConstants.{TEXT_TENANTS, MOST_ROWS, MOST_STATUSES, GREATEST_BURST, GREATEST_RATE, GREATEST_SLOT}
use Rattle.fq_model.specs.Limits.{IsWithin}
use Rattle.program_model.specs.declared.command.Command.{Command}
use Rattle.program_model.specs.declared.command.Command.TheVariants.{Plain, Live, Compare}
use Rattle.program_model.specs.declared.command.PlainCommand.{PlainCommand}
use Rattle.program_model.specs.declared.command.PlainCommand.TheVariants.{Script, Run, Gen, Check, Lead, Shape}
use Rattle.program_model.specs.RunLimits.{AreInRange, CanCompare}

-- the numbers are within their limits; a seed, or the number of a request that is asked about, may be any
abbrev pub IsPlainInRange : PlainCommand → Type 0
IsPlainInRange (Script print) = Unit {0}
IsPlainInRange (Run options slot print) = AreInRange options × (slot ≤ GREATEST_SLOT)
IsPlainInRange (Gen seed tenants requests print) = IsWithin 1 TEXT_TENANTS tenants × (requests ≤ MOST_ROWS)
IsPlainInRange (Check explain) = Unit {0}
IsPlainInRange (Lead of over) = Unit {0}
IsPlainInRange (Shape rate burst) = IsWithin 1 GREATEST_RATE rate × IsWithin 1 GREATEST_BURST burst

abbrev pub IsInRange : Command → Type 0
IsInRange (Plain command) = IsPlainInRange command
IsInRange (Live options) =
    AreInRange options.run × (options.slot ≤ GREATEST_SLOT) × (options.watch ≤ MOST_STATUSES)
IsInRange (Compare options) = CanCompare options
