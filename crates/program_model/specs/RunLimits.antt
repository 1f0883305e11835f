-- The limits of the numbers that a trace is run with.
use Rattle.std.specs.Prelude.{◌≤◌}
use Rattle.program_model.specs.declared.compare.CompareOptions.{CompareOptions}
use Rattle.program_model.specs.declared.trace.RunOptions.{RunOptions}
use Rattle.fq_model.specs.Limits.{IsWithin}
use Rattle.fq_model.specs.declared.limits.TheConstants.{TEXT_WORKERS, GREATEST_SLOT}
use Rattle.vt_fixed.specs.declared.limits.TheConstants.{GREATEST_COST}

-- the numbers that a trace is run with are within their limits
pub record AreInRange (O : RunOptions) : Type 0 where
  pub workers : IsWithin 1 TEXT_WORKERS O.workers
  pub initial : IsWithin 1 GREATEST_COST O.initial
  pub refresh : O.refresh ≤ GREATEST_COST

-- the numbers of a comparison are within their limits
pub record CanCompare (o : CompareOptions) : Type 0 where
  pub workers : IsWithin 1 TEXT_WORKERS o.workers
  pub initial : IsWithin 1 GREATEST_COST o.initial
  pub refresh : o.refresh ≤ GREATEST_COST
  pub slot : o.slot ≤ GREATEST_SLOT
