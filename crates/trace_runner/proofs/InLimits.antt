-- The configuration of a simulation is in its limits.
use Rattle.std.proofs.Common.{arith}
use Rattle.program_model.specs.declared.trace.RunOptions.{RunOptions}
use Rattle.fq_model.specs.Limits.{InLimits}
use Rattle.program_model.specs.Simulated.{run_config}
use Rattle.program_model.specs.Trace.{Trace}
use Rattle.trace_reader.proofs.InLimits.{trace_limits}
use Rattle.trace_runner.specs.Plan.{IsPlan}

pub in_limits : (T : Trace) (O : RunOptions) → IsPlan T O → InLimits (run_config T O)
in_limits T O p = trace_limits T O _ p.lawful p.options (omega arith, omega (arith, p.few))
