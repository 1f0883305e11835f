use Rattle.std.proofs.Common.{◌-◌, length, max}
use Rattle.program_model.specs.Simulated.{needed_entries}
use Rattle.trace_runner.specs.Simulation.{Simulates}
use Rattle.trace_runner.proofs.runner.simulate.Given as goal

abbrev pub invariant-events : goal.invariant-events
invariant-events g l = Simulates l.trace l.options l.scheduler l.agenda

abbrev pub decreases-events : goal.decreases-events
decreases-events g l = max 4 (needed_entries l.trace.rows l.options.refresh) - length l.scheduler.past
