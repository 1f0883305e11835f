use Rattle.program_model.specs.Simulated.{needed_entries, run_config, IsSimulated}
use Rattle.trace_runner.specs.Plan.{too_long}
use Rattle.trace_runner.proofs.Finished.{none_unfinished}
use Rattle.command_texts.proofs.Reports.{few_entries, of_history, run_limits}
use Rattle.command_texts.proofs.run.simulated.Goals as goal

pub last_history-requires-clause-done : goal.last_history-requires-clause-done
last_history-requires-clause-done c = none_unfinished c.args.trace c.args.options _ c.in-Ok.ensures.simulated

pub last_history-requires-clause-text : goal.last_history-requires-clause-text
last_history-requires-clause-text c = run_limits c.args.trace c.args.options c.in-Ok.history.config c.in-Ok.ensures.config

pub returns-in-Ok : goal.returns-in-Ok
returns-in-Ok c =
    let few = few_entries (needed_entries c.args.trace.rows c.args.options.refresh) c.in-Ok.history (too_long c.args.trace c.args.options) c.in-Ok.ensures.too_many in
    of_history (IsSimulated c.args.trace c.args.options) (needed_entries c.args.trace.rows c.args.options.refresh) c.args.what c.args.slot c.in-Ok.history.config (run_config c.args.trace c.args.options) c.args.trace.tenants c.args.trace.kinds
    c.in-Ok.history.past c.last_history.result few c.in-Ok.ensures.config c.in-Ok.ensures.simulated (rw (c.into_names-tenants.ensures.names, c.into_names-tenants.ensures.kinds) at c.last_history.ensures)
