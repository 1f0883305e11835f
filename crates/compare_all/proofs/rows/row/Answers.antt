use Rattle.program_model.specs.Compare.{run_options}
use Rattle.trace_runner.proofs.Finished.{none_unfinished}
use Rattle.compare_all.proofs.Made.{made_of, run_limits}
use Rattle.fq_model.specs.History.{history_of}
use Rattle.compare_all.proofs.rows.row.Goals as goal

pub row_of_history-requires-clause-done : goal.row_of_history-requires-clause-done
row_of_history-requires-clause-done c = none_unfinished c.args.trace.now (run_options c.args.options (c.args.policy, c.args.estimate)) _ c.in-Ok.ensures.simulated

pub row_of_history-requires-clause-text : goal.row_of_history-requires-clause-text
row_of_history-requires-clause-text c = run_limits c.args.trace.now (run_options c.args.options (c.args.policy, c.args.estimate)) c.in-Ok.history.config c.in-Ok.ensures.config

pub returns-in-Ok : goal.returns-in-Ok
returns-in-Ok c = made_of c.args.trace.now c.args.options (c.args.policy, c.args.estimate) (history_of c.in-Ok.history.past) c.in-Ok.ensures.simulated c.in-Ok.history.config c.row_of_history.result c.in-Ok.ensures.config c.row_of_history.ensures
