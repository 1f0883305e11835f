use Rattle.std.proofs.Common.{◌≡◌}
use Rattle.program_model.specs.Answer.{Text}
use Rattle.program_model.specs.HistoryAnswer.{history_answer}
use Rattle.program_model.specs.PoolHistory.{needed_pool_entries}
use Rattle.trace_pool.specs.Serving.{too_long}
use Rattle.command_texts.proofs.Reports.{few_entries}
use Rattle.twodfq_main.proofs.Pools.{none_unfinished, pool_limits, IsServed, watched_text}
use Rattle.twodfq_main.proofs.live.served.Goals as goal

pub last_history-requires-clause-done : goal.last_history-requires-clause-done
last_history-requires-clause-done g c = none_unfinished c.args.trace.now c.args.options.run _ c.in-Ok.ensures.history.0

pub last_history-requires-clause-text : goal.last_history-requires-clause-text
last_history-requires-clause-text g c = pool_limits c.args.trace.now c.args.options.run c.in-Ok.served.history.config c.in-Ok.ensures.config

pub returns-in_ok-after_lines-in-Ok : goal.returns-in_ok-after_lines-in-Ok
returns-in_ok-after_lines-in-Ok g c =
    let T = c.args.trace.now in let o = c.args.options in let Told = g.K.Clock.tells c.args.clock.now in let served = c.in-Ok.served in let made = c.in_ok-output-in-Ok in let more = c.in_ok-after_lines-in-Ok in
    let s : IsServed Told T o served.history.past served.statuses.items = record {
      few = few_entries (needed_pool_entries T.rows o.run.refresh) _ (too_long T o.run) c.in-Ok.ensures.too_many;
      makes = record { history = c.in-Ok.ensures.history.0; moments = c.in-Ok.ensures.history.1 };
      count = c.in-Ok.ensures.statuses.0;
      readings = c.in-Ok.ensures.statuses.1;
    } in
    let alone : Text made.output.status made.output.text.items ≡ history_answer o.print o.slot served.history.config T.tenants T.kinds served.history.past = rw (c.tenants-tenants.ensures.names, c.kinds-kinds.ensures) at made.ensures in
    rw (more.ensures.status) (watched_text Told T o served.history.config served.history.past served.statuses.items s c.in-Ok.ensures.config made.output.status made.output.text.items more.field-0.text.items alone more.ensures.text)
