use Rattle.std.proofs.Common.{sym, ◌∙◌}
use Rattle.program_model.specs.Commands.{Untold}
use Rattle.program_model.specs.Program.{is_any}
use Rattle.command_texts.proofs.Runs.{run_is}
use Rattle.twodfq_main.proofs.Asked.{plain_ends, live_ends, compare_ends, runs}
use Rattle.twodfq_main.proofs.program.twodfq.Goals as goal

pub returns-then-is_to_wait : goal.returns-then-is_to_wait
returns-then-is_to_wait g c =
    let ended = c.live_end-end.ensures in
    let ends = live_ends (g.K.Clock.tells c.args.clock.now) c.command-ask.result _ _ c.live_end-end.result (sym c.is_to_wait.ensures ∙ c.if-is_to_wait.true) ended.ends in
    runs is_any (run_is is_any c.live_end-end.result c.command-ask.ensures.asked ends c.told.ensures.status c.told.ensures.told ended.source_later ended.sink_later c.told.ensures.later) ended.sink_room

pub returns-then-is_to_compare : goal.returns-then-is_to_compare
returns-then-is_to_compare g c =
    let ended = c.compare_end-end.ensures in let said = c.told-then-is_to_compare.ensures in
    let ends = compare_ends Untold (g.K.Clock.tells c.args.clock.now) c.command-ask.result _ _ c.compare_end-end.result (sym c.is_to_compare.ensures ∙ c.if-is_to_compare.true) ended.ends in
    runs is_any (run_is is_any c.compare_end-end.result c.command-ask.ensures.asked ends said.status said.told ended.source_later ended.sink_later said.later) ended.sink_room

pub returns : goal.returns
returns g c =
    let ended = c.plain_end-end.ensures in let said = c.told-2.ensures in
    let ends = plain_ends Untold (g.K.Clock.tells c.args.clock.now) c.command-ask.result _ _ c.plain_end-end.result (sym c.is_to_wait.ensures ∙ c.if-is_to_wait.false) (sym c.is_to_compare.ensures ∙ c.if-is_to_compare.false) ended.ends in
    runs is_any (run_is is_any c.plain_end-end.result c.command-ask.ensures.asked ends said.status said.told ended.source_later ended.sink_later said.later) ended.sink_room
