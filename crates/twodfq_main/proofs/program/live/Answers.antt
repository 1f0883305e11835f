use Rattle.program_model.specs.Commands.{is_live}
use Rattle.command_texts.proofs.Runs.{run_is}
use Rattle.twodfq_main.proofs.Asked.{runs}
use Rattle.twodfq_main.proofs.program.live.Goals as goal

pub returns : goal.returns
returns g c =
    runs is_live (run_is is_live c.live_end-end.result c.command.ensures.asked c.live_end-end.ensures.ends c.told.ensures.status c.told.ensures.told c.live_end-end.ensures.source_later c.live_end-end.ensures.sink_later c.told.ensures.later) c.live_end-end.ensures.sink_room
