use Rattle.program_model.specs.Commands.{is_plain}
use Rattle.command_texts.proofs.Runs.{run_is}
use Rattle.twodfq_main.proofs.Asked.{runs}
use Rattle.twodfq_main.proofs.program.plain.Goals as goal

pub returns : goal.returns
returns g c =
    runs is_plain (run_is is_plain c.plain_end-end.result c.command.ensures.asked c.plain_end-end.ensures.ends c.told.ensures.status c.told.ensures.told c.plain_end-end.ensures.source_later c.plain_end-end.ensures.sink_later c.told.ensures.later) c.plain_end-end.ensures.sink_room
