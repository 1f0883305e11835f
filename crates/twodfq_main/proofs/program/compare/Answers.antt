use Rattle.program_model.specs.Commands.{is_compare}
use Rattle.command_texts.proofs.Runs.{run_is}
use Rattle.twodfq_main.proofs.Asked.{runs}
use Rattle.twodfq_main.proofs.program.compare.Goals as goal

pub returns : goal.returns
returns g c =
    runs is_compare (run_is is_compare c.compare_end-end.result c.command.ensures.asked c.compare_end-end.ensures.ends c.told.ensures.status c.told.ensures.told c.compare_end-end.ensures.source_later c.compare_end-end.ensures.sink_later c.told.ensures.later) c.compare_end-end.ensures.sink_room
