use Rattle.std.proofs.Common.{rules}
use Rattle.program_model.specs.declared.command.Command.TheVariants.{Live}
use Rattle.program_model.specs.Program.{moved, EndsCommand}
use Rattle.twodfq_main.proofs.Written.{output_ends}
use Rattle.twodfq_main.proofs.program.live_end.Goals as goal

pub returns-in_ok-input-in-Some-Live : goal.returns-in_ok-input-in-Some-Live
returns-in_ok-input-in-Some-Live g c =
    let told = g.K.Clock.tells c.args.clock.now in
    let command = Live c.in-Some-Live.options in
    let source = moved g.R.Source.left g.R.Source.faults c.args.source.now c.read_input.new.source in
    let sink = moved g.W.Sink.written g.W.Sink.faults c.args.sink.now c.written.new.sink in
    let read = c.in_ok-input-in-Some-Live in
    let end : EndsCommand told command source sink c.written.result =
    output_ends told command source sink read.input.items read.ensures.input
    c.answer-output.result c.written.result c.answer-output.ensures c.written.ensures.ends in
    record { ends = search rules; source_later = c.read_input.ensures.later; sink_later = c.written.ensures.later; sink_room = c.written.ensures.room }
