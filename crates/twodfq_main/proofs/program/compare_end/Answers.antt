use Rattle.std.proofs.Common.{rules}
use Rattle.program_model.specs.declared.command.Command.TheVariants.{Compare}
use Rattle.program_model.specs.Commands.{Untold}
use Rattle.program_model.specs.Program.{moved, EndsCommand}
use Rattle.twodfq_main.proofs.Written.{output_ends}
use Rattle.twodfq_main.proofs.program.compare_end.Goals as goal

pub returns-in_ok-input-in-Some-Compare : goal.returns-in_ok-input-in-Some-Compare
returns-in_ok-input-in-Some-Compare g c =
    let command = Compare c.in-Some-Compare.options in
    let source = moved g.R.Source.left g.R.Source.faults c.args.source.now c.read_input.new.source in
    let sink = moved g.W.Sink.written g.W.Sink.faults c.args.sink.now c.written.new.sink in
    let read = c.in_ok-input-in-Some-Compare in
    let end : EndsCommand Untold command source sink c.written.result =
    output_ends Untold command source sink read.input.items read.ensures.input
    c.answer-output.result c.written.result c.answer-output.ensures c.written.ensures.ends in
    record { ends = search rules; source_later = c.read_input.ensures.later; sink_later = c.written.ensures.later; sink_room = c.written.ensures.room }
