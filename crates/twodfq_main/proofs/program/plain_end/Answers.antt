use Rattle.std.proofs.Common.{rules}
use Rattle.program_model.specs.declared.command.Command.TheVariants.{Plain}
use Rattle.program_model.specs.Commands.{Untold}
use Rattle.program_model.specs.Program.{moved, EndsCommand}
use Rattle.twodfq_main.proofs.Written.{output_ends}
use Rattle.twodfq_main.proofs.program.plain_end.Goals as goal

pub returns-in_ok-input-in-Some-Plain : goal.returns-in_ok-input-in-Some-Plain
returns-in_ok-input-in-Some-Plain g c =
    let command = Plain c.in-Some-Plain.command in
    let source = moved g.R.Source.left g.R.Source.faults c.args.source.now c.read_input.new.source in
    let sink = moved g.W.Sink.written g.W.Sink.faults c.args.sink.now c.written.new.sink in
    let end : EndsCommand Untold command source sink c.written.result =
    output_ends Untold command source sink c.in_ok-input-in-Some-Plain.input.items (rw c.reads_input.ensures at c.in_ok-input-in-Some-Plain.ensures.input)
    c.answer-output.result c.written.result c.answer-output.ensures c.written.ensures.ends in
    record { ends = search rules; source_later = c.read_input.ensures.later; sink_later = c.written.ensures.later; sink_room = c.written.ensures.room }
