use Rattle.command_texts.proofs.Making.{first_stop}
use Rattle.command_texts.proofs.traces.trace.Goals as goal

pub returns-in-Err-clause-stop : goal.returns-in-Err-clause-stop
returns-in-Err-clause-stop c = first_stop c.args.input.items c.in-Err.fault c.fault_stop.result (rw c.as_slice.ensures.value at c.in-Err.ensures.fault) c.fault_stop.ensures
