use Rattle.trace_reader.proofs.Lawful.{lawful_answer}
use Rattle.trace_reader.proofs.reading.read.Goals as goal

pub returns-in-Ok-clause-lawful : goal.returns-in-Ok-clause-lawful
returns-in-Ok-clause-lawful c = lawful_answer c.args.bytes.now c.finish.result (rw (← c.in-Ok.ensures.ok) at c.finish.ensures.ok)
