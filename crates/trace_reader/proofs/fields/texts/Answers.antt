use Rattle.csv.specs.Records.{fields_of}
use Rattle.trace_reader.proofs.Places.{texts_are, no_texts}
use Rattle.trace_reader.proofs.fields.texts.Goals as goal

pub returns-in-Ok-clause-all : goal.returns-in-Ok-clause-all
returns-in-Ok-clause-all c = texts_are (fields_of c.args.bytes) (rw c.in-Ok.ensures.same at c.in-Ok.ensures.text)

pub returns-clause-all : goal.returns-clause-all
returns-clause-all c = no_texts (fields_of c.args.bytes) (λ all. cc (c.in-Err.ensures.refused all))
