use Rattle.trace_reader.proofs.ReadBack.{reads_back}
use Rattle.law_book.proofs.traces.reads_back.Goals as goal

pub returns : goal.returns
returns c = reads_back
