use Rattle.trace_reader.proofs.Generated.{generated_read}
use Rattle.law_book.proofs.traces.generated_reads_back.Goals as goal

pub returns : goal.returns
returns c = λ seed tenants requests within few. generated_read seed tenants requests within.0 within.1 few
