use Rattle.trace_reader.proofs.Generated.{generated_short}
use Rattle.law_book.proofs.traces.generated_is_short.Goals as goal

pub returns : goal.returns
returns c = λ seed tenants requests within few. generated_short seed tenants requests within.0 within.1 few
