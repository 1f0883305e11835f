use Rattle.std.proofs.Common.{sym}
use Rattle.journal_text.proofs.Names.{no_name}
use Rattle.journal_text.proofs.named.name.Goals as goal

pub returns-in-Err-clause-named : goal.returns-in-Err-clause-named
returns-in-Err-clause-named c = sym (no_name c.args.word.now c.in-Err.ensures.cases.0)
