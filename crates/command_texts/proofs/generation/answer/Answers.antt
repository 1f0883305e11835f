use Rattle.command_texts.proofs.Reports.{summary_made}
use Rattle.command_texts.proofs.generation.answer.Goals as goal

pub returns-in-Summary : goal.returns-in-Summary
returns-in-Summary c =
    summary_made c.args.seed c.args.tenants c.args.requests c.args.what c.in-Ok.trace c.simulated.result c.requires.tenants c.requires.requests c.in-Summary.is c.in-Ok.ensures.trace c.simulated.ensures
