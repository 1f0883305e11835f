use Rattle.tenant_table.specs.Names.{names_of}
use Rattle.command_texts.proofs.Serving.{opened_is}
use Rattle.command_texts.proofs.script.opened.Goals as goal

pub returns : goal.returns
returns g c = opened_is c.args.what c.args.script.head c.args.script.body c.into_parts-config.result.0 (names_of c.into_parts-config.result.1) c.into_parts-config.result.2 c.served-output.result c.into_parts-config.ensures.config c.into_parts-config.ensures.tenants c.into_parts-config.ensures.kinds c.served-output.ensures
