use Rattle.std.proofs.Common.{subst}
use Rattle.program_model.specs.Document.{config_of}
use Rattle.program_model.specs.Verdicts.{IsVerdict}
use Rattle.lead_texts.proofs.Leads.{stop_told, bad_told}
use Rattle.lead_texts.proofs.leading.judged.Goals as goal

pub returns-in-Legal : goal.returns-in-Legal
returns-in-Legal c =
    let journal = c.args.journal.now in
    stop_told c.args.of.now c.args.over.now journal c.in-Err.stop (subst (IsVerdict (config_of journal) journal.body) c.in-Legal.is c.in_ok-bad-in-Err.ensures) c.in-Err.ensures.stop

pub returns-in_default : goal.returns-in_default
returns-in_default c = bad_told c.args.of.now c.args.over.now c.args.journal.now c.in_ok-bad-in-Err.bad c.not_legal.result c.in_default.not-Legal c.in_ok-bad-in-Err.ensures c.not_legal.ensures
