use Rattle.std.proofs.Common.{List}
use Rattle.fq_model.specs.declared.config.Config.{Config}
use Rattle.fq_model.specs.declared.event.Entry.{Entry}
use Rattle.fq_model.specs.History.{history_of}
use Rattle.fq_model.specs.Rules.{IsLegal}
use Rattle.program_model.specs.Verdicts.{IsVerdict}
use Rattle.tag_lead.specs.Faults.{IsLeadFault}
use Rattle.tag_lead.specs.Leads.{IsLead}
use Rattle.lead_texts.proofs.Leads.{in_journal, pair_told, bad_told}
use Rattle.lead_texts.proofs.leading.of_pair.Goals as goal

pub returns-in_ok-text-in-Ok : goal.returns-in_ok-text-in-Ok
returns-in_ok-text-in-Ok c =
    let journal = c.args.journal.now in
    let is = in_journal journal c.config.result.now c.body.result.now c.config.ensures c.body.ensures
    (λ (C : Config) (entries : List Entry). IsLegal C (history_of entries) × IsLead C (history_of entries) c.args.f c.args.g c.in-Ok.lead) c.in-Ok.ensures.lead in
    rw (c.success.ensures.status, c.success.ensures.text) (pair_told c.args.of.now c.args.over.now journal c.args.f c.args.g c.in-Ok.lead c.in_ok-text-in-Ok.text.items c.requires is.0 is.1 c.in_ok-text-in-Ok.ensures)

pub not_legal-requires : goal.not_legal-requires
not_legal-requires c = (rw c.in-Err-NotLegal.field-0-is at c.in-Err-NotLegal.ensures.fault).0

pub returns-in-Err-NotLegal : goal.returns-in-Err-NotLegal
returns-in-Err-NotLegal c =
    let journal = c.args.journal.now in
    let bad = c.in-Err-NotLegal.bad in
    let fault = rw c.in-Err-NotLegal.field-0-is at c.in-Err-NotLegal.ensures.fault in
    let verdict = in_journal journal c.config.result.now c.body.result.now c.config.ensures c.body.ensures (λ (C : Config) (entries : List Entry). IsVerdict C entries bad) fault.1 in
    bad_told c.args.of.now c.args.over.now journal bad c.not_legal.result fault.0 verdict c.not_legal.ensures
