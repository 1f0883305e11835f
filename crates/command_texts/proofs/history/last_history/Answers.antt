use Rattle.program_model.specs.declared.command.HistoryPrint.TheVariants.{Summary}
use Rattle.fq_model.specs.History.{history_of}
use Rattle.tenant_table.specs.Names.{names_of}
use Rattle.command_texts.proofs.Reports.{few_answer, summed}
use Rattle.command_texts.proofs.history.last_history.Goals as goal

pub returns-in_ok-text-in-Summary : goal.returns-in_ok-text-in-Summary
returns-in_ok-text-in-Summary c =
    let made = c.in_ok-report-in-Summary.ensures.report in
    let text = summed c.args.slot c.args.history.config (history_of c.args.history.past) c.in_ok-report-in-Summary.report c.in_ok-text-in-Summary.field-0.items c.made_report.ensures.legal made c.in_ok-text-in-Summary.ensures in
    rw (c.in-Summary.is, c.success-in-Summary.ensures.status, c.success-in-Summary.ensures.text)
    (few_answer Summary c.args.slot c.args.history.config (names_of c.args.tenants.now) c.args.kinds.now c.args.history.past c.in_ok-text-in-Summary.field-0.items made.few text)
