use Rattle.std.proofs.Common.{◌∙◌, sym}
use Rattle.command_texts.proofs.Reports.{report_rows}
use Rattle.command_texts.proofs.history.reported.Goals as goal

pub print-text-requires : goal.print-text-requires
print-text-requires c = c.requires.names ∙ sym (report_rows _ _ _ _ c.in_ok-report.ensures.report)
