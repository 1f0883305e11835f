use Rattle.lag_report.proofs.Doublings.{auto_slot_serves}
use Rattle.law_book.proofs.reports.auto_slot_serves.Goals as goal

pub returns : goal.returns
returns c = auto_slot_serves
