use Rattle.std.proofs.Common.{ℕ, ◌≡◌, ◌<◌, false}
use Rattle.fq_model.specs.History.{history_of}
use Rattle.fq_model.specs.Report.{are_cells_few, doubled_slot}
use Rattle.lag_report.proofs.automatic.auto_slot.Given as goal

abbrev pub invariant-loop-doublings : goal.invariant-loop-doublings
invariant-loop-doublings l = record {
  doubled : l.slot ≡ doubled_slot l.doublings;
  below : (i : ℕ) → i < l.doublings → are_cells_few l.config (history_of l.past) (doubled_slot i) ≡ false;
}
