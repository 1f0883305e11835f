use Rattle.std.proofs.Common.{◌≡◌}
use Rattle.fq_model.specs.Sums.{list_below}
use Rattle.lag_report.specs.Work.{line_for}
use Rattle.lag_report.proofs.lines.lines.Given as goal

abbrev pub invariant-loop-t : goal.invariant-loop-t
invariant-loop-t l = l.lines.items ≡ list_below (line_for l.weights l.courses l.fluid l.slot) l.t
