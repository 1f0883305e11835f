use Rattle.std.proofs.Common.{◌≡◌}
use Rattle.fq_model.specs.Gap.{not_declared}
use Rattle.tag_difference.proofs.Prefixes.{first_entries}
use Rattle.tag_gap.proofs.strays.least_stray.Given as goal

abbrev pub invariant-loop-entry : goal.invariant-loop-entry
invariant-loop-entry l = l.least ≡ not_declared l.config (first_entries l.past l.entry-index)
