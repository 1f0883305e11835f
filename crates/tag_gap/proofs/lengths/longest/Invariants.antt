use Rattle.tag_difference.proofs.Prefixes.{first_entries}
use Rattle.tag_gap.proofs.LengthLemmas.{ExtremesAre}
use Rattle.tag_gap.proofs.lengths.longest.Given as goal

abbrev pub invariant-loop-entry : goal.invariant-loop-entry
invariant-loop-entry l = ExtremesAre l.config (first_entries l.past l.entry-index) l.tenant l.extremes
