use Rattle.tag_gap.specs.Reading.{Keeps}
use Rattle.tag_difference.specs.Found.{FoundIn}
use Rattle.tag_difference.proofs.Prefixes.{first_entries}
use Rattle.tag_gap.proofs.gaps.gap_of.Given as goal

abbrev pub invariant-loop-entry : goal.invariant-loop-entry
invariant-loop-entry l = record {
  keeps : Keeps l.config (first_entries l.past l.entry-index) l.reading;
  found : FoundIn l.config (first_entries l.past l.entry-index) l.f l.g l.found;
}
