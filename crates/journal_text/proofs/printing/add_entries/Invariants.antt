use Rattle.std.proofs.Common.{◌≡◌, ◌++◌, drop}
use Rattle.program_model.specs.JournalText.{entries_text}
use Rattle.journal_text.specs.Printing.{IsKept}
use Rattle.journal_text.proofs.printing.add_entries.Given as goal

abbrev pub invariant-loop-entry : goal.invariant-loop-entry
invariant-loop-entry l = record {
  so_far : l.text.items ++ entries_text (drop l.entry-index l.past) ≡ l.fn.text.items ++ entries_text l.past;
  kept : IsKept l.fn.text.items l.text.items;
}
