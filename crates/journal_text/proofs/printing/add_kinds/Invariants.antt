use Rattle.std.proofs.Common.{◌≡◌, ◌≤◌, ◌++◌, length, drop}
use Rattle.program_model.specs.JournalText.{kinds_text}
use Rattle.journal_text.specs.Printing.{IsKept}
use Rattle.journal_text.proofs.printing.add_kinds.Given as goal

abbrev pub invariant-loop-k : goal.invariant-loop-k
invariant-loop-k l = record {
  so_far : l.text.items ++ kinds_text (drop l.k l.kinds) ≡ l.fn.text.items ++ kinds_text l.kinds;
  below : l.k ≤ length l.kinds;
  kept : IsKept l.fn.text.items l.text.items;
}
