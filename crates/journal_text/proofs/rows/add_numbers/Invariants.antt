use Rattle.std.proofs.Common.{◌≡◌, ◌++◌, drop}
use Rattle.program_model.specs.JournalText.{numbers_text}
use Rattle.journal_text.specs.Printing.{IsKept}
use Rattle.journal_text.proofs.rows.add_numbers.Given as goal

abbrev pub invariant-loop-k : goal.invariant-loop-k
invariant-loop-k l = record {
  so_far : l.text.items ++ numbers_text (drop l.k l.numbers) ≡ l.fn.text.items ++ numbers_text l.numbers;
  kept : IsKept l.fn.text.items l.text.items;
}
