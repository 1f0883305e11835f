use Rattle.std.proofs.Common.{◌*◌, ◌≤◌, ◌≡◌, drop, length}
use Rattle.program_model.specs.JournalText.{numbers_text}
use Rattle.journal_text.proofs.rows.add_last.Given as goal

abbrev pub invariant-numbers : goal.invariant-numbers
invariant-numbers l = record {
  written : drop l.at l.line ≡ numbers_text (drop l.left l.numbers);
  room : 21 * l.left ≤ l.at;
  inside : l.at ≤ 147;
  some : l.left ≤ length l.numbers;
  size : length l.line ≡ 148;
}

abbrev pub decreases-numbers : goal.decreases-numbers
decreases-numbers l = l.left
