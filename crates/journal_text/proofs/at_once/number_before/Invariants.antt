use Rattle.std.proofs.Common.{◌≡◌, ◌<◌, ◌^◌, ◌++◌, ℕ, List, take}
use Rattle.program_model.specs.Numbers.{with_digits}
use Rattle.journal_text.proofs.at_once.number_before.Given as goal

abbrev pub invariant-loop-at : goal.invariant-loop-at
invariant-loop-at l = record {
  so_far : (more : List ℕ) → with_digits l.number more ≡ with_digits 0 (take l.at l.text ++ more);
  small : l.number < 10 ^ l.at;
}
