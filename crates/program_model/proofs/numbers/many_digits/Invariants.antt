use Rattle.std.proofs.Common.{◌≡◌, drop}
use Rattle.program_model.specs.Numbers.{with_digits}
use Rattle.program_model.proofs.numbers.many_digits.Given as goal

abbrev pub invariant-loop-byte : goal.invariant-loop-byte
invariant-loop-byte l = with_digits l.number (drop l.byte-index l.text) ≡ with_digits 0 l.text
