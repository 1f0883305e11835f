use Rattle.std.proofs.Common.{◌≡◌, ◌<◌, ◌^◌, drop}
use Rattle.program_model.specs.Numbers.{with_digits}
use Rattle.program_model.proofs.numbers.few_digits.Given as goal

abbrev pub invariant-loop-byte : goal.invariant-loop-byte
invariant-loop-byte l = record {
  so_far : with_digits l.number (drop l.byte-index l.text) ≡ with_digits 0 l.text;
  small : l.number < 10 ^ l.byte-index;
}
