use Rattle.std.proofs.Common.{◌+◌, ◌-◌, ◌*◌, ◌≤◌, ◌∙◌, drop, slice_index, sym, arith}
use Rattle.std.proofs.lemmas.List.{at_drop_more}
use Rattle.program_model.specs.Numbers.{with_digits}
use Rattle.program_model.proofs.Digits.{room_for_one, longer, with_one}
use Rattle.program_model.proofs.numbers.few_digits.Goals as goal

pub overflow_mul-number : goal.overflow_mul-number
overflow_mul-number c = omega (arith, room_for_one c.loop-byte.number c.loop-byte.byte-index c.loop-byte.invariant.small (omega arith))

pub overflow_add-number : goal.overflow_add-number
overflow_add-number c =
    omega (arith, c.if-not-is_ascii_digit.ensures.cases, room_for_one c.loop-byte.number c.loop-byte.byte-index c.loop-byte.invariant.small (omega arith))

pub loop-byte-preserved : goal.loop-byte-preserved
loop-byte-preserved c =
    let text = c.args.text.now in
    let k = c.loop-byte.byte-index in
    let b = slice_index text k in
    let digit = c.if-not-is_ascii_digit.ensures.cases in
    let fits : 10 * c.loop-byte.number + (b - 48) ≤ 18446744073709551615 = omega (arith, digit, room_for_one c.loop-byte.number k c.loop-byte.invariant.small (omega arith)) in
    record {
      so_far = sym (with_one c.loop-byte.number b (drop (k + 1) text) digit.0 digit.1 fits) ∙ sym (at_drop_more (with_digits c.loop-byte.number) text k 0 c.loop-byte-test.true)
          ∙ c.loop-byte.invariant.so_far;
      small = longer c.loop-byte.number (b - 48) k c.loop-byte.invariant.small (omega (arith, digit));
    }
