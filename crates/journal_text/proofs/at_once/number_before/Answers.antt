use Rattle.std.proofs.Common.{ℕ, ◌+◌, ◌-◌, ◌*◌, ◌≤◌, ◌∷◌, ◌++◌, [], List, take, slice_index, refl, sym, ap, ◌∙◌, arith, append_assoc}
use Rattle.std.proofs.lemmas.List.{take_more, take_rest}
use Rattle.program_model.specs.Numbers.{with_digits}
use Rattle.program_model.proofs.Digits.{room_for_one, longer, with_one}
use Rattle.journal_text.proofs.AtOnce.{number_ended}
use Rattle.journal_text.proofs.at_once.number_before.Goals as goal

pub overflow_mul-number : goal.overflow_mul-number
overflow_mul-number c = omega (arith, room_for_one c.loop-at.number c.loop-at.at c.loop-at.invariant.small (omega arith))

pub overflow_add-number : goal.overflow_add-number
overflow_add-number c =
    omega (arith, c.if-not-is_ascii_digit.ensures.cases, room_for_one c.loop-at.number c.loop-at.at c.loop-at.invariant.small (omega arith))

pub loop-at-preserved : goal.loop-at-preserved
loop-at-preserved c =
    let text = c.args.text.now in
    let at = c.loop-at.at in
    let n = c.loop-at.number in
    let b = slice_index text at in
    let digit = c.if-not-is_ascii_digit.ensures.cases in
    let fits : 10 * n + (b - 48) ≤ 18446744073709551615 = omega (arith, digit, room_for_one n at c.loop-at.invariant.small (omega arith)) in
    record {
      so_far = λ more. sym (with_one n b more digit.0 digit.1 fits) ∙ c.loop-at.invariant.so_far (b ∷ more)
          ∙ ap (with_digits 0) (sym (append_assoc (take at text) (b ∷ []) more) ∙ ap (λ (front : List ℕ). front ++ more) (sym (take_more text at 0 (omega arith))));
      small = longer n (b - 48) at c.loop-at.invariant.small (omega (arith, digit));
    }

pub returns-then-is_spelled : goal.returns-then-is_spelled
returns-then-is_spelled c =
    rw take_rest (number_ended c.args.text.now c.loop-at.at c.loop-at.number (slice_index c.args.text.now c.loop-at.at) c.loop-at.invariant.so_far (omega arith) refl
    (c.if-is_spelled.ensures.0 refl).0 (c.if-is_spelled.ensures.0 refl).1)
