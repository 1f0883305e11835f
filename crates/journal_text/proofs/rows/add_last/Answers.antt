use Rattle.std.proofs.Common.{◌≡◌, ◌≤◌, ◌+◌, ◌-◌, ◌*◌, ◌<◌, ◌++◌, ◌∷◌, ℕ, List, drop, get_or, set, length, arith, refl, rules, ap, sym, ◌∙◌, length-set}
use Rattle.std.proofs.lemmas.Fmt.{length-decimal-le}
use Rattle.std.proofs.lemmas.List.{at_drop_more, drop-set, drop_all}
use Rattle.std.specs.Fmt.{decimal}
use Rattle.program_model.specs.JournalText.{numbers_text}
use Rattle.journal_text.proofs.rows.add_last.Goals as goal

pub numbers-init : goal.numbers-init
numbers-init c = record {
  written = sym (ap numbers_text (drop_all (length c.args.numbers.now) c.args.numbers.now (omega arith)));
  room = omega (arith, c.requires);
  inside = omega arith;
  some = omega arith;
  size = refl;
}

pub write_digits-at-requires : goal.write_digits-at-requires
write_digits-at-requires c =
    let short : length (decimal (get_or c.args.numbers.now (c.numbers.left - 1) 0)) ≤ 20 = search (rules, length-decimal-le 20) in
    (omega (arith, short, c.numbers.invariant.room, c.numbers-test.true), omega (arith, c.numbers.invariant.inside, c.numbers.invariant.size))

pub overflow_sub-at-in-numbers : goal.overflow_sub-at-in-numbers
overflow_sub-at-in-numbers c =
    let short : length (decimal (get_or c.args.numbers.now (c.numbers.left - 1) 0)) ≤ 20 = search (rules, length-decimal-le 20) in
    omega (arith, short, c.write_digits-at.ensures.start, c.numbers.invariant.room, c.numbers-test.true)

-- a number before those that are written, after a space
one_before : (numbers line new : List ℕ) (left at start : ℕ) → 0 < left → left ≤ length numbers → 1 ≤ start → start ≤ length new
    → drop start new ≡ decimal (get_or numbers (left - 1) 0) ++ drop at line → drop at line ≡ numbers_text (drop left numbers)
    → drop (start - 1) (set new (start - 1) 32) ≡ numbers_text (drop (left - 1) numbers)
one_before numbers line new left at start some inside room fits written below =
    let n : ℕ = get_or numbers (left - 1) 0 in
    let next : left - 1 + 1 ≡ left = omega (arith, some) in
    let from : start - 1 + 1 ≡ start = omega (arith, room) in
    drop-set new (start - 1) 32 (omega (arith, room, fits))
    ∙ ap (λ i. 32 ∷ drop i new) from
    ∙ ap (λ t. 32 ∷ t) (written ∙ ap (λ t. decimal n ++ t) (below ∙ ap (λ i. numbers_text (drop i numbers)) (sym next)))
    ∙ sym (at_drop_more numbers_text numbers (left - 1) 0 (omega (arith, some, inside)))

pub numbers-preserved : goal.numbers-preserved
numbers-preserved c =
    let short : length (decimal (get_or c.args.numbers.now (c.numbers.left - 1) 0)) ≤ 20 = search (rules, length-decimal-le 20) in
    let same : length c.write_digits-at.new.buf ≡ 148 = c.write_digits-at.auto.buf ∙ c.numbers.invariant.size in
    let room : 21 * c.numbers.left ≤ c.numbers.at = c.numbers.invariant.room in
    let start : c.write_digits-at.result + length (decimal (get_or c.args.numbers.now (c.numbers.left - 1) 0)) ≡ c.numbers.at = c.write_digits-at.ensures.start in
    record {
      written = one_before c.args.numbers.now c.numbers.line c.write_digits-at.new.buf c.numbers.left c.numbers.at c.write_digits-at.result (omega (arith, c.numbers-test.true)) c.numbers.invariant.some
          (omega (arith, short, start, room, c.numbers-test.true)) (omega (arith, same, start, c.numbers.invariant.inside)) c.write_digits-at.ensures.written c.numbers.invariant.written;
      room = omega (arith, short, start, room, c.numbers-test.true);
      inside = omega (arith, start, c.numbers.invariant.inside);
      some = omega (arith, c.numbers.invariant.some);
      size = length-set c.write_digits-at.new.buf (c.write_digits-at.result - 1) 32 ∙ same;
    }
