use Rattle.std.proofs.Common.{◌+◌, rules, arith, take, slice_set, length-set}
use Rattle.journal_text.proofs.AtOnce.{none_passed, one_passed, all_passed, whole_line, all_known}
use Rattle.journal_text.proofs.at_once.numbers_at_once.Goals as goal

pub loop-read-init : goal.loop-read-init
loop-read-init c = record { passed = none_passed c.in_ok-word.start.now; size = search rules }

pub overflow_sub-line : goal.overflow_sub-line
overflow_sub-line c =
    let all = all_passed c.in_ok-word.start.now c.loop-read.numbers c.loop-read.rest.now c.in_ok-number.behind.now c.loop-read.read c.in_ok-number.number c.in_ok-number.end
    c.loop-read.invariant.passed c.in_ok-number.ensures c.if-end-eq10.true (omega arith) in
    omega (arith, all.has.first.shorter)

pub slice_bounds-line-count : goal.slice_bounds-line-count
slice_bounds-line-count c =
    let all = all_passed c.in_ok-word.start.now c.loop-read.numbers c.loop-read.rest.now c.in_ok-number.behind.now c.loop-read.read c.in_ok-number.number c.in_ok-number.end
    c.loop-read.invariant.passed c.in_ok-number.ensures c.if-end-eq10.true (omega arith) in
    omega (arith, all.has.first.shorter)

pub of_numbers-requires : goal.of_numbers-requires
of_numbers-requires c =
    let numbers = slice_set c.loop-read.numbers c.loop-read.read c.in_ok-number.number in
    let all = all_passed c.in_ok-word.start.now c.loop-read.numbers c.loop-read.rest.now c.in_ok-number.behind.now c.loop-read.read c.in_ok-number.number c.in_ok-number.end
    c.loop-read.invariant.passed c.in_ok-number.ensures c.if-end-eq10.true (omega arith) in
    all_known c.in_ok-word.start.now c.in_ok-number.behind.now numbers (c.loop-read.read + 1) all (omega (arith, length-set c.loop-read.numbers c.loop-read.read c.in_ok-number.number))

pub returns-then-end-eq10 : goal.returns-then-end-eq10
returns-then-end-eq10 c =
    let numbers = slice_set c.loop-read.numbers c.loop-read.read c.in_ok-number.number in
    let all = all_passed c.in_ok-word.start.now c.loop-read.numbers c.loop-read.rest.now c.in_ok-number.behind.now c.loop-read.read c.in_ok-number.number c.in_ok-number.end
    c.loop-read.invariant.passed c.in_ok-number.ensures c.if-end-eq10.true (omega arith) in
    rw c.of_numbers.ensures (whole_line c.args.text.now c.in_ok-word.word.now c.in_ok-word.start.now c.in_ok-number.behind.now (take (c.loop-read.read + 1) numbers) c.in_ok-word.ensures.0 c.in_ok-word.ensures.1 all)

pub loop-read-preserved : goal.loop-read-preserved
loop-read-preserved c = record {
  passed = one_passed c.in_ok-word.start.now c.loop-read.numbers c.loop-read.rest.now c.in_ok-number.behind.now c.loop-read.read c.in_ok-number.number c.in_ok-number.end
      c.loop-read.invariant.passed c.in_ok-number.ensures c.if-end-ne32.false (omega arith);
  size = omega (arith, length-set c.loop-read.numbers c.loop-read.read c.in_ok-number.number);
}
