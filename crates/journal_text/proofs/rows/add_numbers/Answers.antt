use Rattle.std.proofs.Common.{◌-◌, length, take, drop, refl, arith}
use Rattle.program_model.specs.JournalText.{numbers_text}
use Rattle.journal_text.proofs.Kept.{kept_all, kept_more, kept_through, one_number, rest_added, rest_kept}
use Rattle.journal_text.proofs.rows.add_numbers.Goals as goal

pub loop-k-init : goal.loop-k-init
loop-k-init c = record { so_far = refl; kept = kept_all c.args.text.now.items }

pub loop-k-preserved : goal.loop-k-preserved
loop-k-preserved c = record {
  so_far = one_number c.args.numbers.now c.loop-k.k c.loop-k.text.items c.add_number.new.text.items _ (omega (arith, c.loop-k-test.true, c.saturating_sub-first.ensures))
      c.in_ok-add_number.ensures.added c.loop-k.invariant.so_far;
  kept = kept_more c.args.text.now.items c.loop-k.text.items _ c.add_number.new.text.items c.loop-k.invariant.kept c.in_ok-add_number.ensures.added;
}

pub returns-in_err-add_number-clause-kept : goal.returns-in_err-add_number-clause-kept
returns-in_err-add_number-clause-kept c =
    kept_through c.args.text.now.items c.loop-k.text.items c.add_number.new.text.items c.loop-k.invariant.kept c.in_err-add_number.ensures.kept

pub returns-clause-added : goal.returns-clause-added
returns-clause-added c =
    rest_added c.add_last.result c.args.numbers.now c.saturating_sub-first.result c.loop-k.k c.loop-k.text.items c.add_last.new.text.items _ c.loop-k.auto.k-end c.loop-k-test.false
    c.add_last.ensures.added c.loop-k.invariant.so_far

pub returns-clause-kept : goal.returns-clause-kept
returns-clause-kept c =
    let rest = numbers_text (take (length c.args.numbers.now - c.saturating_sub-first.result) (drop c.saturating_sub-first.result c.args.numbers.now)) in
    rest_kept c.add_last.result c.args.text.now.items c.loop-k.text.items rest c.add_last.new.text.items c.add_last.ensures.added c.add_last.ensures.unchanged c.loop-k.invariant.kept
