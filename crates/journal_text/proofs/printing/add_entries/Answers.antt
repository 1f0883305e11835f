use Rattle.std.proofs.Common.{◌++◌, arith, refl, ap}
use Rattle.fq_model.specs.declared.event.Act.TheVariants.{Submit}
use Rattle.fq_model.specs.declared.event.Entry.{Entry}
use Rattle.program_model.specs.JournalText.{entries_text}
use Rattle.journal_text.proofs.Kept.{kept_all, kept_more, kept_still, one_more, all_told}
use Rattle.journal_text.proofs.printing.add_entries.Goals as goal

-- the default of an index past the end
abbrev none : Entry
none = record { who = 0; moment = 0; act = Submit 0 0 0 0 0 }

pub loop-entry-init : goal.loop-entry-init
loop-entry-init c = record {
  so_far = ap (λ t. t ++ entries_text c.args.past.now) c.reserve.ensures.items;
  kept = kept_still c.args.text.now.items c.args.text.now.items c.reserve.new.self.items (kept_all c.args.text.now.items) c.reserve.ensures.items;
}

pub loop-entry-preserved : goal.loop-entry-preserved
loop-entry-preserved c = record {
  so_far = one_more entries_text c.args.past.now c.loop-entry.entry-index none _ c.loop-entry.text.items c.entry_line.new.out.items _ c.loop-entry-test.true refl
      c.in_ok-entry_line.ensures.added c.loop-entry.invariant.so_far;
  kept = kept_more c.args.text.now.items c.loop-entry.text.items _ c.entry_line.new.out.items c.loop-entry.invariant.kept c.in_ok-entry_line.ensures.added;
}

pub returns-in_err-entry_line-clause-kept : goal.returns-in_err-entry_line-clause-kept
returns-in_err-entry_line-clause-kept c =
    kept_still c.args.text.now.items c.loop-entry.text.items c.entry_line.new.out.items c.loop-entry.invariant.kept c.in_err-entry_line.ensures.unchanged

pub returns : goal.returns
returns c = record {
  added = all_told entries_text c.args.past.now c.loop-entry.entry-index c.loop-entry.text.items _ (omega arith) refl c.loop-entry.invariant.so_far;
  kept = c.loop-entry.invariant.kept;
}
