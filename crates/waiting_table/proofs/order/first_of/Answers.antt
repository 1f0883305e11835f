use Rattle.std.proofs.Common.{List, arith, sym, ap}
use Rattle.std.specs.List.{slice_get}
use Rattle.std.proofs.lemmas.Option.{slice_get-get_or}
use Rattle.waiting_table.specs.declared.row.Waiting.{Waiting}
use Rattle.waiting_table.proofs.Entries.{first_row, no_rows}
use Rattle.waiting_table.proofs.order.first_of.Goals as goal

pub returns-then-entry : goal.returns-then-entry
returns-then-entry c =
    sym (first_row c.args.entries.now c.loop-entry.entry-index _ (slice_get-get_or c.args.entries.now c.loop-entry.entry-index _ c.loop-entry-test.true) c.if-entry.true c.loop-entry.invariant)

pub returns : goal.returns
returns c =
    sym (ap (λ (l : List Waiting). slice_get l 0) (no_rows c.args.entries.now (λ k d l. c.loop-entry.invariant k d (omega (arith, l, c.loop-entry-test.false)))))
