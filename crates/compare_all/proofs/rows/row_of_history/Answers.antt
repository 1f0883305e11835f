use Rattle.std.proofs.Common.{◌≤◌, subst, sym}
use Rattle.fq_model.specs.History.{history_of}
use Rattle.fq_model.specs.Limits.{HasTextLimits}
use Rattle.compare_all.proofs.Made.{few_slots}
use Rattle.compare_all.proofs.rows.row_of_history.Goals as goal

pub cells-requires-clause-text : goal.cells-requires-clause-text
cells-requires-clause-text c = subst HasTextLimits (sym c.into_parts-config.ensures.config) c.requires.text

pub cells-requires-clause-slots : goal.cells-requires-clause-slots
cells-requires-clause-slots c =
    let long = c.in-Err-TooLong in
    subst (λ n. n ≤ 1000000000000001) (sym long.slots-is) (few_slots c.args.history.config (history_of c.args.history.past) c.if-asked-eq0.slot long.slots long.field-0-1 long.field-0 c.into_parts-config.ensures.legal c.requires.done long.field-0-is (rw (c.into_parts-config.ensures.entries, c.into_parts-config.ensures.config) at long.ensures.reason))
