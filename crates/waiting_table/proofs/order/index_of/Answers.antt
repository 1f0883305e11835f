use Rattle.std.proofs.Common.{◌≡◌, ◌<◌, length, get_or, ltb-true, ltb-false, refl, sym, ap, ◌∙◌, subst, arith}
use Rattle.std.proofs.lemmas.Bool.{both_ways}
use Rattle.std.proofs.lemmas.List.{get_or_read}
use Rattle.std.proofs.lemmas.Option.{slice_get_read}
use Rattle.std.specs.Option.{MatchOption}
use Rattle.waiting_table.specs.declared.order.Entry.{Entry}
use Rattle.waiting_table.specs.Order.{HasNone, IsEntryOf}
use Rattle.waiting_table.proofs.Ordered.{none_from_place}
use Rattle.waiting_table.proofs.order.index_of.Goals as goal
use Rattle.waiting_table.proofs.order.index_of.Goals.{else-entry-via-then-entry+else-entry-ticket, else-entry-via-else-entry}

pub returns-in_err-entry : goal.returns-in_err-entry
returns-in_err-entry c =
    subst (λ o. MatchOption o (HasNone c.args.entries.now c.args.ticket) (IsEntryOf c.args.entries.now c.args.ticket)) (sym c.from_residual.ensures)
    (none_from_place c.args.entries.now c.args.ticket c.requires c.place_of-at.result c.place_of-at.ensures (λ d l w e. absurd (omega (arith, l, ltb-false _ _ (sym c.in_err-entry.ensures.lookup.0)))))

pub returns-then-entry-ticket : goal.returns-then-entry-ticket
returns-then-entry-ticket c = record {
  entry = c.in_ok-entry.entry.now;
  stands = slice_get_read c.args.entries.now _ c.place_of-at.result c.in_ok-entry.entry.now refl (ltb-true _ _ (sym c.in_ok-entry.ensures.lookup.0)) c.in_ok-entry.ensures.lookup.1;
  waits = c.if-entry.true;
  ticket_is = c.if-entry-ticket.true;
}

pub returns-else-entry : goal.returns-else-entry
returns-else-entry c =
    let here : (d : Entry) → c.place_of-at.result < length c.args.entries.now → c.in_ok-entry.entry.now ≡ get_or c.args.entries.now c.place_of-at.result d = λ d l. get_or_read c.args.entries.now c.place_of-at.result c.in_ok-entry.entry.now l c.in_ok-entry.ensures.lookup.1 d in
    none_from_place c.args.entries.now c.args.ticket c.requires c.place_of-at.result c.place_of-at.ensures (λ d l waits same. elim c.else-entry.branch [
      | else-entry-via-then-entry+else-entry-ticket w ↦ w.if-entry-ticket.false (ap (λ (x : Entry). x.row.ticket) (here d l) ∙ same)
      | else-entry-via-else-entry w ↦ both_ways _ w.if-entry.false (ap (λ (x : Entry). x.waits) (here d l) ∙ waits)
    ])
