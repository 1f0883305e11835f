use Rattle.std.proofs.Common.{sym, ap, ◌∙◌, ◌≡◌, arith}
use Rattle.status_board.proofs.Sharing.{merges, confirms}
use Rattle.status_board.proofs.Stages.{idle_is, rests_is}
use Rattle.status_board.proofs.board.Board.join.Goals as goal

pub join_seat-requires : goal.join_seat-requires
join_seat-requires c =
    let at : c.writer.inside.place.table_id ≡ c.self.inside.table.shared.table_id = ap (λ w. w.table) c.writer.view_is ∙ (c.requires.own.0 ∙ sym (ap (λ b. b.table) c.self.view_is)) in
    let reader_at : c.reader.inside.place.table_id ≡ c.self.inside.table.shared.table_id = ap (λ r. r.table) c.reader.view_is ∙ (c.requires.reader_own.0 ∙ sym (ap (λ b. b.table) c.self.view_is)) in
    (at, reader_at, c.reader.invariant.bare, omega (arith, c.self.invariant), merges _ _ _ _ _ (rests_is _ c.writer.invariant.rests) (idle_is _ c.reader.invariant.idle))

pub load-requires : goal.load-requires
load-requires c =
    let at : c.writer.inside.place.table_id ≡ c.self.inside.table.shared.table_id = ap (λ w. w.table) c.writer.view_is ∙ (c.requires.own.0 ∙ sym (ap (λ b. b.table) c.self.view_is)) in
    (c.join_seat.ensures.0 ∙ at, omega (arith, c.self.invariant), confirms _ _ _ _ (ap (λ m. m.0.stage) c.join_seat.ensures.2 ∙ rests_is _ c.writer.invariant.rests))
