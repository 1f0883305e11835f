use Rattle.std.proofs.Common.{sym, ap, ◌∙◌, ◌≡◌, arith}
use Rattle.status_board.proofs.Sharing.{reader_splits}
use Rattle.status_board.proofs.Stages.{idle_is}
use Rattle.status_board.proofs.board.Board.second.Goals as goal

pub split_seat-requires : goal.split_seat-requires
split_seat-requires c =
    let at : c.reader.inside.place.table_id ≡ c.self.inside.table.shared.table_id = ap (λ r. r.table) c.reader.view_is ∙ (c.requires.own.0 ∙ sym (ap (λ b. b.table) c.self.view_is)) in
    (at, omega (arith, c.self.invariant), reader_splits _ _ _ (idle_is _ c.reader.invariant.idle))
