use Rattle.std.proofs.Common.{sym, ap, ◌∙◌, ◌≡◌, arith}
use Rattle.status_board.proofs.Reading.{glances}
use Rattle.status_board.proofs.Stages.{idle_is}
use Rattle.status_board.proofs.reader.Reader.shown.Goals as goal

pub load-requires : goal.load-requires
load-requires c =
    let at : c.self.inside.place.table_id ≡ c.board.inside.table.shared.table_id = ap (λ r. r.table) c.self.view_is ∙ (c.requires.own.0 ∙ sym (ap (λ b. b.table) c.board.view_is)) in
    (at, omega (arith, c.board.invariant), glances _ _ _ _ (idle_is _ c.self.invariant.idle))
