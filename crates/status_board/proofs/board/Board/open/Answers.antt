use Rattle.std.proofs.Common.{rules, sym, ap, ◌∙◌, [], Some}
use Rattle.status_board.specs.Views.{same_view, new_reader, is_idle, is_resting}
use Rattle.status_board.specs.Words.{status_in}
use Rattle.status_board.proofs.Opening.{opens}
use Rattle.status_board.proofs.Sharing.{writer_splits}
use Rattle.status_board.proofs.Statuses.{opening_status}
use Rattle.status_board.proofs.board.Board.open.Goals as goal

pub of_words-requires : goal.of_words-requires
of_words-requires c = opens _

pub split_seat-requires : goal.split_seat-requires
split_seat-requires c = (search rules, search rules, writer_splits _ _ _ (ap (λ m. m.0.stage) c.in_ok-table.ensures.4))

pub invariant_of-reader : goal.invariant_of-reader
invariant_of-reader c = let now = c.split_seat.ensures.4 ∙ ap (λ m. (new_reader m.0, [])) c.in_ok-table.ensures.4 in record {
  bare = ap (λ m. m.1) now;
  idle = ap (λ m. is_idle m.0.stage) now;
  told = ap (λ m. status_in m.0.config m.0.seen) now ∙ ap (λ s. Some s) (sym (opening_status _));
}

pub invariant_of-result-2 : goal.invariant_of-result-2
invariant_of-result-2 c = let now = c.split_seat.ensures.2 ∙ ap (λ m. (same_view m.0, m.1)) c.in_ok-table.ensures.4 in record {
  bare = ap (λ m. m.1) now;
  rests = ap (λ m. is_resting m.0.stage) now;
  told = ap (λ m. status_in m.0.config m.0.seen) now ∙ ap (λ s. Some s) (sym (opening_status _));
}
