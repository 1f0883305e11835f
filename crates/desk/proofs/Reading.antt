-- Readers of a board, taken one by one from the end of a list.
use Rattle.std.proofs.Common.{List, [], ◌∷◌, ◌++◌}
use Rattle.status_board.specs.Boards.{BoardView, ReaderView, IsReaderOf}
use Rattle.desk.specs.Shown.{AreReaders}

pub readers_front : (board : BoardView) (xs ys : List ReaderView) → AreReaders board (xs ++ ys) → AreReaders board xs
readers_front board [] ys h = tt
readers_front board (x ∷ xs) ys h = (h.0, readers_front board xs ys h.1)

pub readers_last : (board : BoardView) (xs : List ReaderView) (y : ReaderView) → AreReaders board (xs ++ y ∷ []) → IsReaderOf board y
readers_last board [] y h = h.0
readers_last board (x ∷ xs) y h = readers_last board xs y h.1
