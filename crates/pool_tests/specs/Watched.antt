-- Readers of the board of a desk.
use Rattle.std.specs.Prelude.{◌≡◌, Option, Some}
use Rattle.history_lock.specs.Passes.{LockView}
use Rattle.status_board.specs.Boards.{BoardView, ReaderView, IsReaderOf}
use Rattle.desk.specs.declared.floor.Crew.{Crew}

-- a desk of this lock shares a board, on which its past is shown, and the reader is of it
abbrev pub IsReaderAt : LockView Crew → Option BoardView → ReaderView → Type 0
IsReaderAt lock shared reader =
    (board : BoardView) × (shared ≡ Some board) × (lock.frame.board ≡ Some board) × IsReaderOf board reader
