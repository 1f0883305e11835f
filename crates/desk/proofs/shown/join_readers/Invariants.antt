use Rattle.std.proofs.Common.{◌≡◌, List, ◌++◌}
use Rattle.status_board.specs.Boards.{ReaderView}
use Rattle.desk.specs.Shown.{AreReaders, HaveSeen}
use Rattle.desk.proofs.shown.join_readers.Given as goal

abbrev pub invariant-loop-reader : goal.invariant-loop-reader
invariant-loop-reader l =
    AreReaders l.board l.readers.items × (l.writer ≡ l.fn.writer) × ((done : List ReaderView) × (l.fn.readers.items ≡ l.readers.items ++ done) × HaveSeen l.fn.writer.shown done)

abbrev pub decreases-loop-reader : goal.decreases-loop-reader
decreases-loop-reader l = goal.left-loop-reader l
