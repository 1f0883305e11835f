use Rattle.status_board.specs.Boards.{IsReaderOf}
use Rattle.pool_tests.proofs.board_tests.watches.Given as goal

abbrev pub invariant-loop-look : goal.invariant-loop-look
invariant-loop-look l = IsReaderOf l.fn.board l.reader
