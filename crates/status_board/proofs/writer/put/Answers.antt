use Rattle.std.proofs.Common.{rules, arith}
use Rattle.status_board.proofs.Writing.{puts}
use Rattle.status_board.proofs.writer.put.Goals as goal

pub store-requires : goal.store-requires
store-requires c = (search rules, omega (arith, c.requires.own.1, c.requires.word.1), puts _ _ _ c.args.word _ _ c.requires.writes c.requires.word.0 c.requires.word.1)
