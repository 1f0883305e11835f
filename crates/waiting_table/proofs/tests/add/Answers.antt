use Rattle.std.proofs.Common.{sym}
use Rattle.waiting_table.proofs.Missing.{above_from}
use Rattle.waiting_table.proofs.tests.add.Goals as goal

pub push-requires-clause-above : goal.push-requires-clause-above
push-requires-clause-above g c = above_from c.args.ticket c.args.table.now.rows (sym c.in-None.ensures)
