use Rattle.journal_check.proofs.Turns.{rows_more}
use Rattle.journal_check.proofs.explaining.rows_of.Goals as goal

pub loop-head-preserved : goal.loop-head-preserved
loop-head-preserved c = rows_more c.args.turn c.args.heads.now c.loop-head.head-index _ c.head-item.result c.loop-head.rows.items c.push.new.self.items c.row_of.result c.loop-head-test.true c.head-item.is c.loop-head.invariant c.row_of.ensures c.in_ok-push.ensures.items
