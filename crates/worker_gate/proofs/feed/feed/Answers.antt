use Rattle.worker_gate.proofs.FeedingRows.{none_rests}
use Rattle.worker_gate.proofs.feed.feed.Goals as goal

pub returns-in-None : goal.returns-in-None
returns-in-None g c = none_rests g.J.Job.label_of (λ row. row.kind) c.args.desk.now.lock (g.K.Clock.tells c.args.clock.now) c.args.total c.args.rows.items c.args.who.now c.feed_rows.new.who c.feed_rows.new.rows.items c.in-None.ensures
