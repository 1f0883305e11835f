use Rattle.std.proofs.Common.{deque_len}
use Rattle.worker_gate.proofs.FeedingRows.{IsUnderway}
use Rattle.worker_gate.proofs.feed.feed_rows.Given as goal

abbrev pub invariant-loop-row : goal.invariant-loop-row
invariant-loop-row g l =
    IsUnderway g.J.Job.label_of (g.N.KindFor.kind_for l.kinds) l.desk.lock (g.K.Clock.tells l.clock) l.total l.fn.rows.items l.fn.who l.rows.items l.who

abbrev pub decreases-loop-row : goal.decreases-loop-row
decreases-loop-row g l = deque_len l.rows
