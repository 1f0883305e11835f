use Rattle.std.proofs.Common.{rules, ◌≡◌, [], sym, ◌∙◌}
use Rattle.worker_gate.proofs.FeedingRows.{begins_open, begins_closed, row_submitted, row_closed, row_refused, all_submitted}
use Rattle.worker_gate.proofs.feed.feed_rows.Goals.{then-total-eq0+then-number-eq0, else-total-eq0}
use Rattle.worker_gate.proofs.feed.feed_rows.Goals as goal

pub loop-row-init : goal.loop-row-init
loop-row-init g c =
    let kind_for = g.N.KindFor.kind_for c.args.kinds.now in let lock = c.args.desk.now.lock in let Tells = g.K.Clock.tells c.args.clock.now in
    let total = c.args.total in let rows = c.args.rows.now.items in let old = c.args.who.now in
    elim c.if-total-eq0.branch [
      | then-total-eq0+then-number-eq0 w ↦ let s = w.close_now.ensures in let a = s.answers in
          rw w.who-is (begins_closed g.J.Job.label_of kind_for lock Tells total rows old w.close_now.new.who a.0 a.1 c.requires w.if-total-eq0.true (sym c.number-number.ensures ∙ w.if-number-eq0.true) s.stays a.2 a.3)
      | else-total-eq0 w ↦ rw w.who-is (begins_open g.J.Job.label_of kind_for lock Tells total rows old c.number-number.result c.requires c.number-number.ensures w.else-total-eq0.either)
    ]

pub submit-requires : goal.submit-requires
submit-requires g c = c.loop-row.invariant.fed.stays.own

pub loop-row-preserved-then-is_last : goal.loop-row-preserved-then-is_last
loop-row-preserved-then-is_last g c =
    let s = c.in-Ok.ensures in let z = c.close_now-then-is_last.ensures in let a = z.answers in
    row_closed g.J.Job.label_of (g.N.KindFor.kind_for c.args.kinds.now) c.args.desk.now.lock (g.K.Clock.tells c.args.clock.now) c.args.total c.args.rows.now.items c.args.who.now
    c.in-Some.row c.loop-row.rows.items c.pop_front.new.self.items c.loop-row.who c.submit.new.who c.loop-row.invariant c.in-Some.ensures.items s.stays
    c.close_now-then-is_last.new.who c.now-moment.result c.kind_for-kind.result c.in-Ok.request a.0 a.1 c.if-is_last.ensures c.now-moment.ensures c.kind_for-kind.ensures s.answers z.stays a.2 a.3

pub loop-row-preserved : goal.loop-row-preserved
loop-row-preserved g c =
    let s = c.in-Ok.ensures in
    row_submitted g.J.Job.label_of (g.N.KindFor.kind_for c.args.kinds.now) c.args.desk.now.lock (g.K.Clock.tells c.args.clock.now) c.args.total c.args.rows.now.items c.args.who.now
    c.in-Some.row c.loop-row.rows.items c.pop_front.new.self.items c.loop-row.who c.submit.new.who c.loop-row.invariant c.in-Some.ensures.items s.stays
    c.now-moment.result c.kind_for-kind.result c.in-Ok.request c.if-is_last.ensures c.now-moment.ensures c.kind_for-kind.ensures s.answers

pub returns-in-Err : goal.returns-in-Err
returns-in-Err g c =
    let s = c.in-Err.ensures in
    row_refused g.J.Job.label_of (g.N.KindFor.kind_for c.args.kinds.now) c.args.desk.now.lock (g.K.Clock.tells c.args.clock.now) c.args.total c.args.rows.now.items c.args.who.now
    c.in-Some.row c.loop-row.rows.items c.pop_front.new.self.items c.loop-row.who c.submit.new.who c.loop-row.invariant c.in-Some.ensures.items s.stays
    c.now-moment.result c.kind_for-kind.result c.in-Err.field-0.cause c.in-Err.field-0.job s.job_back c.now-moment.ensures c.kind_for-kind.ensures s.answers

pub returns : goal.returns
returns g c =
    let empty : c.loop-row.rows.items ≡ [] = search rules in let left : c.pop_front.new.self.items ≡ [] = sym c.in_default.ensures.items ∙ empty in
    all_submitted g.J.Job.label_of (g.N.KindFor.kind_for c.args.kinds.now) c.args.desk.now.lock (g.K.Clock.tells c.args.clock.now) c.args.total c.args.rows.now.items c.args.who.now
    c.loop-row.rows.items c.pop_front.new.self.items c.loop-row.who c.loop-row.invariant empty left
