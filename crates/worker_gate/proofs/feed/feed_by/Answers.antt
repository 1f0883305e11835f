use Rattle.fq_model.specs.History.{history_of}
use Rattle.worker_gate.proofs.FeedingKinds.{not_by_kind}
use Rattle.worker_gate.proofs.FeedingRows.{none_rests}
use Rattle.worker_gate.proofs.feed.feed_by.Goals as goal

pub returns-in-Some-clause-no_kind : goal.returns-in-Some-clause-no_kind
returns-in-Some-clause-no_kind g c =
    let row = c.in-Some.row in let rule = c.args.kinds.now in
    not_by_kind g.J.Job.label_of (λ r. g.F.Kind.kind_of rule.function r.job) c.args.desk.now.lock.frame.config (g.K.Clock.tells c.args.clock.now) c.args.who.now.pass.number (history_of c.feed_rows.new.who.pass.seen) row
    rule.kinds c.in-Some.cause (c.answers_below.ensures row.job) c.requires.kinds c.in-Some.ensures.refused

pub returns-in-None-clause-feeds : goal.returns-in-None-clause-feeds
returns-in-None-clause-feeds g c = none_rests g.J.Job.label_of (λ row. g.F.Kind.kind_of c.args.kinds.now.function row.job) c.args.desk.now.lock (g.K.Clock.tells c.args.clock.now) c.args.total c.args.rows.items c.args.who.now c.feed_rows.new.who c.feed_rows.new.rows.items c.in-None.ensures
