use Rattle.std.proofs.Common.{refl, sym, ap, ◌∙◌}
use Rattle.std.specs.Prelude.{option_copied}
use Rattle.worker_gate.proofs.Did.{did_so, did_watch}
use Rattle.worker_gate.proofs.pool.run.Goals as goal

pub returns-in-Feed : goal.returns-in-Feed
returns-in-Feed g c =
    let fed = c.feed_rows-stopped in
    did_so g.J.Job.label_of c.args.desk.now.lock _ _ _ _ c.args.hand _ _ c.in-Feed.is (fed.new.who, fed.new.rows, fed.result, refl, fed.ensures)

pub returns-in-Work : goal.returns-in-Work
returns-in-Work g c =
    let done = c.work-worker in
    did_so g.J.Job.label_of c.args.desk.now.lock _ _ _ _ c.args.hand _ _ c.in-Work.is (done.result, done.new.log, refl, done.ensures)

pub returns-in-Watch : goal.returns-in-Watch
returns-in-Watch g c =
    did_watch g.J.Job.label_of c.args.desk.now.lock _ _ _ _ c.args.hand c.unwrap-board.result.now c.in-Watch.reader c.watch.new.reader c.in-Watch.left c.watch.new.left c.in-Watch.expected c.in-Watch.seen c.watch.new.seen
    c.in-Watch.is (sym c.board.ensures ∙ ap option_copied c.unwrap-board.ensures) c.watch.ensures.none_left c.watch.ensures.watched
