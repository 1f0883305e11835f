use Rattle.std.proofs.Common.{arith, ◌≡◌, ◌-◌, ◌<◌, suc, sym, subst}
use Rattle.worker_gate.specs.Watching.{Watched}
use Rattle.worker_gate.proofs.Watching.{watched_more}
use Rattle.worker_gate.proofs.watch.watch.Goals as goal

pub loop-left-preserved : goal.loop-left-preserved
loop-left-preserved c =
    let was = c.loop-left.invariant in
    let some : 0 < c.loop-left.left = c.loop-left-test.true in
    let times = c.args.left.now - c.loop-left.left in
    let next : c.args.left.now - (c.loop-left.left - 1) ≡ suc times = omega (arith, some, was.fewer) in
    let waited : Watched c.args.board.now times c.args.reader.now c.await_entries.new.reader c.args.seen.now.items c.loop-left.seen.items =
    subst (λ reader. Watched c.args.board.now times c.args.reader.now reader c.args.seen.now.items c.loop-left.seen.items) (sym c.await_entries.ensures.same) was.watched in record {
      watched = watched_more c.args.board.now times (c.args.left.now - (c.loop-left.left - 1)) c.args.reader.now c.await_entries.new.reader c.read-status.new.self c.args.seen.now.items c.loop-left.seen.items c.push_reserved.new.self.items c.read-status.result next
          waited c.read-status.ensures.own c.read-status.ensures.noted c.read-status.ensures.seen c.read-status.ensures.status c.push_reserved.ensures.items;
      room = omega (arith, was.room, some, c.push_reserved.ensures.len, c.push_reserved.ensures.capacity);
      fewer = omega (arith, was.fewer);
    }
