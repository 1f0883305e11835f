use Rattle.std.proofs.Common.{refl, sym}
use Rattle.desk.specs.declared.asking.Ask.TheVariants as ask
use Rattle.desk.specs.declared.asking.DeskReply.TheVariants as replies
use Rattle.desk.proofs.Turned.{numbered_by, own_kept, numbered_kept, known_kept, answered, take_leaves}
use Rattle.desk.proofs.calls.DeskOf+Floor+J+X.take.Goals as goal

pub turn-requires-clause-own : goal.turn-requires-clause-own
turn-requires-clause-own g c = c.requires

pub turn-requires-clause-allowed : goal.turn-requires-clause-allowed
turn-requires-clause-allowed g c = numbered_by g.J.Job.label_of c.args.self.now.lock c.args.worker.pass c.args.worker.worker c.requires c.args.worker.numbered

pub took-requires-clause-token : goal.took-requires-clause-token
took-requires-clause-token g c =
    let w = c.args.worker in let t = c.turn.ensures in let lock = c.args.self.now.lock in record {
      own = own_kept g.J.Job.label_of lock.frame w.pass c.turn.new.pass _ _ t.answers t.number;
      numbered = numbered_kept lock w.pass c.turn.new.pass w.worker c.requires t.lock t.number w.numbered;
      known = known_kept lock w.pass c.turn.new.pass w.worker c.requires t.lock w.known;
    }

pub took-requires-clause-left : goal.took-requires-clause-left
took-requires-clause-left g c =
    let w = c.args.worker in
    take_leaves g.J.Job.label_of c.args.self.now.lock w.pass c.turn.new.pass c.args.moment w.worker c.in-Took.taken _ c.requires w.numbered w.known w.free c.in-Took.ensures.answers refl

pub returns-clause-stays : goal.returns-clause-stays
returns-clause-stays g c = let t = c.turn.ensures in rw c.took.ensures.same.0 (record { own = t.lock; number = t.number; made = t.made; ended = t.ended })

pub returns-clause-answers : goal.returns-clause-answers
returns-clause-answers g c = rw c.took.ensures.same.0 (answered g.J.Job.label_of c.args.self.now.lock.frame c.args.worker.pass c.turn.new.pass (ask.Take c.args.moment c.args.worker.worker) (replies.Took c.in-Took.taken) _ c.in-Took.ensures.answers (sym c.took.ensures.reply))

pub returns-clause-worker : goal.returns-clause-worker
returns-clause-worker g c = c.took.ensures.same.1
