use Rattle.desk.proofs.Turned.{own_kept, below_kept}
use Rattle.desk.proofs.calls.DeskOf+Floor+J+X.withdraw.Goals as goal

pub invariant_of-who : goal.invariant_of-who
invariant_of-who g c =
    let t = c.turn.ensures in let old = c.args.who.now in record {
      own = own_kept g.J.Job.label_of c.args.self.now.lock.frame old.pass c.turn.new.pass _ _ t.answers t.number;
      below = below_kept c.args.self.now.lock old.pass c.turn.new.pass c.requires t.lock t.number old.below;
    }
