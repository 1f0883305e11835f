use Rattle.desk.proofs.Turned.{own_kept, below_kept}
use Rattle.desk.proofs.calls.DeskOf+Floor+J+X.workers.Goals as goal

pub invariant_of-who : goal.invariant_of-who
invariant_of-who g c =
    let t = c.change-result.ensures in let old = c.args.who.now in record {
      own = own_kept g.J.Job.label_of c.args.self.now.lock.frame old.pass c.change-result.new.pass _ _ t.turned t.stays.number;
      below = below_kept c.args.self.now.lock old.pass c.change-result.new.pass c.requires t.stays.own t.stays.number old.below;
    }
