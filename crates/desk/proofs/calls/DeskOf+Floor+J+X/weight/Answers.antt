use Rattle.std.proofs.Common.{refl}
use Rattle.desk.specs.declared.asking.Ask.TheVariants as ask
use Rattle.desk.specs.declared.asking.DeskReply.TheVariants as replies
use Rattle.desk.proofs.Turned.{own_kept, below_kept, answered}
use Rattle.desk.proofs.calls.DeskOf+Floor+J+X.weight.Goals as goal

pub invariant_of-who : goal.invariant_of-who
invariant_of-who g c =
    let t = c.change.ensures in let old = c.args.who.now in record {
      own = own_kept g.J.Job.label_of c.args.self.now.lock.frame old.pass c.change.new.pass _ _ t.turned t.stays.number;
      below = below_kept c.args.self.now.lock old.pass c.change.new.pass c.requires t.stays.own t.stays.number old.below;
    }

pub returns-clause-answers : goal.returns-clause-answers
returns-clause-answers g c = answered g.J.Job.label_of c.args.self.now.lock.frame c.args.who.now.pass c.change.new.pass (ask.Weight c.args.moment c.args.tenant c.args.weight) (replies.Changed c.change.result) _ c.change.ensures.turned refl
