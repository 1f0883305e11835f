use Rattle.std.proofs.Common.{ap, ◌∙◌}
use Rattle.fq_model.specs.History.{history_of, running_on}
use Rattle.desk.proofs.Turned.{numbered_kept, known_kept}
use Rattle.desk.proofs.foreseeing.DeskOf+Floor+J+X.foresee.Goals as goal

pub invariant_of-worker : goal.invariant_of-worker
invariant_of-worker g c =
    let w = c.args.worker.now in let p = c.inspect.ensures.pass in let lock = c.args.self.now.lock in record {
      own = p.mine_is;
      numbered = numbered_kept lock w.pass c.inspect.new.pass w.worker c.requires p.own p.number w.numbered;
      known = known_kept lock w.pass c.inspect.new.pass w.worker c.requires p.own w.known;
      free = ap (λ mine. running_on (history_of mine) w.worker) p.mine ∙ w.free;
    }
