use Rattle.worker_gate.proofs.ServingSlices.{slices_end, job_end, accepted_is_ok}
use Rattle.worker_gate.proofs.work.run_job.Goals as goal

pub unwrap-requires : goal.unwrap-requires
unwrap-requires g c =
    let s = c.run_slices-cost in
    let e = slices_end c.args.desk.now.lock (g.K.Clock.tells c.args.clock.now) (g.G.Gate.course c.args.gate.now) (g.F.Cost.cost_of c.args.rule.now) (g.J.Job.label_of c.args.job.now) c.args.running c.args.log.now
    s.new.running _ c.now.result s.result s.new.log _ s.ensures.slices s.ensures.limit c.done.ensures.stays c.now.ensures c.done.ensures.answers in
    accepted_is_ok c.done.result e.is_accepted

pub returns : goal.returns
returns g c =
    let s = c.run_slices-cost in
    job_end c.args.desk.now.lock (g.K.Clock.tells c.args.clock.now) (g.G.Gate.course c.args.gate.now) (g.F.Cost.cost_of c.args.rule.now) (g.J.Job.label_of c.args.job.now) c.args.running c.args.log.now
    s.new.running c.done.result c.unwrap.result c.now.result s.result s.new.log s.ensures.slices s.ensures.limit c.done.ensures.stays c.now.ensures c.done.ensures.answers c.done.ensures.token c.unwrap.ensures
