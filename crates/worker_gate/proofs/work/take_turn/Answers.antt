use Rattle.worker_gate.proofs.ServingSteps.{take_step, rest_step}
use Rattle.worker_gate.proofs.ServingRuns.{serves_run, serves_rest}
use Rattle.worker_gate.proofs.ServingEnds.{turned_away}
use Rattle.worker_gate.proofs.work.take_turn.Goals as goal

pub run_job-requires : goal.run_job-requires
run_job-requires g c =
    let t = take_step c.args.desk.now.lock (g.K.Clock.tells c.args.clock.now) (g.J.Job.label_of c.in-Run.job) c.args.free c.in-Run.running c.now.result c.in-Run.ensures.stays c.now.ensures c.in-Run.ensures.answers in
    t.start

pub returns-in-Run : goal.returns-in-Run
returns-in-Run g c begun asked serves =
    let t = take_step c.args.desk.now.lock (g.K.Clock.tells c.args.clock.now) (g.J.Job.label_of c.in-Run.job) c.args.free c.in-Run.running c.now.result c.in-Run.ensures.stays c.now.ensures c.in-Run.ensures.answers in
    serves_run c.args.desk.now.lock (g.K.Clock.tells c.args.clock.now) (g.G.Gate.course c.args.gate.now) (g.F.Cost.cost_of c.args.rule.now)
    begun c.args.free c.run_job.result c.in-Run.running (g.J.Job.label_of c.in-Run.job) asked c.args.log.now c.run_job.new.log serves t c.in-Run.ensures.worker c.run_job.ensures

pub returns-in-Idle : goal.returns-in-Idle
returns-in-Idle g c begun asked serves =
    let r = rest_step c.args.desk.now.lock (g.K.Clock.tells c.args.clock.now) c.args.free c.in-Idle.back.pass c.now.result _ c.in-Idle.ensures.stays c.now.ensures tt c.in-Idle.ensures.answers in
    serves_rest c.args.desk.now.lock (g.K.Clock.tells c.args.clock.now) (g.G.Gate.course c.args.gate.now) (g.F.Cost.cost_of c.args.rule.now)
    begun c.args.free c.in-Idle.back asked c.args.log.now c.now.result c.args.free.worker _ serves r c.in-Idle.ensures.worker

pub returns-in-Drained : goal.returns-in-Drained
returns-in-Drained g c begun asked serves =
    let t = c.take.ensures in
    turned_away g.J.Job.label_of c.args.desk.now.lock (g.K.Clock.tells c.args.clock.now) (g.G.Gate.course c.args.gate.now) (g.F.Cost.cost_of c.args.rule.now)
    begun c.args.free c.in-Drained.back asked c.args.log.now c.now.result c.take.result serves c.now.ensures (record { stays = t.stays; answers = t.answers; worker = t.worker }) c.in-Drained.is
