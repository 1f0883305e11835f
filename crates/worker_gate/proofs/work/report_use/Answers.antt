use Rattle.worker_gate.proofs.ServingSteps.{report_step}
use Rattle.worker_gate.proofs.work.report_use.Goals as goal

pub returns : goal.returns
returns g c =
    let r = c.report.ensures in
    report_step c.args.desk.now.lock (g.K.Clock.tells c.args.clock.now) c.args.used c.args.running.now c.report.new.running c.now.result _ c.requires.own r.stays r.run c.now.ensures c.requires.rising c.requires.limit r.answers
