use Rattle.std.proofs.Common.{refl, arith}
use Rattle.worker_gate.proofs.ServingSlices.{along_first, along_next, along_end, along_most, along_rising}
use Rattle.worker_gate.proofs.work.run_slices.Goals as goal

pub loop-k-init : goal.loop-k-init
loop-k-init g c = along_first c.args.desk.now.lock (g.K.Clock.tells c.args.clock.now) (g.G.Gate.course c.args.gate.now) (g.F.Cost.cost_of c.args.rule.now) (g.J.Job.label_of c.args.job.now) c.args.running.now c.args.log.now c.requires

pub report_use-requires-clause-rising : goal.report_use-requires-clause-rising
report_use-requires-clause-rising g c =
    along_rising c.args.desk.now.lock (g.K.Clock.tells c.args.clock.now) (g.G.Gate.course c.args.gate.now) (g.F.Cost.cost_of c.args.rule.now) (g.J.Job.label_of c.args.job.now) c.args.running.now c.args.log.now
    c.loop-k.running c.loop-k.k c.cost.result c.loop-k.last c.in-More.counters c.loop-k.log c.loop-k.invariant c.cost.ensures.rises c.in-More.ensures.rises c.cost.ensures.answer

pub loop-k-preserved : goal.loop-k-preserved
loop-k-preserved g c =
    along_next c.args.desk.now.lock (g.K.Clock.tells c.args.clock.now) (g.G.Gate.course c.args.gate.now) (g.F.Cost.cost_of c.args.rule.now) (g.J.Job.label_of c.args.job.now) c.args.running.now c.args.log.now
    c.loop-k.running c.report_use.new.running c.loop-k.k c.cost.result c.loop-k.last c.in-More.counters c.loop-k.log c.slice.new.log c.loop-k.invariant c.in-More.ensures.follows c.in-More.ensures.noted c.cost.ensures.answer c.report_use.ensures

pub returns-clause-slices : goal.returns-clause-slices
returns-clause-slices g c =
    along_most c.args.desk.now.lock (g.K.Clock.tells c.args.clock.now) (g.G.Gate.course c.args.gate.now) (g.F.Cost.cost_of c.args.rule.now) (g.J.Job.label_of c.args.job.now) c.args.running.now c.args.log.now
    c.loop-k.running c.loop-k.k 9999 c.cost-in-More-slice.result c.loop-k.last c.in-More-slice.counters c.slice-2.result c.loop-k.log c.slice-2.new.log refl c.loop-k-test.false c.loop-k.auto.k-end c.loop-k.invariant c.cost-in-More-slice.ensures.rises c.slice-2.ensures.rises c.slice-2.ensures.follows c.slice-2.ensures.noted c.in-More-slice.is c.cost-in-More-slice.ensures.answer

pub returns-in-End-clause-slices : goal.returns-in-End-clause-slices
returns-in-End-clause-slices g c =
    along_end c.args.desk.now.lock (g.K.Clock.tells c.args.clock.now) (g.G.Gate.course c.args.gate.now) (g.F.Cost.cost_of c.args.rule.now) (g.J.Job.label_of c.args.job.now) c.args.running.now c.args.log.now
    c.loop-k.running c.loop-k.k c.cost-in-End.result c.loop-k.last c.in-End.counters c.loop-k.log c.slice.new.log c.loop-k.invariant c.cost-in-End.ensures.rises c.in-End.ensures.rises (omega (arith, c.loop-k-test.true)) c.in-End.ensures.follows c.in-End.ensures.noted c.cost-in-End.ensures.answer
