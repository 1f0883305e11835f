use Rattle.std.proofs.Common.{rules, slice_index_or, option_map}
use Rattle.std.specs.Arc.{arc_value}
use Rattle.worker_gate.specs.Hands.{HandDid}
use Rattle.worker_gate.proofs.Did.{did_at, did_turned}
use Rattle.worker_gate.proofs.pool.pool.Goals as goal

pub returns-then-threads-gt0 : goal.returns-then-threads-gt0
returns-then-threads-gt0 g c =
    let label = g.J.Job.label_of in let lock = c.args.desk.now.lock in let shared = option_map arc_value c.args.desk.now.board in
    let course_of = g.G.Gate.course c.args.gate.now in let cost_of = g.F.Cost.cost_of c.args.rule.now in let Tells = g.K.Clock.tells c.args.clock.now in
    did_turned label lock shared course_of cost_of Tells
    c.args.hands.now c.reverse.new.self c.for_each_mut.new.s c.reverse-then-threads-gt0.new.self c.reverse.ensures.len c.reverse.ensures.by_index c.for_each_mut.auto.s
    (λ i d here.
    let x = (c.for_each_mut.ensures i d here).1 in
    let did : HandDid label lock shared course_of cost_of Tells x.argument.now x.after_call.now = search rules in
    did_at label lock shared course_of cost_of Tells (slice_index_or c.reverse.new.self i d) x.argument.now x.after_call.now (slice_index_or c.for_each_mut.new.s i d) x.argument_is x.left did)
    c.reverse-then-threads-gt0.ensures.len c.reverse-then-threads-gt0.ensures.by_index
