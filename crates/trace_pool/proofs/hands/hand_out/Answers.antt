use Rattle.std.proofs.Common.{length, subst}
use Rattle.trace_pool.specs.Parts.{AreHands}
use Rattle.trace_pool.proofs.hands.hand_out.Goals as goal

pub returns-clause-hands : goal.returns-clause-hands
returns-clause-hands g c = subst (λ n. AreHands c.args.rows.now c.args.desk.now.lock n (length c.args.workers.now.items) c.give_work.new.hands.items) c.give_rows.ensures.count c.give_work.ensures.hands
