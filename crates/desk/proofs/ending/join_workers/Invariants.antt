use Rattle.std.proofs.Common.{◌≡◌, List, ◌++◌}
use Rattle.history_lock.specs.Passes.{IsOf}
use Rattle.desk.specs.declared.tokens.Worker.{Worker}
use Rattle.desk.specs.Ending.{HoldsOfEach, HasJoined}
use Rattle.desk.proofs.ending.join_workers.Given as goal

abbrev pub invariant-loop-token : goal.invariant-loop-token
invariant-loop-token g l =
    HoldsOfEach (λ (t : Worker). IsOf l.lock t.pass) l.tokens.items × ((done : List Worker) × (l.fn.tokens.items ≡ l.tokens.items ++ done) × HasJoined l.lock (λ (t : Worker). t.pass) l.fn.first done l.first)

abbrev pub decreases-loop-token : goal.decreases-loop-token
decreases-loop-token g l = goal.left-loop-token g l
