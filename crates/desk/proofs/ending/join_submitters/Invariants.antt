use Rattle.std.proofs.Common.{◌≡◌, List, ◌++◌}
use Rattle.history_lock.specs.Passes.{IsOf}
use Rattle.desk.specs.declared.tokens.Submitter.{Submitter}
use Rattle.desk.specs.Ending.{HoldsOfEach, HasJoined}
use Rattle.desk.proofs.ending.join_submitters.Given as goal

abbrev pub invariant-loop-token : goal.invariant-loop-token
invariant-loop-token g l =
    HoldsOfEach (λ (t : Submitter). IsOf l.lock t.pass) l.tokens.items × ((done : List Submitter) × (l.fn.tokens.items ≡ l.tokens.items ++ done) × HasJoined l.lock (λ (t : Submitter). t.pass) l.fn.first done l.first)

abbrev pub decreases-loop-token : goal.decreases-loop-token
decreases-loop-token g l = goal.left-loop-token g l
