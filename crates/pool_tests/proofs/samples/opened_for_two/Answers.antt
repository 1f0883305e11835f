use Rattle.std.proofs.Common.{ℕ, suc, List, [], ◌∷◌}
use Rattle.history_lock.specs.Passes.{LockView, IsOf}
use Rattle.desk.specs.declared.floor.Crew.{Crew}
use Rattle.desk.specs.declared.tokens.Worker.{Worker}
use Rattle.desk.specs.Ending.{HoldsOfEach}
use Rattle.desk.specs.Opening.{AreWorkers}
use Rattle.pool_tests.proofs.samples.opened_for_two.Goals as goal

are_own : (lock : LockView Crew) (from : ℕ) (workers : List Worker) → AreWorkers lock from workers → HoldsOfEach (λ (t : Worker). IsOf lock t.pass) workers
are_own lock from [] h = tt
are_own lock from (t ∷ workers) h = (h.0.0.own, are_own lock (suc from) workers h.1)

pub returns-clause-workers : goal.returns-clause-workers
returns-clause-workers g c = are_own _ 0 _ c.in-Ok.ensures.tokens.workers_are
