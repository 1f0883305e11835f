-- The tokens of three hands.
use Rattle.std.specs.Prelude.{◌≡◌, ℕ, List, [], ◌∷◌}
use Rattle.history_lock.specs.Passes.{LockView, IsOf}
use Rattle.desk.specs.declared.floor.Crew.{Crew}
use Rattle.worker_gate.specs.declared.pool.Hand.{Hand}
use Rattle.worker_gate.specs.declared.pool.Hand.TheVariants.{Feed, Work}

module _ {G : Type 0} where
  -- submitter 0 feeds, with its token of this lock
  abbrev pub IsFeeding : LockView Crew → Hand ℕ G → Type 0
  IsFeeding lock (Feed who rows total stopped) = IsOf lock who.pass × (who.pass.number ≡ 0)
  IsFeeding lock _ = ⊥

  -- a worker stands there, with its token of this lock
  abbrev pub IsWorking : LockView Crew → Hand ℕ G → Type 0
  IsWorking lock (Work worker log) = IsOf lock worker.pass
  IsWorking lock _ = ⊥

  abbrev pub AreHired : LockView Crew → List (Hand ℕ G) → Type 0
  AreHired lock (zero ∷ first ∷ second ∷ []) = IsFeeding lock zero × IsWorking lock first × IsWorking lock second
  AreHired lock _ = ⊥
