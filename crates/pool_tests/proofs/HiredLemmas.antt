-- The tokens of three hands, by their places.
use Rattle.std.proofs.Common.{ℕ, ◌≡◌, List, [], ◌∷◌, get_or, subst, sym}
use Rattle.history_lock.specs.Passes.{LockView}
use Rattle.desk.specs.declared.floor.Crew.{Crew}
use Rattle.worker_gate.specs.declared.pool.Hand.{Hand}
use Rattle.pool_tests.specs.Hired.{IsFeeding, AreHired}

-- the first hand feeds
pub feeds_first : {G : Type 0} (lock : LockView Crew) (hands : List (Hand ℕ G)) (first fed : Hand ℕ G) → AreHired lock hands → first ≡ get_or hands 0 first → first ≡ fed → IsFeeding lock fed
feeds_first lock [] first fed h stands is = absurd h
feeds_first lock (a ∷ []) first fed h stands is = absurd h
feeds_first lock (a ∷ b ∷ []) first fed h stands is = absurd h
feeds_first lock (a ∷ b ∷ c ∷ []) first fed h stands is = subst (IsFeeding lock) is (subst (IsFeeding lock) (sym stands) h.0)
feeds_first lock (a ∷ b ∷ c ∷ d ∷ more) first fed h stands is = absurd h
