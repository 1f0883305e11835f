use Rattle.std.proofs.Common.{ℕ, List, [], ◌∷◌, Option, option_map, ◌∙◌, sym, subst, arith}
use Rattle.std.specs.Arc.{arc_value}
use Rattle.std.proofs.lemmas.List.Elements.{All-cons, All-nil}
use Rattle.history_lock.specs.Passes.{LockView}
use Rattle.status_board.specs.Boards.{BoardView}
use Rattle.desk.specs.declared.floor.Crew.{Crew}
use Rattle.gate_rules.specs.declared.counters.Counters.{Counters}
use Rattle.worker_gate.specs.declared.pool.Hand.{Hand}
use Rattle.worker_gate.specs.declared.pool.Hand.TheVariants.{Feed, Work, Watch}
use Rattle.worker_gate.specs.Hands.{AreHandsOf, IsHandOf, HandDid, HandsDid}
use Rattle.pool_tests.specs.Hired.{IsFeeding, IsWorking, AreHired}
use Rattle.pool_tests.proofs.hand_tests.serve.Goals as goal

module _ {G : Type 0} where
  feeds : (lock : LockView Crew) (shared : Option BoardView) (x : Hand ℕ G) → IsFeeding lock x → IsHandOf lock shared x
  feeds lock shared (Feed who rows total stopped) h = h.0
  feeds lock shared (Work worker log) h = absurd h
  feeds lock shared (Watch reader left expected seen) h = absurd h

  works : (lock : LockView Crew) (shared : Option BoardView) (x : Hand ℕ G) → IsWorking lock x → IsHandOf lock shared x
  works lock shared (Feed who rows total stopped) h = absurd h
  works lock shared (Work worker log) h = h
  works lock shared (Watch reader left expected seen) h = absurd h

  hands_of : (lock : LockView Crew) (shared : Option BoardView) (hands : List (Hand ℕ G)) → AreHired lock hands → AreHandsOf lock shared hands
  hands_of lock shared [] h = absurd h
  hands_of lock shared (x ∷ []) h = absurd h
  hands_of lock shared (x ∷ y ∷ []) h = absurd h
  hands_of lock shared (x ∷ y ∷ z ∷ []) h =
      let P : Hand ℕ G → Type 0 = IsHandOf lock shared in
      All-cons P x (y ∷ z ∷ []) (feeds lock shared x h.0) (All-cons P y (z ∷ []) (works lock shared y h.1) (All-cons P z [] (works lock shared z h.2) (All-nil P)))
  hands_of lock shared (x ∷ y ∷ z ∷ w ∷ hands) h = absurd h

  module _ (lock : LockView Crew) (shared : Option BoardView) (course_of : ℕ → Option (List Counters)) (cost_of : Counters → ℕ) (Tells : ℕ → Type 0) where
    fed : (x y : Hand ℕ G) → IsFeeding lock x → HandDid (λ (job : ℕ). job) lock shared course_of cost_of Tells x y → IsFeeding lock y
    fed (Feed who rows total stopped) y h (who2, rows2, stopped2, is, did) = subst (IsFeeding lock) (sym is) (did.stays.own, did.stays.number ∙ h.1)
    fed (Work worker log) y h did = absurd h
    fed (Watch reader left expected seen) y h did = absurd h

    worked : (x y : Hand ℕ G) → IsWorking lock x → HandDid (λ (job : ℕ). job) lock shared course_of cost_of Tells x y → IsWorking lock y
    worked (Feed who rows total stopped) y h did = absurd h
    worked (Watch reader left expected seen) y h did = absurd h
    worked (Work worker log) y h (after, log2, is, did) = subst (IsWorking lock) (sym is) did.stays.own

    all_did : (olds news : List (Hand ℕ G)) → AreHired lock olds → HandsDid (λ (job : ℕ). job) lock shared course_of cost_of Tells olds news → AreHired lock news
    all_did [] news h did = absurd h
    all_did (a ∷ []) news h did = absurd h
    all_did (a ∷ b ∷ []) news h did = absurd h
    all_did (a ∷ b ∷ c ∷ d ∷ olds) news h did = absurd h
    all_did (a ∷ b ∷ c ∷ []) [] h did = absurd (omega (arith, did.0))
    all_did (a ∷ b ∷ c ∷ []) (x ∷ []) h did = absurd (omega (arith, did.0))
    all_did (a ∷ b ∷ c ∷ []) (x ∷ y ∷ []) h did = absurd (omega (arith, did.0))
    all_did (a ∷ b ∷ c ∷ []) (x ∷ y ∷ z ∷ []) h did =
        (fed a x h.0 (did.1 0 a (omega arith)), worked b y h.1 (did.1 1 a (omega arith)), worked c z h.2 (did.1 2 a (omega arith)))
    all_did (a ∷ b ∷ c ∷ []) (x ∷ y ∷ z ∷ w ∷ news) h did = absurd (omega (arith, did.0))

pub pool-requires-after_bounds : goal.pool-requires-after_bounds
pool-requires-after_bounds g c κs within = hands_of c.args.desk.now.lock (option_map arc_value c.args.desk.now.board) c.args.hands.now c.requires

pub returns : goal.returns
returns g c = all_did c.args.desk.now.lock _ _ _ _ c.args.hands.now c.pool.new.hands c.requires c.pool.ensures
