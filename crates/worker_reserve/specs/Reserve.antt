-- The view of a reserve in contracts.
use Rattle.std.specs.Prelude.{ℕ, List, [], ◌∷◌, ◌++◌, ◌/◌, max, if◌then◌else◌}
use Rattle.worker_reserve.specs.declared.demand.Ended.{Ended}
use Rattle.worker_reserve.specs.declared.reserve.Finished.{Finished}
use Rattle.worker_reserve.specs.Classes.{class_of}
use Rattle.worker_reserve.specs.Demand.{demand}

-- the ends of all requests in order of time, and of those that were a visitor's when they were taken
pub record ReserveView : Type 0 where
  pub ends : List Ended
  pub visits : List Ended

-- a request is of the class of its estimate or of its cost, whichever is greater
abbrev pub end_of : Finished → Ended
end_of f = record { moment = f.moment; ran = f.ran; class = class_of (max f.estimate f.cost) }

abbrev pub with_end : ReserveView → Finished → ReserveView
with_end r f = record {
  ends = r.ends ++ end_of f ∷ [];
  visits = if f.is_visitor then r.visits ++ end_of f ∷ [] else r.visits;
}

-- the demand of requests that are small beside one of this estimate: they are of a class below that of an eighth of it
abbrev pub demand_beside : ℕ → List Ended → ℕ → ℕ
demand_beside estimate past moment = demand past moment (class_of (estimate / 8))
