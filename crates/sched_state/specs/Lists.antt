-- The lists of waiting requests, and the jobs in them.
use Rattle.std.specs.Prelude.{ℕ, ◌<◌, ◌≡◌, if◌then◌else◌, List, [], ◌∷◌, ◌++◌, Option, Some, None, option_map, length}
use Rattle.std.specs.Ordering.{nat_cmp}
use Rattle.std.specs.FinMap as map
use Rattle.fq_model.specs.declared.config.Config.{Config}
use Rattle.fq_model.specs.History.{History, request_at, is_waiting, queue, waiting}
use Rattle.waiting_lists.specs.declared.item.Item.{Item}
use Rattle.waiting_lists.specs.Lists as lists

-- jobs by the numbers of their requests
abbrev pub JobMap : Type 0 → Type 0
JobMap J = map.FinMap nat_cmp J

module _ {J : Type 0} where
  -- the items of all lists
  abbrev pub all_items : List (List (Item J)) → List (Item J)
  all_items [] = []
  all_items (items ∷ more) = items ++ all_items more

  -- the jobs of these items
  abbrev pub jobs_of : List (Item J) → JobMap J
  jobs_of [] = map.empty
  jobs_of (i ∷ is) = map.insert (jobs_of is) i.request i.job

  -- the jobs in all lists
  abbrev pub jobs_in : List (List (Item J)) → JobMap J
  jobs_in all = jobs_of (all_items all)

-- the item is request r, which tenant t submitted with this kind, this declared cost and the job's label
pub record IsItemOf {J : Type 0} (label : J → ℕ) (P : History) (t r : ℕ) (i : Item J) : Type 0 where
  pub number : i.request ≡ r
  pub asked : request_at P r ≡ Some (record { tenant = t; kind = i.kind; declared = i.declared; label = label i.job })

-- the items are these requests of tenant t, in this order
abbrev pub AreItemsOf : {J : Type 0} → (J → ℕ) → History → ℕ → List (Item J) → List ℕ → Type 0
AreItemsOf label P t [] [] = Unit {0}
AreItemsOf label P t (i ∷ is) (r ∷ rs) = IsItemOf label P t r i × AreItemsOf label P t is rs
AreItemsOf label P t _ _ = ⊥

-- the list of each tenant is its queue, and as many wait in them as in the history
pub record ListsAre {J : Type 0} (label : J → ℕ) (C : Config) (P : History) (w : lists.ListsView J) : Type 0 where
  pub tenants : length w.lists ≡ length C.weights
  pub slots : w.slots ≡ C.requests
  pub items : (t : ℕ) → t < length C.weights → AreItemsOf label P t (lists.list_of w t) (queue P t)
  pub counted : lists.waiting w ≡ waiting P

-- the label of request q, if it waits
abbrev pub waiting_label : History → ℕ → Option ℕ
waiting_label P q = if is_waiting P q then option_map (λ a. a.label) (request_at P q) else None

-- there is a job for each waiting request, which has the request's label, and for no other
abbrev pub HoldsWaiting : {J : Type 0} → (J → ℕ) → History → JobMap J → Type 0
HoldsWaiting label P jobs = (q : ℕ) → option_map label (map.get jobs q) ≡ waiting_label P q
