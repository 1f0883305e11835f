-- The keys in the two trees of a worker.
use Rattle.std.specs.Prelude.{ℕ, ◌≡◌, ◌≢◌, ◌<◌, ◌⊎◌, ◌↔◌, Bool, true, false, List, Option, Some, None, Contains, length, replicate, slice_index_or, slice_set, pos}
use Rattle.fq_model.specs.declared.config.Policy.TheVariants.{Wfq}
use Rattle.fq_model.specs.Keys.{HeadKeys, Turn, finish, eligible_key, IsEligible}
use Rattle.tag_rules.specs.Tables.{Table, Has}
use Rattle.winner_tree.specs.declared.key.Key.{Key}
use Rattle.winner_tree.specs.Order.{key_of, HasKey, HasNoKey, IsFirst}
use Rattle.eligible_index.specs.Noted.{IsNoted}

-- the key of a head that is not eligible, in the first tree: by eligible key, then by finish, then by number
abbrev pub later_key : Turn → HeadKeys → Key
later_key at k = record { a = eligible_key at k; b = finish k; c = k.request }

-- the key of an eligible head, in the second tree: by finish, then by number
abbrev pub finish_key : HeadKeys → Key
finish_key k = record { a = finish k; b = pos 0; c = k.request }

-- the keys in the two trees of a worker, by tenant, and the tenants that are noted: whose keys have changed since
pub record TreesView : Type 0 where
  pub later : List (Option Key)
  pub eligible : List (Option Key)
  pub noted : List Bool

-- none of `tenants` tenants has a key
abbrev pub empty_trees : ℕ → TreesView
empty_trees tenants =
    record { later = replicate tenants None; eligible = replicate tenants None; noted = replicate tenants false }

-- no tenant has a key, and every tenant is noted
abbrev pub cleared : ℕ → TreesView
cleared tenants =
    record { later = replicate tenants None; eligible = replicate tenants None; noted = replicate tenants true }

-- a tenant is noted
abbrev pub with_noted : TreesView → ℕ → TreesView
with_noted w t = record { later = w.later; eligible = w.eligible; noted = slice_set w.noted t true }

-- The trees have the keys of the table's heads, and no other key: the first tree has the key of each head that is not
-- eligible, the second tree that of each eligible head.
pub record AreExact (at : Turn) (table : Table) (later eligible : List (Option Key)) : Type 0 where
  pub in_later : (t : ℕ) (key : Key)
      → HasKey later t key ↔ ((k : HeadKeys) × (Has table t k × (¬ IsEligible at k × (key ≡ later_key at k))))
  pub in_eligible : (t : ℕ) (key : Key)
      → HasKey eligible t key ↔ ((k : HeadKeys) × (Has table t k × (IsEligible at k × (key ≡ finish_key k))))

-- ---- trees between choices

-- a head of these keys is in the first tree, and the policy is not wfq
abbrev pub StandsLater : Turn → HeadKeys → Option Key → Option Key → Type 0
StandsLater at k later eligible = (later ≡ Some (later_key at k)) × ((eligible ≡ None) × (at.policy ≢ Wfq))

-- it is eligible, and in the second tree
abbrev pub StandsEligible : Turn → HeadKeys → Option Key → Option Key → Type 0
StandsEligible at k later eligible = (later ≡ None) × ((eligible ≡ Some (finish_key k)) × IsEligible at k)

-- a tenant with these keys of its head, or none, has these keys in the two trees: in exactly one where it has a head
abbrev pub Stands : Turn → Option HeadKeys → Option Key → Option Key → Type 0
Stands at None later eligible = (later ≡ None) × (eligible ≡ None)
Stands at (Some k) later eligible = StandsLater at k later eligible ⊎ StandsEligible at k later eligible

-- the keys of tenant t in the trees are as the table says
abbrev pub StandsIn : Turn → Table → List (Option Key) → List (Option Key) → ℕ → Type 0
StandsIn at table later eligible t = Stands at (slice_index_or table t None) (key_of later t) (key_of eligible t)

pub record AreSized (tenants : ℕ) (w : TreesView) : Type 0 where
  pub later : length w.later ≡ tenants
  pub eligible : length w.eligible ≡ tenants
  pub noted : length w.noted ≡ tenants

-- the keys in the trees of each tenant that is not noted are as the table says
pub record Follow (at : Turn) (table : Table) (w : TreesView) : Type 0 where
  pub sized : AreSized (length table) w
  pub stands : (t : ℕ) → t < length table → ¬ IsNoted w.noted t → StandsIn at table w.later w.eligible t

-- for each tenant, its keys in the trees are as the table says, or it is one of these numbers
abbrev pub StandBut : Turn → Table → List ℕ → List (Option Key) → List (Option Key) → Type 0
StandBut at table numbers later eligible =
    (t : ℕ) → t < length table → StandsIn at table later eligible t ⊎ Contains numbers t

-- the keys of each tenant in the trees are as the table says
abbrev pub AllStand : Turn → Table → List (Option Key) → List (Option Key) → Type 0
AllStand at table later eligible = (t : ℕ) → t < length table → StandsIn at table later eligible t

-- trees of as many leaves
abbrev pub SameSizes : List (Option Key) → List (Option Key) → List (Option Key) → List (Option Key) → Type 0
SameSizes later eligible later2 eligible2 = (length later2 ≡ length later) × (length eligible2 ≡ length eligible)

-- where each tenant stood as a table says, each does so now, and the trees are exact
abbrev pub IsMovedOver : Turn → List (Option Key) → List (Option Key) → List (Option Key) → List (Option Key) → Type 0
IsMovedOver at later eligible later2 eligible2 =
    (table : Table) → length later ≡ length table → AllStand at table later eligible
    → AllStand at table later2 eligible2 × AreExact at table later2 eligible2

-- t is the first of the eligible ones, or where there is none the first of the others
abbrev pub IsFirstIn : TreesView → ℕ → Type 0
IsFirstIn w t = ((key : Key) × IsFirst w.eligible t key) ⊎ (HasNoKey w.eligible × ((key : Key) × IsFirst w.later t key))

abbrev pub HaveNoKey : TreesView → Type 0
HaveNoKey w = HasNoKey w.later × HasNoKey w.eligible
