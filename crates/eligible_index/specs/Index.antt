-- The index: the table of keys, and two trees a worker over it.
use Rattle.std.specs.Prelude.{ℕ, ◌≡◌, ◌<◌, ◌≤◌, ℤ, List, [], length, slice_index_or}
use Rattle.fq_model.specs.declared.config.Policy.{Policy}
use Rattle.fq_model.specs.declared.limits.TheConstants.{MOST_TENANTS}
use Rattle.tag_rules.specs.Tables.{Table, ChooserView, RequestsDiffer, turn_of}
use Rattle.eligible_index.specs.Trees.{TreesView, Follow, HaveNoKey, AreExact, cleared, with_noted}

-- the view of an index in contracts: the chooser that it is, and the trees by worker
pub record IndexView : Type 0 where
  pub chooser : ChooserView
  pub trees : List TreesView

-- the trees of worker i
abbrev pub trees_of : List TreesView → ℕ → TreesView
trees_of trees i = slice_index_or trees i (record { later = []; eligible = []; noted = [] })

-- The invariant of an index: the trees of each worker follow the table, by the present number of workers and the
-- greatest virtual time of a choice so far; those of workers beyond that number are empty.
pub record KeepsIndex
    (policy : Policy) (workers : ℕ) (table : Table) (latest : ℤ) (trees : List TreesView) : Type 0 where
  pub few : length table ≤ MOST_TENANTS
  pub differ : RequestsDiffer table
  pub staffed : workers ≤ length trees
  pub follow : (i : ℕ) → i < length trees
      → Follow (record { policy = policy; workers = workers; worker = i; virtual_time = latest }) table
      (trees_of trees i)
  pub retired : (i : ℕ) → workers ≤ i → i < length trees → HaveNoKey (trees_of trees i)

-- the trees of worker i are exact for a choice at v
abbrev pub IsExactFor : IndexView → ℕ → ℤ → Type 0
IsExactFor x i v =
    AreExact (turn_of x.chooser.setting i v) x.chooser.table (trees_of x.trees i).later (trees_of x.trees i).eligible

-- the tenant is noted for each worker
abbrev pub AreNoted : ℕ → List TreesView → List TreesView → Type 0
AreNoted t old new =
    (length new ≡ length old) × ((i : ℕ) → i < length old → trees_of new i ≡ with_noted (trees_of old i) t)

-- the trees of each worker are those of `tenants` tenants: empty, and every tenant noted
abbrev pub AreCleared : ℕ → List TreesView → List TreesView → Type 0
AreCleared tenants old new = (length new ≡ length old) × ((i : ℕ) → i < length old → trees_of new i ≡ cleared tenants)
