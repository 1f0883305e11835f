-- The keys of the tenants' heads in a table, and the setting of a choice over it.
use Rattle.std.specs.Prelude.{ℕ, ◌≡◌, ◌≢◌, length, replicate, List, Option, Some, None, slice_get, slice_set, ℤ, pos}
use Rattle.fq_model.specs.declared.config.Config.{Config}
use Rattle.fq_model.specs.declared.config.Policy.{Policy}
use Rattle.fq_model.specs.Keys.{HeadKeys, Turn, IsChoice}

-- the setting of a chooser: the policy, the most workers that there can be, the workers that there are, and the tenants
pub record Setting : Type 0 where
  pub policy : Policy
  pub most_workers : ℕ
  pub workers : ℕ
  pub tenants : ℕ

-- the setting of a configuration while there are `workers` workers
abbrev pub setting_at : Config → ℕ → Setting
setting_at C workers = record {
  policy = C.policy;
  most_workers = C.workers;
  workers = workers;
  tenants = length C.weights;
}

-- the setting at the opening: the workers are the most that there can be
abbrev pub setting_of : Config → Setting
setting_of C = setting_at C C.workers

-- with `workers` workers
abbrev pub with_workers : Setting → ℕ → Setting
with_workers s workers = record {
  policy = s.policy;
  most_workers = s.most_workers;
  workers = workers;
  tenants = s.tenants;
}

-- by tenant, the keys of its head, if it has one
abbrev pub Table : Type 0
Table = List (Option HeadKeys)

-- tenant t has the keys k
abbrev pub Has : Table → ℕ → HeadKeys → Type 0
Has table t k = slice_get table t ≡ Some (Some k)

abbrev pub NoneHas : Table → Type 0
NoneHas table = (t : ℕ) (k : HeadKeys) → ¬ Has table t k

-- keys of tenant t are of another request than those of each other tenant
abbrev pub IsNewTo : Table → ℕ → HeadKeys → Type 0
IsNewTo table t k = (u : ℕ) (l : HeadKeys) → u ≢ t → Has table u l → k.request ≢ l.request

-- no two tenants have keys of one request
abbrev pub RequestsDiffer : Table → Type 0
RequestsDiffer table = (t : ℕ) (k : HeadKeys) → Has table t k → IsNewTo table t k

-- worker i chooses at virtual time v
abbrev pub turn_of : Setting → ℕ → ℤ → Turn
turn_of s i v = record { policy = s.policy; workers = s.workers; worker = i; virtual_time = v }

-- tenant t is the choice over the table
abbrev pub IsTableChoice : Setting → Table → ℕ → ℤ → ℕ → Type 0
IsTableChoice s table i v t = (k : HeadKeys) × IsChoice (turn_of s i v) (Has table) t k

-- the view of a chooser in contracts: its setting, the keys by tenant, and the greatest virtual time of a choice so far
pub record ChooserView : Type 0 where
  pub setting : Setting
  pub table : Table
  pub latest : ℤ

-- a chooser in which no tenant has keys
abbrev pub opened : Config → ChooserView
opened C = record { setting = setting_of C; table = replicate (length C.weights) None; latest = pos 0 }

-- with these keys of a tenant
abbrev pub with_keys : ChooserView → ℕ → Option HeadKeys → ChooserView
with_keys x t keys = record { setting = x.setting; table = slice_set x.table t keys; latest = x.latest }

-- while there are `workers` workers
abbrev pub resized : ChooserView → ℕ → ChooserView
resized x workers = record { setting = with_workers x.setting workers; table = x.table; latest = x.latest }

-- after a choice at virtual time v
abbrev pub asked_at : ChooserView → ℤ → ChooserView
asked_at x v = record { setting = x.setting; table = x.table; latest = v }
