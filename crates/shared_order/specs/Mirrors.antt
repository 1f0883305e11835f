-- An order of the heads whose keys a table has, and the choice over it.
use Rattle.std.specs.Prelude.{ℕ, ◌≡◌, ◌≢◌, ◌⊎◌, List, is_some, length, ◌≤◌, ℤ, pos, ◌-ℤ◌, ◌≤ℤ◌}
use Rattle.std.specs.List.{All, AllPairs, Contains, count_by}
use Rattle.fq_model.specs.Keys.{HeadKeys, Turn}
use Rattle.tag_rules.specs.Tables.{Table, Has, RequestsDiffer}
use Rattle.shared_order.specs.Heads.{HeadView, head_of}
use Rattle.shared_order.specs.Blocks.{OrderView}
use Rattle.shared_order.specs.Search.{AreInRange, IsReached, IsSooner, IsFirstThat, IsLeast}

-- the keys of a head: its start is its finish less its length
abbrev pub keys_of : HeadView → HeadKeys
keys_of h = record { start = h.finish -ℤ h.len; len = h.len; request = h.request }

-- the heads are those whose keys the table has: one a tenant, and as many as there are keys
pub record Mirrors (table : Table) (heads : List HeadView) : Type 0 where
  pub known : All (λ h. Has table h.tenant (keys_of h)) heads
  pub held : (t : ℕ) (k : HeadKeys) → Has table t k → Contains heads (head_of t k)
  pub apart : AllPairs (λ a b. a.tenant ≢ b.tenant) heads
  pub counted : length heads ≡ count_by is_some table
  pub in_range : AreInRange heads

-- the invariant of a chooser
pub record KeepsChooser (table : Table) (order : OrderView) (latest : ℤ) : Type 0 where
  pub differ : RequestsDiffer table
  pub mirrors : Mirrors table order.heads
  pub room : length table ≤ order.room
  pub begun : pos 0 ≤ℤ latest

-- the head is the first eligible head, or, where none is eligible, the head that becomes eligible soonest
abbrev pub IsChosen : Turn → List HeadView → HeadView → Type 0
IsChosen at heads h =
    IsFirstThat (IsReached at) heads h ⊎ (All (λ other. ¬ IsReached at other) heads × IsLeast (IsSooner at) heads h)
