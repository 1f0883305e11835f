-- The foreseen choice of a worker.
use Rattle.std.specs.Prelude.{ℕ, ◌<◌, ◌↔◌, IsTrue, List, slice_index_or, Option, Some, None, ℤ, unsigned_abs}
use Rattle.vt_fixed.specs.Rounding.{cost_of}
use Rattle.fq_model.specs.Foresee.{SomeIsSmaller}
use Rattle.fq_model.specs.Keys.{HeadKeys, Turn, IsEligible, IsChoice}
use Rattle.tag_rules.specs.Tables.{Table, Has, NoneHas, ChooserView, turn_of}
use Rattle.tag_rules.specs.declared.foresees.ForeseenChoice.{ForeseenChoice}

-- the estimate that these keys of tenant t stand for, at its weight, is below this
abbrev pub IsShort : List ℕ → (below tenant : ℕ) → HeadKeys → Type 0
IsShort weights below t k = cost_of (unsigned_abs k.len) (slice_index_or weights t 0) < below

-- some eligible head of the table has an estimate below this
abbrev pub SomeIsShort : Turn → Table → List ℕ → ℕ → Type 0
SomeIsShort at table weights below = SomeIsSmaller at (Has table) (IsShort weights below)

-- the tenant is the choice; whether its head is eligible, and whether some eligible head has an estimate below this
pub record IsForeseenChoice (at : Turn) (table : Table) (weights : List ℕ) (below : ℕ) (f : ForeseenChoice)
    : Type 0 where
  pub keys : HeadKeys
  pub choice : IsChoice at (Has table) f.tenant keys
  pub eligible : IsTrue f.is_eligible ↔ IsEligible at keys
  pub smaller : IsTrue f.has_smaller ↔ SomeIsShort at table weights below

-- over a table of keys: that no tenant has any, or the choice
abbrev pub IsForeseenOver : Turn → Table → List ℕ → ℕ → Option ForeseenChoice → Type 0
IsForeseenOver at table weights below None = NoneHas table
IsForeseenOver at table weights below (Some f) = IsForeseenChoice at table weights below f

-- the foreseen choice of worker i at virtual time v, by the setting and the table of the chooser
abbrev pub IsForeseenBy : ChooserView → ℕ → ℤ → List ℕ → ℕ → Option ForeseenChoice → Type 0
IsForeseenBy x i v weights below = IsForeseenOver (turn_of x.setting i v) x.table weights below
