-- The first of the tenants below a number, as a scan over a table keeps it.
use Rattle.std.specs.Prelude.{ℕ, ◌+◌, ◌<◌, ◌≢◌, Option, Some, None}
use Rattle.fq_model.specs.Keys.{HeadKeys}
use Rattle.tag_rules.specs.Tables.{Table, Has, RequestsDiffer}
use Rattle.tag_rules.specs.declared.scan.Found.{Found}

module _ (Passes : HeadKeys → Type 0) (Before : HeadKeys → HeadKeys → Type 0) where
  -- of the tenants below n whose keys pass, t has the first
  pub record LeadsBelow (table : Table) (n t : ℕ) (k : HeadKeys) : Type 0 where
    pub below : t < n
    pub has : Has table t k
    pub passes : Passes k
    pub first : (u : ℕ) (l : HeadKeys) → u < n → u ≢ t → Has table u l → Passes l → Before k l

  -- the first of the tenants below n whose keys pass, if there is one
  abbrev pub IsFirstBelow : Table → ℕ → Option Found → Type 0
  IsFirstBelow table n None = (u : ℕ) (l : HeadKeys) → u < n → Has table u l → ¬ Passes l
  IsFirstBelow table n (Some found) = LeadsBelow table n found.tenant found.keys

-- keys come before the first, if there is one
abbrev pub ComesFirst : (HeadKeys → HeadKeys → Type 0) → Option Found → HeadKeys → Type 0
ComesFirst Before None k = Unit {0}
ComesFirst Before (Some found) k = Before k found.keys

-- the next tenant with them
abbrev pub TakesIn : (HeadKeys → Type 0) → (HeadKeys → HeadKeys → Type 0) → Option Found → Found → Option Found → Type 0
TakesIn Passes Before older next newer =
    (table : Table) → RequestsDiffer table → Has table next.tenant next.keys
    → IsFirstBelow Passes Before table next.tenant older → IsFirstBelow Passes Before table (next.tenant + 1) newer
