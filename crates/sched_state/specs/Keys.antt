-- The keys of the tenants' heads, in a chooser.
use Rattle.std.specs.Prelude.{ℕ, ◌<◌, ◌≡◌, ◌≢◌, length, slice_get, Some, pos, ◌≤ℤ◌}
use Rattle.fq_model.specs.declared.config.Config.{Config}
use Rattle.fq_model.specs.History.{History, pool_at}
use Rattle.fq_model.specs.Time.{last_moment}
use Rattle.fq_model.specs.Pace.{virtual_time}
use Rattle.fq_model.specs.Keys.{keys_at}
use Rattle.tag_rules.specs.Tables.{ChooserView, setting_at}

-- the chooser is the configuration's, for the number of workers now, has the keys of these tenants' heads, and was
-- asked for no later virtual time
pub record HasKeysOf (C : Config) (P : History) (Tenants : ℕ → Type 0) (x : ChooserView) : Type 0 where
  pub setting_is : x.setting ≡ setting_at C (pool_at C P)
  pub sized : length x.table ≡ length C.weights
  pub keys_are : (t : ℕ) → t < length C.weights → Tenants t → slice_get x.table t ≡ Some (keys_at C P (last_moment P) t)
  pub latest_low : x.latest ≤ℤ pos (virtual_time C P (last_moment P))

-- the chooser has the keys of all tenants' heads
abbrev pub ChooserIs : Config → History → ChooserView → Type 0
ChooserIs C P x = HasKeysOf C P (λ t. Unit {0}) x

-- the chooser has the keys of the heads of all tenants but one
abbrev pub ChooserIsBut : ℕ → Config → History → ChooserView → Type 0
ChooserIsBut tenant C P x = HasKeysOf C P (λ t. t ≢ tenant) x
