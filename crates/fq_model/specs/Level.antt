-- The level to which a slot serves the backlogs of tenants.
use Rattle.std.specs.Prelude.{ℕ, ◌+◌, ◌*◌, ◌/◌, ◌<◌, ◌≤◌, ◌≡◌, nat_lt, nat_le, min, Bool, if◌then◌else◌, List, sum_by, count_by, All, unwrap_or, ◌↔◌}
use Rattle.fq_model.specs.declared.level.Backlog.{Backlog}
use Rattle.fq_model.specs.declared.level.Level.{Level}
use Rattle.fq_model.specs.declared.level.Level.TheVariants as levels
use Rattle.fq_model.specs.Sums.{greatest_below}

-- the gift of a backlog at level x: x 1024ths of a unit for each weight, rounded down, and at most its units
abbrev pub gift_at : ℕ → Backlog → ℕ
gift_at x b = min b.units (x * b.weight / 1024)

-- the gift of a backlog at a level
abbrev pub gift : Level → Backlog → ℕ
gift levels.All b = b.units
gift (levels.At x) b = gift_at x b

-- the sum of the units of all backlogs
abbrev pub total_units : List Backlog → ℕ
total_units rows = sum_by (λ b. b.units) rows

-- the sum of the gifts at level x
abbrev pub gifts_at : ℕ → List Backlog → ℕ
gifts_at x rows = sum_by (gift_at x) rows

-- x is the greatest number for which the gifts sum to at most cap
pub record IsGreatestLevel (cap : ℕ) (rows : List Backlog) (x : ℕ) : Type 0 where
  pub fits : gifts_at x rows ≤ cap
  pub greatest : (y : ℕ) → gifts_at y rows ≤ cap → y ≤ x

-- the level at which a slot shares cap: all are served whole exactly where their units sum to at most cap
abbrev pub IsLevel : ℕ → List Backlog → Level → Type 0
IsLevel cap rows levels.All = total_units rows ≤ cap
IsLevel cap rows (levels.At x) = (cap < total_units rows) × IsGreatestLevel cap rows x

-- the gifts at level x sum to at most cap
abbrev pub gifts_fit : ℕ → List Backlog → ℕ → Bool
gifts_fit cap rows x = nat_le (gifts_at x rows) cap

-- the greatest level whose gifts fit, where the units sum to more than cap: it is below 1024 times their sum, since all
-- gifts are whole there and above, where weights are at least 1. At level 0 the gifts always fit
unfoldable pub greatest_level : ℕ → List Backlog → ℕ
greatest_level cap rows = unwrap_or (greatest_below (gifts_fit cap rows) (1024 * total_units rows)) 0

-- the level at which a slot shares cap
unfoldable pub level : ℕ → List Backlog → Level
level cap rows = if nat_le (total_units rows) cap then levels.All else levels.At (greatest_level cap rows)

-- where each weight is 1 or more there is one level, and it is `level`
abbrev pub LevelIsTheOne : Type 0
LevelIsTheOne = (cap : ℕ) (rows : List Backlog) (l : Level) → All (λ b. 1 ≤ b.weight) rows →
    IsLevel cap rows l ↔ (l ≡ level cap rows)

-- the number of backlogs with more than 0 units
abbrev pub with_backlog : List Backlog → ℕ
with_backlog rows = count_by (λ b. nat_lt 0 b.units) rows

-- where not all are served whole and no weight is above 1024, fewer units of cap are left than there are backlogs (a
-- law)
abbrev pub LeavesFewUnits : ℕ → List Backlog → Level → Type 0
LeavesFewUnits cap rows levels.All = Unit {0}
LeavesFewUnits cap rows (levels.At x) = cap < gifts_at x rows + with_backlog rows
