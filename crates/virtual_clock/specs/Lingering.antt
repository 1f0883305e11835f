-- The tenants that linger, by the lists that are kept, and the weight that they and the active tenants have.
use Rattle.std.specs.Prelude.{ℕ, ℤ, ◌+◌, ◌≤◌, ◌≡◌, ◌≢◌, ◌<ℤ◌, ◌≤ℤ◌, ◌⊎◌, Bool, true, false, not, ◌||◌, if◌then◌else◌, Option, Some, None, is_some, length, slice_index, slice_set, pos}
use Rattle.vt_fixed.specs.declared.limits.TheConstants.{GREATEST_ACTIVE_WEIGHT}
use Rattle.fq_model.specs.declared.config.Policy.{Policy}
use Rattle.fq_model.specs.declared.config.Policy.TheVariants.{TwoDfqPlus}
use Rattle.fq_model.specs.Sums.{sum_below}
use Rattle.winner_tree.specs.declared.key.Key.{Key}
use Rattle.winner_tree.specs.Order.{key_of}
use Rattle.virtual_clock.specs.declared.times.Times.{Times}
use Rattle.virtual_clock.specs.Clock.{moved_to, entered, left}
use Rattle.virtual_clock.specs.Idles.{idle_of, is_asleep, is_at_last, opened, closed}

-- ---- keys

-- the key of a tenant that starts there
abbrev pub key_for : ℤ → Key
key_for start = record { a = start; b = pos 0; c = 0 }

-- virtual time v has come to the start of a tenant that lingers
abbrev pub IsReached : ℤ → Option Key → Type 0
IsReached v None = ⊥
IsReached v (Some key) = key.a ≤ℤ v

-- or it has not
abbrev pub IsAhead : ℤ → Option Key → Type 0
IsAhead v None = Unit {0}
IsAhead v (Some key) = v <ℤ key.a

-- at virtual time v a tenant lingers on, or no more
abbrev pub Settled : ℤ → Option Key → Option Key → Type 0
Settled v before after = (IsAhead v before × (after ≡ before)) ⊎ (IsReached v before × (after ≡ None))

abbrev pub IsReachedAt : Times → ℕ → Type 0
IsReachedAt x t = IsReached x.clock.time (key_of x.lingering t)

abbrev pub NoneIsReached : Times → Type 0
NoneIsReached x = (t : ℕ) → IsAhead x.clock.time (key_of x.lingering t)

-- ---- the weight that counts

-- the tenant is awake or lingers
abbrev pub counts : Times → ℕ → Bool
counts x t = not (is_asleep (idle_of x.idles t)) || is_some (key_of x.lingering t)

-- its weight where that is so, else 0
abbrev pub counted : Times → ℕ → ℕ
counted x t = if counts x t then slice_index x.weights t else 0

unfoldable pub counted_weight : Times → ℕ
counted_weight x = sum_below (counted x) (length x.weights)

-- no tenant lingers that is awake, and the clock goes on over the weight of those that are awake or linger
pub record IsCounted (x : Times) : Type 0 where
  pub idles_sized : length x.idles ≡ length x.weights
  pub keys_sized : length x.lingering ≡ length x.weights
  pub apart : (t : ℕ) → is_some (key_of x.lingering t) ≡ true → is_asleep (idle_of x.idles t) ≡ true
  pub weight_is : x.clock.weights ≡ counted_weight x

-- the clock has room for the weight of the tenant, if that does not linger
abbrev pub HasRoomFor : ℕ → Times → Type 0
HasRoomFor t x =
    is_some (key_of x.lingering t) ≡ false → x.clock.weights + slice_index x.weights t ≤ GREATEST_ACTIVE_WEIGHT

-- ---- changes

-- the tenant, which has become active, lingers no more, or else its weight comes to the clock
abbrev pub rejoined : ℕ → Times → Times
rejoined t x =
    if is_some (key_of x.lingering t) then record x { lingering = slice_set x.lingering t None }
    else record x { clock = entered x.clock (slice_index x.weights t) }

abbrev pub lingers_on : ℕ → ℤ → Times → Times
lingers_on t start x = record x { lingering = slice_set x.lingering t (Some (key_for start)) }

abbrev pub leaves_at_once : ℕ → Times → Times
leaves_at_once t x = record x { clock = left x.clock (slice_index x.weights t) }

-- the tenant, which is active no more, lingers under 2dfq+ where it starts above virtual time, or else its weight
-- leaves the clock
abbrev pub Retires : Policy → ℕ → ℤ → Times → Times → Type 0
Retires policy t start before after =
    ((policy ≡ TwoDfqPlus) × (before.clock.time <ℤ start) × (after ≡ lingers_on t start before))
    ⊎ (((policy ≢ TwoDfqPlus) ⊎ (start ≤ℤ before.clock.time)) × (after ≡ leaves_at_once t before))

-- the times have come to moment m, and the tenant has one open request more
abbrev pub with_opened : ℕ → ℕ → Times → Times
with_opened m t x = record x {
  clock = moved_to x.clock m;
  idles = slice_set x.idles t (opened (idle_of x.idles t) (moved_to x.clock m).time);
}

-- and where that is its first, its weight counts
abbrev pub submitted : ℕ → ℕ → Times → Times
submitted m t x = if is_asleep (idle_of x.idles t) then rejoined t (with_opened m t x) else with_opened m t x

-- the times have come to moment m, and the tenant has one open request less
abbrev pub with_closed : ℕ → ℕ → Times → Times
with_closed m t x = record x {
  clock = moved_to x.clock m;
  idles = slice_set x.idles t (closed (idle_of x.idles t) (moved_to x.clock m).time);
}

-- and where that was its last, it is active no more
pub record Ended (policy : Policy) (m t : ℕ) (start : ℤ) (before after : Times) : Type 0 where
  pub retired : is_at_last (idle_of before.idles t) ≡ true → Retires policy t start (with_closed m t before) after
  pub stays_active : is_at_last (idle_of before.idles t) ≡ false → after ≡ with_closed m t before

-- the times have come to moment m, and the tenant has weight w; where the old one counts, the new one does in its place
abbrev pub reweighed : ℕ → ℕ → ℕ → Times → Times
reweighed m t w x = record x {
  clock = if counts x t then entered (left (moved_to x.clock m) (slice_index x.weights t)) w else moved_to x.clock m;
  weights = slice_set x.weights t w;
}

-- all tenants at whose starts virtual time has come linger no more, and nothing else is changed but the weight
pub record Settles (before after : Times) : Type 0 where
  pub is_counted : IsCounted after
  pub each : (t : ℕ) → Settled before.clock.time (key_of before.lingering t) (key_of after.lingering t)
  pub clock_is : after.clock ≡ record before.clock { weights = after.clock.weights }
  pub weights_are : after.weights ≡ before.weights
  pub idles_are : after.idles ≡ before.idles
