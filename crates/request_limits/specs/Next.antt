-- Which held request of a slot may be forwarded next.
use Rattle.std.specs.Prelude.{ℕ, ◌≡◌, ◌<◌, ◌≤◌, ◌⊎◌, if◌then◌else◌, Option, Some, None, MatchOption}
use Rattle.request_limits.specs.declared.held.Held.{Held}
use Rattle.request_limits.specs.Limits.{LimitsView, kinds, passes, oldest_in}

-- the oldest held request of a slot and kind, if there is one, and one more of these passes
abbrev pub may_go : LimitsView → ℕ → ℕ → Option Held
may_go v slot kind = if passes v slot kind then oldest_in v slot kind else None

-- none of the kinds below a bound has a request of this slot that may go
abbrev pub NoneOfKinds : LimitsView → ℕ → ℕ → Type 0
NoneOfKinds v slot bound = (kind : ℕ) → kind < bound → may_go v slot kind ≡ None

-- a request of this kind goes before one of another: it has the lesser ticket, or the same one and no greater kind
abbrev pub GoesBefore : ℕ → Held → ℕ → Held → Type 0
GoesBefore kind h other p = (h.ticket < p.ticket) ⊎ ((h.ticket ≡ p.ticket) × (kind ≤ other))

-- of the requests of a slot that may go, of the kinds below a bound, this one of this kind goes before the others
pub record IsFirstOfKinds (v : LimitsView) (slot bound kind : ℕ) (h : Held) : Type 0 where
  pub known : kind < bound
  pub may : may_go v slot kind ≡ Some h
  pub first : (other : ℕ) (p : Held) → other < bound → may_go v slot other ≡ Some p → GoesBefore kind h other p

-- no held request of the slot may go
abbrev pub NoneMayGo : LimitsView → ℕ → Type 0
NoneMayGo v slot = NoneOfKinds v slot (kinds v)

-- of the held requests of the slot that may go, this one of this kind has the least ticket, and of equal tickets the
-- least kind
abbrev pub IsNextToGo : LimitsView → ℕ → ℕ → Held → Type 0
IsNextToGo v slot kind h = IsFirstOfKinds v slot (kinds v) kind h

-- what there is to find among the kinds below a bound: nothing, or the first that may go
abbrev pub IsFoundBelow : LimitsView → ℕ → ℕ → Option (ℕ × Held) → Type 0
IsFoundBelow v slot bound found =
    MatchOption found (NoneOfKinds v slot bound) (λ f. IsFirstOfKinds v slot bound f.0 f.1)
