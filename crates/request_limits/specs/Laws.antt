-- Laws of the limits.
use Rattle.std.specs.Prelude.{ℕ, ◌≡◌, ◌≢◌, ◌<◌, ◌≤◌, ◌+◌, ◌⊎◌, true, List, [], length, Contains, AllPairs, All}
use Rattle.request_limits.specs.declared.held.Held.{Held}
use Rattle.request_limits.specs.Limits.{LimitsView, HasCell, HasCells, kinds, slots, limit_of, kind_limit_of, sent_of, sent_in, passes, held_in, all_held, with_sent, with_one_more, with_held, with_youngest, without_oldest, IsRemoved}
use Rattle.request_limits.specs.Next.{NoneMayGo, IsNextToGo}

-- ---- cells

-- there are such a slot s and such a kind k, and they are not the first two
abbrev pub HasOtherCell : LimitsView → ℕ → ℕ → ℕ → ℕ → Type 0
HasOtherCell v slot kind s k = HasCell v s k × ((s ≢ slot) ⊎ (k ≢ kind))

-- another count of a slot and kind changes that of no other, and the sum of its slot alike
pub record SentChangesAlone (v : LimitsView) (slot kind n : ℕ) : Type 0 where
  pub here : sent_in (with_sent v slot kind n) slot kind ≡ n
  pub there : (s k : ℕ) → HasOtherCell v slot kind s k → sent_in (with_sent v slot kind n) s k ≡ sent_in v s k
  pub sum_here : sent_of (with_sent v slot kind n) slot + sent_in v slot kind ≡ sent_of v slot + n
  pub sum_there : (s : ℕ) → s ≢ slot → sent_of (with_sent v slot kind n) s ≡ sent_of v s

-- other held requests of a slot and kind change those of no other, and the count of all alike
pub record HeldChangesAlone (v : LimitsView) (slot kind : ℕ) (list : List Held) : Type 0 where
  pub here : held_in (with_held v slot kind list) slot kind ≡ list
  pub there : (s k : ℕ) → HasOtherCell v slot kind s k → held_in (with_held v slot kind list) s k ≡ held_in v s k
  pub counted : all_held (with_held v slot kind list) + length (held_in v slot kind) ≡ all_held v + length list

abbrev pub CellsAreApart : Type 0
CellsAreApart = (v : LimitsView) (slot kind : ℕ) → HasCells v → HasCell v slot kind
    → ((n : ℕ) → SentChangesAlone v slot kind n) × ((list : List Held) → HeldChangesAlone v slot kind list)

-- ---- limits

-- so many are no more than the limit; 0 is no limit
abbrev pub IsWithin : ℕ → ℕ → Type 0
IsWithin n limit = (limit ≡ 0) ⊎ (n ≤ limit)

-- once a request that passes is forwarded, its tenant and its kind are within their limits
abbrev pub PassingKeepsLimits : Type 0
PassingKeepsLimits = (v : LimitsView) (slot kind : ℕ) → HasCells v → HasCell v slot kind
    → passes v slot kind ≡ true
    → IsWithin (sent_of (with_one_more v slot kind) slot) (limit_of v slot)
    × IsWithin (sent_in (with_one_more v slot kind) slot kind) (kind_limit_of v kind)

-- ---- order

-- the held requests of each slot and kind are in the order of their tickets
abbrev pub IsInOrder : LimitsView → Type 0
IsInOrder v = (slot kind : ℕ) → HasCell v slot kind → AllPairs (λ h p. h.ticket < p.ticket) (held_in v slot kind)

-- then the next to go is the oldest of all held requests of its slot that pass
abbrev pub NextIsOldest : Type 0
NextIsOldest = (v : LimitsView) (slot kind : ℕ) (h : Held) → slot < slots v → IsInOrder v → IsNextToGo v slot kind h
    → (other : ℕ) (p : Held) → other < kinds v → passes v slot other ≡ true → Contains (held_in v slot other) p
    → h.ticket ≤ p.ticket

-- and if none may go, no held request of the slot passes
abbrev pub NoneIsLeft : Type 0
NoneIsLeft = (v : LimitsView) (slot : ℕ) → NoneMayGo v slot
    → (kind : ℕ) → kind < kinds v → passes v slot kind ≡ true → held_in v slot kind ≡ []

-- They stay in order if each that is held has a greater ticket than the held ones of its slot and kind, and whichever
-- is held no more.
abbrev pub OrderIsKept : Type 0
OrderIsKept = (v : LimitsView) (slot kind : ℕ) → HasCell v slot kind → IsInOrder v
    → ((h : Held) → All (λ p. p.ticket < h.ticket) (held_in v slot kind) → IsInOrder (with_youngest v slot kind h))
    × IsInOrder (without_oldest v slot kind)
    × ((place : ℕ) (h : Held) (w : LimitsView) → IsRemoved v place h w → IsInOrder w)
