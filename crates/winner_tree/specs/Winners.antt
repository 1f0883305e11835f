-- The items of a tree of winners.
use Rattle.std.specs.Prelude.{ℕ, zero, suc, ◌≡◌, ◌≢◌, ◌+◌, ◌*◌, ◌/◌, ◌<◌, ◌≤◌, ◌⊎◌, List, Option, Some, None, length, slice_index_or, is_some, if◌then◌else◌}
use Rattle.std.specs.Int.{IsNextPowerOfTwo}
use Rattle.winner_tree.specs.declared.key.Key.{Key}
use Rattle.winner_tree.specs.Order.{key_of, HasKey, Precedes, IsAhead}

-- the leaf that an item names, if it names one
abbrev pub name_at : List (Option ℕ) → ℕ → Option ℕ
name_at winners item = slice_index_or winners item None

-- of the leaves that two items name, the third names the leaf that comes before the other
abbrev pub IsLesser : List (Option Key) → Option ℕ → Option ℕ → Option ℕ → Type 0
IsLesser map None right winner = winner ≡ right
IsLesser map (Some l) None winner = winner ≡ Some l
IsLesser map (Some l) (Some r) winner =
    ((winner ≡ Some l) × IsAhead map l r) ⊎ ((winner ≡ Some r) × IsAhead map r l)

-- two items below the same one, so that each stands beside the other (as beside the root item 0, which is not used)
abbrev pub AreNeighbours : ℕ → ℕ → Type 0
AreNeighbours item other = (item / 2 ≡ other / 2) × (item ≢ other)

-- There are twice as many items as the least power of two that is at least the number of leaves. Its second half are
-- the leaves in order, with a name exactly where the leaf has a key. Item k of the first half names the lesser of
-- the leaves that items 2k and 2k + 1 name, so item 1 is the root. Item 0 is not used.
pub record AreWinners (map : List (Option Key)) (winners : List (Option ℕ)) : Type 0 where
  pub width : ℕ
  pub rounded : IsNextPowerOfTwo (length map) width
  pub size : length winners ≡ 2 * width
  pub unused : name_at winners 0 ≡ None
  pub leaves : (leaf : ℕ) → leaf < width
      → name_at winners (width + leaf) ≡ (if is_some (key_of map leaf) then Some leaf else None)
  pub nodes : (k : ℕ) → 1 ≤ k → k < width
      → IsLesser map (name_at winners (2 * k)) (name_at winners (2 * k + 1)) (name_at winners k)

-- the item that is this number of levels above another
abbrev pub above : ℕ → ℕ → ℕ
above zero item = item
above (suc levels) item = above levels (item / 2)

-- the second item is the first, or is above it
abbrev pub Reaches : ℕ → ℕ → Type 0
Reaches item higher = (levels : ℕ) × (above levels item ≡ higher)

-- of the leaves under an item, this one comes first
pub record LeadsUnder (map : List (Option Key)) (width item leaf : ℕ) : Type 0 where
  pub key : Key
  pub has : HasKey map leaf key
  pub under : Reaches (width + leaf) item
  pub before : (u : ℕ) (other : Key) → u ≢ leaf → HasKey map u other → Reaches (width + u) item
      → Precedes key leaf other u

-- this is the name of the first of the leaves under an item
abbrev pub IsLeastUnder : List (Option Key) → ℕ → ℕ → Option ℕ → Type 0
IsLeastUnder map width item None = (leaf : ℕ) → Reaches (width + leaf) item → key_of map leaf ≡ None
IsLeastUnder map width item (Some leaf) = LeadsUnder map width item leaf

-- the invariant of a tree: each item names the first of the leaves under it
pub record Keeps (map : List (Option Key)) (winners : List (Option ℕ)) : Type 0 where
  pub width : ℕ
  pub rounded : IsNextPowerOfTwo (length map) width
  pub size : length winners ≡ 2 * width
  pub unused : name_at winners 0 ≡ None
  pub least : (item : ℕ) → 1 ≤ item → item < 2 * width → IsLeastUnder map width item (name_at winners item)
