-- Blocks in groups of neighbours.
use Rattle.std.specs.Prelude.{ℕ, ◌≡◌, ◌*◌, ◌<◌, ◌≤◌, List, [], length, take, drop, slice_index_or}
use Rattle.std.specs.Int.{div_ceil}
use Rattle.shared_order.specs.declared.groups.TheConstants.{GROUP}
use Rattle.shared_order.specs.Heads.{HeadView, lengths_of}
use Rattle.shared_order.specs.declared.lengths.Lengths.{Lengths}
use Rattle.shared_order.specs.Blocks.{BlocksView, block_count, all_heads}

-- how many groups so many blocks make: all but the last are full
abbrev pub group_count : ℕ → ℕ
group_count blocks = div_ceil blocks GROUP

-- the blocks of a group
abbrev pub group_at : List (List HeadView) → ℕ → List (List HeadView)
group_at blocks g = take GROUP (drop (g * GROUP) blocks)

-- their heads
abbrev pub group_heads : List (List HeadView) → ℕ → List HeadView
group_heads blocks g = all_heads (group_at blocks g)

-- each entry has the greatest and the least length of a head in its group
abbrev pub AreLengths : List (List HeadView) → List Lengths → Type 0
AreLengths blocks lengths =
    (g : ℕ) → g < length lengths → slice_index_or lengths g (lengths_of []) ≡ lengths_of (group_heads blocks g)

-- there is an entry for each group, and it has the lengths of its heads
pub record AreAllLengths (blocks : List (List HeadView)) (lengths : List Lengths) : Type 0 where
  pub each : AreLengths blocks lengths
  pub count : length lengths ≡ group_count (length blocks)

-- the invariant of blocks in groups: there is room for the lengths of each group of all blocks
pub record KeepsGroups (row : BlocksView) (lengths : List Lengths) (capacity : ℕ) : Type 0 where
  pub all : AreAllLengths row.used lengths
  pub room : group_count (block_count row) ≤ capacity
