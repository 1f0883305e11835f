-- Heads in blocks.
use Rattle.std.specs.Prelude.{ℕ, suc, ◌≡◌, ◌+◌, ◌-◌, ◌*◌, ◌<◌, ◌≤◌, List, [], ◌∷◌, ◌++◌, length, take, drop, slice_set, slice_index_or, ◌⊎◌}
use Rattle.std.specs.List.{All, flat_map}
use Rattle.shared_order.specs.declared.block.TheConstants.{BLOCK, HALF}
use Rattle.shared_order.specs.Heads.{HeadView, HeadBefore, IsSorted, Gains, lengths_of}
use Rattle.shared_order.specs.declared.lengths.Lengths.{Lengths}

-- the heads of all blocks, one block after the other
abbrev pub all_heads : List (List HeadView) → List HeadView
all_heads blocks = flat_map (λ block. block) blocks

-- no block is empty
abbrev pub NoneIsEmpty : List (List HeadView) → Type 0
NoneIsEmpty blocks = All (λ block. 0 < length block) blocks

-- of two neighbours the heads together are more than half a block
abbrev pub IsDense : List (List HeadView) → Type 0
IsDense [] = Unit {0}
IsDense (block ∷ []) = Unit {0}
IsDense (block ∷ next ∷ blocks) = (HALF < length block + length next) × IsDense (next ∷ blocks)

abbrev pub block_at : List (List HeadView) → ℕ → List HeadView
block_at blocks at = slice_index_or blocks at []

-- a block gets one head more
pub record HeadJoins (old : List (List HeadView)) (at : ℕ) (head : HeadView) (new : List (List HeadView)) : Type 0 where
  pub gains : Gains (block_at old at) head (block_at new at)
  pub sorted : IsSorted (block_at new at)
  pub others : new ≡ slice_set old at (block_at new at)

-- a block has one head less
pub record HeadLeaves
    (old : List (List HeadView)) (at : ℕ) (head : HeadView) (new : List (List HeadView)) : Type 0 where
  pub gains : Gains (block_at new at) head (block_at old at)
  pub others : new ≡ slice_set old at (block_at new at)

-- two halves replace a block
abbrev pub with_halves : List (List HeadView) → ℕ → List (List HeadView)
with_halves blocks at =
    take at blocks ++ take HALF (block_at blocks at) ∷ drop HALF (block_at blocks at) ∷ drop (suc at) blocks

-- one block replaces two neighbours
abbrev pub with_joined : List (List HeadView) → ℕ → List (List HeadView)
with_joined blocks at = take at blocks ++ (block_at blocks at ++ block_at blocks (suc at)) ∷ drop (suc (suc at)) blocks

-- the view, in contracts, of blocks in a row: those that are in use, and how many more there are
pub record BlocksView : Type 0 where
  pub used : List (List HeadView)
  pub spare : ℕ

abbrev pub block_count : BlocksView → ℕ
block_count row = length row.used + row.spare

-- how many heads always fit into this number of blocks: two neighbours have more than half a block, so all but one
-- have half of that on average
abbrev pub room_in : ℕ → ℕ
room_in blocks = 8 * (blocks - 1)

-- the heads of the blocks before this one come before the head, and those of the blocks after it come after the head
pub record IsBlockOf (head : HeadView) (blocks : List (List HeadView)) (at : ℕ) : Type 0 where
  pub known : at < length blocks
  pub before : All (λ other. HeadBefore other head) (all_heads (take at blocks))
  pub after : All (HeadBefore head) (all_heads (drop (suc at) blocks))

-- a block and the next one have at most half a block of heads together
pub record AreSmall (blocks : List (List HeadView)) (at : ℕ) : Type 0 where
  pub known : suc at < length blocks
  pub small : length (block_at blocks at) + length (block_at blocks (suc at)) ≤ HALF

-- a block and a neighbour are such a pair, which begins at `first`
pub record IsSmallPair (blocks : List (List HeadView)) (at first : ℕ) : Type 0 where
  pub small : AreSmall blocks first
  pub among : (first ≡ at) ⊎ (suc first ≡ at)

-- with one head more in this block the blocks were as an order keeps them
pub record IsThinned (blocks : List (List HeadView)) (at : ℕ) : Type 0 where
  pub known : at < length blocks
  pub sorted : IsSorted (all_heads blocks)
  pub filled_before : NoneIsEmpty (take at blocks)
  pub filled_after : NoneIsEmpty (drop (suc at) blocks)
  pub fuller : List HeadView
  pub one_more : length fuller ≡ suc (length (block_at blocks at))
  pub dense : IsDense (take at blocks ++ fuller ∷ drop (suc at) blocks)

-- the view of an order in contracts: its heads, and how many it has room for
pub record OrderView : Type 0 where
  pub heads : List HeadView
  pub room : ℕ

-- the invariant of a block
pub record KeepsBlock (heads : List HeadView) (capacity : ℕ) (lengths : Lengths) : Type 0 where
  pub sorted : IsSorted heads
  pub few : length heads ≤ BLOCK
  pub room : BLOCK ≤ capacity
  pub ends : lengths ≡ lengths_of heads

-- the invariant of blocks in a row: each place has room for all of them
pub record KeepsBlocks
    (used : List (List HeadView)) (used_capacity : ℕ) (spare : List (List HeadView)) (spare_capacity : ℕ) : Type 0 where
  pub empty : All (λ block. block ≡ []) spare
  pub used_room : length used + length spare ≤ used_capacity
  pub spare_room : length used + length spare ≤ spare_capacity

-- the invariant of an order
pub record KeepsOrder (blocks : List (List HeadView)) : Type 0 where
  pub sorted : IsSorted (all_heads blocks)
  pub filled : NoneIsEmpty blocks
  pub dense : IsDense blocks

-- the heads stay, in as many blocks, which have the invariant of an order
pub record IsRearranged (old new : BlocksView) : Type 0 where
  pub heads : all_heads new.used ≡ all_heads old.used
  pub kept : KeepsOrder new.used
  pub count : block_count new ≡ block_count old
