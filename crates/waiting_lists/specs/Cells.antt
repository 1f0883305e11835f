-- How slots are found by the numbers of the requests in them.
use Rattle.std.specs.Prelude.{ℕ, ◌≡◌, ◌≢◌, ◌<◌, ◌%◌, List, Option, Some, None, length, slice_index_or, slice_set, option_map, IsSomeAnd, eqb, cond}
use Rattle.waiting_lists.specs.declared.links.Slot.{Slot}
use Rattle.waiting_lists.specs.Linked.{StandsIn, AreChained, slot_at}

-- these numbers but for that of this slot
abbrev pub without : ℕ → (ℕ → Option ℕ) → ℕ → Option ℕ
without slot numbers i = cond (eqb i slot) None (numbers i)

module _ {J : Type 0} where
  -- the number of the request in a slot
  abbrev pub number_at : List (Slot J) → ℕ → Option ℕ
  number_at slots i = option_map (λ x. x.request) (slot_at slots i).item

  -- from the first on, these are the slots of a cell, in the order of their links
  abbrev pub AreOfCell : List (Slot J) → Option ℕ → List ℕ → Type 0
  AreOfCell slots first chain = AreChained (λ i. (slot_at slots i).next_in_cell) (length slots) first chain

  -- Where the slots have these numbers: each with a number is in the chain of its cell, and every slot of a chain has
  -- a number of that cell.
  pub record KeepsIndex (numbers : ℕ → Option ℕ) (cells : List (Option ℕ)) (slots : List (Slot J)) : Type 0 where
    pub chains : ℕ → List ℕ
    pub chained : (cell : ℕ) → cell < length cells → AreOfCell slots (slice_index_or cells cell None) (chains cell)
    pub filed : (i n : ℕ) → numbers i ≡ Some n → StandsIn i (chains (n % length cells))
    pub held : (cell i : ℕ) → cell < length cells → StandsIn i (chains cell)
        → IsSomeAnd (numbers i) (λ n. n % length cells ≡ cell)

  -- slots that differ in the links of their cells alone
  pub record SameLists (slots slots2 : List (Slot J)) : Type 0 where
    pub items : (i : ℕ) → (slot_at slots2 i).item ≡ (slot_at slots i).item
    pub tenants : (i : ℕ) → (slot_at slots2 i).tenant ≡ (slot_at slots i).tenant
    pub befores : (i : ℕ) → (slot_at slots2 i).before ≡ (slot_at slots i).before
    pub nexts : (i : ℕ) → (slot_at slots2 i).next ≡ (slot_at slots i).next

  -- the link of this slot in its cell leads there
  abbrev pub LeadsInCell : List (Slot J) → ℕ → Option ℕ → List (Slot J) → Type 0
  LeadsInCell slots slot next slots2 =
      slots2 ≡ slice_set slots slot (record (slot_at slots slot) { next_in_cell = next })

  -- some slots are those of a cell with this first slot
  abbrev pub IsChainFrom : List (Slot J) → Option ℕ → Type 0
  IsChainFrom slots first = (chain : List ℕ) × AreOfCell slots first chain

  -- in the cell with this first slot, one slot leads to the other
  abbrev pub IsBeforeIn : List (Slot J) → Option ℕ → ℕ → ℕ → Type 0
  IsBeforeIn slots first i slot =
      (chain : List ℕ) → AreOfCell slots first chain → StandsIn i chain × ((slot_at slots i).next_in_cell ≡ Some slot)

  -- in the cell with this first slot, no slot leads to this one
  abbrev pub NoneLeadsTo : List (Slot J) → Option ℕ → ℕ → Type 0
  NoneLeadsTo slots first slot =
      (chain : List ℕ) → AreOfCell slots first chain → (i : ℕ) → StandsIn i chain
      → (slot_at slots i).next_in_cell ≢ Some slot
