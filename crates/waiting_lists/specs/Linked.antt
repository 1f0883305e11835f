-- How slots are linked to lists.
use Rattle.std.specs.Prelude.{ℕ, zero, suc, ◌≡◌, ◌≢◌, ◌+◌, ◌<◌, ◌≤◌, List, [], ◌∷◌, ◌++◌, Option, Some, None, length, map, sum_by, slice_index_or, IsSome, MatchOption, slice_set, ◌⊎◌}
use Rattle.waiting_lists.specs.declared.item.Item.{Item}
use Rattle.waiting_lists.specs.declared.links.Slot.{Slot}
use Rattle.waiting_lists.specs.declared.links.Ends.{Ends}

-- the first slot of a list with these ends
abbrev pub first_of : Option Ends → Option ℕ
first_of None = None
first_of (Some e) = Some e.first

-- the last slot of a list with these ends
abbrev pub last_of : Option Ends → Option ℕ
last_of None = None
last_of (Some e) = Some e.last

-- the first of these numbers
abbrev pub first_in : List ℕ → Option ℕ
first_in [] = None
first_in (x ∷ xs) = Some x

-- the last of these numbers, which come behind this one
abbrev pub last_behind : Option ℕ → List ℕ → Option ℕ
last_behind x [] = x
last_behind x (y ∷ ys) = last_behind (Some y) ys

-- the number is one of these
abbrev pub StandsIn : ℕ → List ℕ → Type 0
StandsIn i [] = ⊥
StandsIn i (x ∷ xs) = (i ≡ x) ⊎ StandsIn i xs

-- by these links these numbers below the bound are linked in this order, from the first on, and no more
abbrev pub AreChained : (ℕ → Option ℕ) → ℕ → Option ℕ → List ℕ → Type 0
AreChained next bound at [] = at ≡ None
AreChained next bound at (i ∷ is) = (at ≡ Some i) × (i < bound) × AreChained next bound (next i) is

-- by these links each of these numbers is linked back to the number before it, and the first to `at`
abbrev pub AreChainedBack : (ℕ → Option ℕ) → Option ℕ → List ℕ → Type 0
AreChainedBack before at [] = Unit {0}
AreChainedBack before at (i ∷ is) = (before i ≡ at) × AreChainedBack before (Some i) is

-- where a slot with these neighbours is in a list with these ends, these are the ends of the list without it
abbrev pub AreEndsWithout : Option Ends → Option ℕ → Option ℕ → Option Ends → Type 0
AreEndsWithout ends before next without =
    (front : List ℕ) (i : ℕ) (rest : List ℕ) → before ≡ last_behind None front → next ≡ first_in rest
    → first_of ends ≡ first_in (front ++ i ∷ rest) → last_of ends ≡ last_behind None (front ++ i ∷ rest)
    → (first_of without ≡ first_in (front ++ rest)) × (last_of without ≡ last_behind None (front ++ rest))

module _ {J : Type 0} where
  -- a slot that has no item and leads nowhere
  abbrev pub empty_slot : Slot J
  empty_slot = record { item = None; tenant = 0; before = None; next = None; next_in_cell = None }

  -- the slot at a place, or an empty one past the end
  abbrev pub slot_at : List (Slot J) → ℕ → Slot J
  slot_at slots i = slice_index_or slots i empty_slot

  -- the items, after this one where there is one
  abbrev pub put_before : Option (Item J) → List (Item J) → List (Item J)
  put_before None items = items
  put_before (Some item) items = item ∷ items

  -- the items in the slots from this slot on, along at most this number of links
  abbrev pub items_from : List (Slot J) → ℕ → Option ℕ → List (Item J)
  items_from slots zero at = []
  items_from slots (suc more) None = []
  items_from slots (suc more) (Some i) =
      put_before (slot_at slots i).item (items_from slots more (slot_at slots i).next)

  -- the items in these slots
  abbrev pub items_at : List (Slot J) → List ℕ → List (Item J)
  items_at slots [] = []
  items_at slots (i ∷ is) = put_before (slot_at slots i).item (items_at slots is)

  -- the list of each tenant
  abbrev pub lists_of : List (Slot J) → List (Option Ends) → List (List (Item J))
  lists_of slots ends = map (λ e. items_from slots (length slots) (first_of e)) ends

  -- the item stands at the end of the tenant's list, and all other lists are as before
  abbrev pub IsAppended : List (Slot J) → List (Option Ends) → ℕ → Item J → List (Slot J) → List (Option Ends) → Type 0
  IsAppended slots ends tenant item slots2 ends2 =
      lists_of slots2 ends2
      ≡ slice_set (lists_of slots ends) tenant (slice_index_or (lists_of slots ends) tenant [] ++ item ∷ [])

  -- all slots but this one have the items that they had, and their links in the index
  pub record SameBeside (slots : List (Slot J)) (slot : ℕ) (slots2 : List (Slot J)) : Type 0 where
    pub size : length slots2 ≡ length slots
    pub items : (i : ℕ) → i ≢ slot → (slot_at slots2 i).item ≡ (slot_at slots i).item
    pub cells : (i : ℕ) → i ≢ slot → (slot_at slots2 i).next_in_cell ≡ (slot_at slots i).next_in_cell

  -- the slot, which was empty, holds this item
  pub record IsPutAt (slots : List (Slot J)) (slot : ℕ) (item : Item J) (slots2 : List (Slot J)) : Type 0 where
    pub empty : (slot_at slots slot).item ≡ None
    pub put : (slot_at slots2 slot).item ≡ Some item
    pub beside : SameBeside slots slot slots2

  -- the slot is empty
  pub record IsEmptied (slots : List (Slot J)) (slot : ℕ) (slots2 : List (Slot J)) : Type 0 where
    pub emptied : (slot_at slots2 slot).item ≡ None
    pub beside : SameBeside slots slot slots2

  -- the link of this slot, if there is one, leads there
  abbrev pub Leads : List (Slot J) → Option ℕ → Option ℕ → List (Slot J) → Type 0
  Leads slots slot next slots2 =
      MatchOption slot (slots2 ≡ slots) (λ i. slots2 ≡ slice_set slots i (record (slot_at slots i) { next = next }))

  -- the link of this slot, if there is one, leads back there
  abbrev pub LeadsBack : List (Slot J) → Option ℕ → Option ℕ → List (Slot J) → Type 0
  LeadsBack slots slot before slots2 =
      MatchOption slot (slots2 ≡ slots) (λ i. slots2 ≡ slice_set slots i (record (slot_at slots i) { before = before }))

  -- how many items are in these lists
  abbrev pub count_of : List (List (Item J)) → ℕ
  count_of lists = sum_by (λ list. length list) lists

  -- from the first on, these slots are linked in this order, and no more
  abbrev pub AreLinked : List (Slot J) → Option ℕ → List ℕ → Type 0
  AreLinked slots at numbers = AreChained (λ i. (slot_at slots i).next) (length slots) at numbers

  -- these slots, linked in this order and back, are a list of items with these ends
  pub record AreListOf (slots : List (Slot J)) (ends : Option Ends) (numbers : List ℕ) : Type 0 where
    pub linked : AreLinked slots (first_of ends) numbers
    pub back : AreChainedBack (λ i. (slot_at slots i).before) None numbers
    pub occupied : (i : ℕ) → StandsIn i numbers → IsSome (slot_at slots i).item
    pub last : last_of ends ≡ last_behind None numbers

  -- the slot is in the list of its tenant, one of `tenants`, where these slots are the lists
  pub record IsListed (slots : List (Slot J)) (tenants : ℕ) (numbers : ℕ → List ℕ) (slot : ℕ) : Type 0 where
    pub known : (slot_at slots slot).tenant < tenants
    pub stands : StandsIn slot (numbers (slot_at slots slot).tenant)

  -- Each slot is in at most one list, that of its owner: a tenant, or the free ones, whose owner has the number after
  -- the last tenant's.
  pub record Keeps (slots : List (Slot J)) (ends : List (Option Ends)) (free : Option ℕ) : Type 0 where
    pub owner : ℕ → ℕ
    pub numbers : ℕ → List ℕ
    pub owned : (tenant i : ℕ) → tenant ≤ length ends → StandsIn i (numbers tenant) → owner i ≡ tenant
    pub listed : (tenant : ℕ) → tenant < length ends
        → AreListOf slots (slice_index_or ends tenant None) (numbers tenant)
    pub all_listed : (slot : ℕ) → IsSome (slot_at slots slot).item → IsListed slots (length ends) numbers slot
    pub spare : AreLinked slots free (numbers (length ends))
    pub short : (tenant : ℕ) → tenant < length ends → length (numbers tenant) ≤ length slots
    pub total : count_of (lists_of slots ends) + length (numbers (length ends)) ≡ length slots

  -- wherever the slot is in the list of its tenant, its item is off that list, and all other lists are as before
  abbrev pub IsTakenOut : List (Slot J) → List (Option Ends) → ℕ → List (Slot J) → List (Option Ends) → Type 0
  IsTakenOut slots ends slot slots2 ends2 =
      (front rest : List ℕ)
      → AreListOf slots (slice_index_or ends (slot_at slots slot).tenant None) (front ++ slot ∷ rest)
      → lists_of slots2 ends2
      ≡ slice_set (lists_of slots ends) (slot_at slots slot).tenant (items_at slots front ++ items_at slots rest)

  module _ (slots : List (Slot J)) (free : Option ℕ) (room : ℕ) where
    -- A slot was made free if none was, or there are as many as there may be; the lists are as before, whichever ends
    -- they have.
    pub record IsMadeFree (slots2 : List (Slot J)) (free2 : Option ℕ) : Type 0 where
      pub keeps : (ends : List (Option Ends)) → Keeps slots ends free → Keeps slots2 ends free2
      pub same : (ends : List (Option Ends)) → Keeps slots ends free → lists_of slots2 ends ≡ lists_of slots ends
      pub longer : length slots ≤ length slots2
      pub read : (i : ℕ) → slot_at slots2 i ≡ slot_at slots i
      pub within : length slots2 ≤ room
      pub full : free2 ≡ None → length slots2 ≡ room
