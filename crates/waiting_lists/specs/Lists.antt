-- The view of lists of waiting items in contracts.
use Rattle.std.specs.Prelude.{ℕ, ◌≡◌, ◌≢◌, ◌<◌, List, [], ◌∷◌, ◌++◌, All, Any, length, sum_by, slice_index_or, slice_set, refl}
use Rattle.std.specs.Coded.{Coded, code_by, coded×, coded_ℕ, coded_list}
use Rattle.waiting_lists.specs.declared.item.Item.{Item}

-- one list of items a tenant, and how many slots there may be for all of them
pub record ListsView (J : Type 0) : Type 0 where
  pub lists : List (List (Item J))
  pub slots : ℕ

-- an item is stored as the tuple of its fields
abbrev pub item_code : {J : Type 0} → Coded J → Coded (Item J)
item_code {J} code =
    code_by
    (ℕ × (ℕ × (ℕ × J)))
    (coded× coded_ℕ (coded× coded_ℕ (coded× coded_ℕ code)))
    (λ i. (i.request, (i.kind, (i.declared, i.job))))
    (λ p. record { request = p.0; kind = p.1.0; declared = p.1.1.0; job = p.1.1.1 })
    (λ _. refl)

abbrev pub lists_code : {J : Type 0} → Coded J → Coded (ListsView J)
lists_code {J} code =
    code_by
    (List (List (Item J)) × ℕ)
    (coded× (coded_list (coded_list (item_code code))) coded_ℕ)
    (λ w. (w.lists, w.slots))
    (λ p. record { lists = p.0; slots = p.1 })
    (λ _. refl)

module _ {J : Type 0} where
  -- the list of a tenant
  abbrev pub list_of : ListsView J → ℕ → List (Item J)
  list_of w tenant = slice_index_or w.lists tenant []

  -- how many items wait, over all tenants
  abbrev pub waiting : ListsView J → ℕ
  waiting w = sum_by (λ list. length list) w.lists

  -- the tenant has this list, and every other tenant keeps its own
  abbrev pub with_list : ListsView J → ℕ → List (Item J) → ListsView J
  with_list w tenant list = record w { lists = slice_set w.lists tenant list }

  -- a tenant whose list has an item of this request
  pub record HasItemOf (w : ListsView J) (request tenant : ℕ) : Type 0 where
    pub known : tenant < length w.lists
    pub listed : Any (λ i. i.request ≡ request) (list_of w tenant)

  -- no list has an item of this request
  abbrev pub HasNone : ListsView J → ℕ → Type 0
  HasNone w request = (tenant : ℕ) → tenant < length w.lists → All (λ i. i.request ≢ request) (list_of w tenant)

  -- this item of the request is off the list of this tenant, the order of the rest kept, and all else is as before
  pub record IsRemoved (w : ListsView J) (request tenant : ℕ) (item : Item J) (w2 : ListsView J) : Type 0 where
    pub known : tenant < length w.lists
    pub number : item.request ≡ request
    pub front : List (Item J)
    pub rest : List (Item J)
    pub was : list_of w tenant ≡ front ++ item ∷ rest
    pub is : w2 ≡ with_list w tenant (front ++ rest)
