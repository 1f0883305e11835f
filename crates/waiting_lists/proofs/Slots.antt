-- The items in linked slots.
use Rattle.std.proofs.Common.{◌≡◌, ◌≢◌, ℕ, zero, suc, ◌<◌, ◌≤◌, List, [], ◌∷◌, ◌++◌, Option, Some, None, length, set, IsSome, arith, refl, ap, ◌∙◌, inl, inr}
use Rattle.std.proofs.lemmas.Bool.{false≢true}
use Rattle.std.proofs.lemmas.List.{get_or-set_same, get_or-set_other}
use Rattle.waiting_lists.specs.declared.item.Item.{Item}
use Rattle.waiting_lists.specs.declared.links.Slot.{Slot}
use Rattle.waiting_lists.specs.Linked.{empty_slot, StandsIn, slot_at, put_before, items_from, items_at, AreLinked}

module _ {J : Type 0} where
  -- the links of slots
  abbrev pub nexts : List (Slot J) → ℕ → Option ℕ
  nexts slots i = (slot_at slots i).next

  abbrev pub befores : List (Slot J) → ℕ → Option ℕ
  befores slots i = (slot_at slots i).before

  pub items_at_stay : (slots after : List (Slot J)) (ns : List ℕ) → ((i : ℕ) → StandsIn i ns → (slot_at after i).item ≡ (slot_at slots i).item) → items_at after ns ≡ items_at slots ns
  items_at_stay slots after [] same = refl
  items_at_stay slots after (n ∷ ns) same =
      ap (λ o. put_before o (items_at after ns)) (same n (inl refl)) ∙ ap (put_before (slot_at slots n).item) (items_at_stay slots after ns (λ i h. same i (inr h)))

  put_before_append : (o : Option (Item J)) (xs ys : List (Item J)) → put_before o (xs ++ ys) ≡ put_before o xs ++ ys
  put_before_append None xs ys = refl
  put_before_append (Some y) xs ys = refl

  pub items_at_append : (slots : List (Slot J)) (ns ms : List ℕ) → items_at slots (ns ++ ms) ≡ items_at slots ns ++ items_at slots ms
  items_at_append slots [] ms = refl
  items_at_append slots (n ∷ ns) ms =
      ap (put_before (slot_at slots n).item) (items_at_append slots ns ms) ∙ put_before_append (slot_at slots n).item (items_at slots ns) (items_at slots ms)

  pub items_at_push : (slots : List (Slot J)) (ns : List ℕ) (s : ℕ) (item : Item J) → (slot_at slots s).item ≡ Some item → items_at slots (ns ++ s ∷ []) ≡ items_at slots ns ++ item ∷ []
  items_at_push slots ns s item e = items_at_append slots ns (s ∷ []) ∙ ap (λ o. items_at slots ns ++ put_before o []) e

  pub some_item : (o : Option (Item J)) → IsSome o → (item : Item J) × (o ≡ Some item)
  some_item None h = absurd (false≢true h)
  some_item (Some item) h = (item, refl)

  pub length_items_at : (slots : List (Slot J)) (ns : List ℕ) → ((i : ℕ) → StandsIn i ns → IsSome (slot_at slots i).item) → length (items_at slots ns) ≡ length ns
  length_items_at slots [] full = refl
  length_items_at slots (n ∷ ns) full =
      let found : (item : Item J) × ((slot_at slots n).item ≡ Some item) = some_item (slot_at slots n).item (full n (inl refl)) in
      ap (λ o. length (put_before o (items_at slots ns))) found.1 ∙ ap suc (length_items_at slots ns (λ i h. full i (inr h)))

  -- the items along a chain are the items in its slots
  pub items_from_chain : (slots : List (Slot J)) (fuel : ℕ) (at : Option ℕ) (ns : List ℕ) → length ns ≤ fuel → AreLinked slots at ns → items_from slots fuel at ≡ items_at slots ns
  items_from_chain slots zero at [] h p = refl
  items_from_chain slots zero at (n ∷ ns) h p = absurd (omega arith)
  items_from_chain slots (suc fuel) at [] h p = ap (items_from slots (suc fuel)) p
  items_from_chain slots (suc fuel) at (n ∷ ns) h p =
      ap (items_from slots (suc fuel)) p.0 ∙ ap (put_before (slot_at slots n).item) (items_from_chain slots fuel (slot_at slots n).next ns (omega arith) p.2)

  -- a write at one slot
  pub slot_at_same : (slots : List (Slot J)) (i : ℕ) (s : Slot J) → i < length slots → slot_at (set slots i s) i ≡ s
  slot_at_same slots i s h = get_or-set_same slots i s empty_slot h

  pub slot_at_other : (slots : List (Slot J)) (i k : ℕ) (s : Slot J) → k ≢ i → slot_at (set slots i s) k ≡ slot_at slots k
  slot_at_other slots i k s ne = get_or-set_other slots i k s empty_slot ne
