-- The first item of a list.
use Rattle.std.proofs.Common.{◌≡◌, ℕ, ◌<◌, List, [], ◌∷◌, Option, Some, None, length, get_or, set, drop, IsSome, slice_get, arith, refl, sym, ap, ◌∙◌, subst, inl}
use Rattle.std.proofs.lemmas.List.{set-get_or}
use Rattle.waiting_lists.specs.declared.item.Item.{Item}
use Rattle.waiting_lists.specs.declared.links.Slot.{Slot}
use Rattle.waiting_lists.specs.declared.links.Ends.{Ends}
use Rattle.waiting_lists.specs.Linked.{StandsIn, slot_at, put_before, items_at, first_of, lists_of, AreLinked, AreListOf, Keeps, IsTakenOut}
use Rattle.waiting_lists.proofs.Chains.{some_is, none_not_some}
use Rattle.waiting_lists.proofs.Slots.{some_item}
use Rattle.waiting_lists.proofs.Owners.{list_is}
use Rattle.waiting_lists.proofs.Pushes.{none_linked}

module _ {J : Type 0} (slots : List (Slot J)) (ends : List (Option Ends)) (free : Option ℕ) (k : Keeps slots ends free) (t : ℕ) (lt : t < length ends) where
  -- a list with no ends is empty
  no_ends : get_or ends t None ≡ None → get_or (lists_of slots ends) t [] ≡ []
  no_ends none = list_is slots ends free k t [] lt ∙ ap (items_at slots) (none_linked slots (k.numbers t) (subst (λ e. AreLinked slots (first_of e) (k.numbers t)) none (k.listed t lt).linked))

  pub none_first : get_or ends t None ≡ None → None ≡ slice_get (get_or (lists_of slots ends) t []) 0
  none_first none = ap (λ (l : List (Item J)). slice_get l 0) (sym (no_ends none))

  pub none_rest : get_or ends t None ≡ None → lists_of slots ends ≡ set (lists_of slots ends) t (drop 1 (get_or (lists_of slots ends) t []))
  none_rest none = sym (ap (λ (l : List (Item J)). set (lists_of slots ends) t (drop 1 l)) (no_ends none) ∙ ap (set (lists_of slots ends) t) (sym (no_ends none)) ∙ set-get_or (lists_of slots ends) t [])

  module _ (e : Ends) (some : get_or ends t None ≡ Some e) where
    chain : AreLinked slots (Some e.first) (k.numbers t)
    chain = subst (λ o. AreLinked slots (first_of o) (k.numbers t)) some (k.listed t lt).linked

    list_split : (ns : List ℕ) → AreLinked slots (Some e.first) ns → (rest : List ℕ) × (ns ≡ e.first ∷ rest)
    list_split [] p = absurd (none_not_some (Some e.first) e.first p refl)
    list_split (n ∷ ns) p = (ns, ap (λ v. v ∷ ns) (sym (some_is e.first n p.0)))

    rest : List ℕ
    rest = (list_split (k.numbers t) chain).0

    rest_is : k.numbers t ≡ e.first ∷ rest
    unfolding rest
    rest_is = (list_split (k.numbers t) chain).1

    pub first_bound : e.first < length slots
    first_bound = let linked : AreLinked slots (Some e.first) (e.first ∷ rest) = subst (AreLinked slots (Some e.first)) rest_is chain in linked.1

    first_stands : StandsIn e.first (k.numbers t)
    first_stands = subst (StandsIn e.first) (sym rest_is) (inl refl)

    pub first_holds : IsSome (slot_at slots e.first).item
    first_holds = (k.listed t lt).occupied e.first first_stands

    first_item : (item : Item J) × ((slot_at slots e.first).item ≡ Some item)
    first_item = some_item (slot_at slots e.first).item first_holds

    list_items : get_or (lists_of slots ends) t [] ≡ first_item.0 ∷ items_at slots rest
    list_items =
        list_is slots ends free k t [] lt
        ∙ ap (items_at slots) rest_is
        ∙ ap (λ o. put_before o (items_at slots rest)) first_item.1

    pub first_some : (item : Item J) × (slice_get (get_or (lists_of slots ends) t []) 0 ≡ Some item)
    first_some = (first_item.0, ap (λ (l : List (Item J)). slice_get l 0) list_items)

    -- the item in the first slot is the first of the list
    pub head_is : (slot_at slots e.first).item ≡ slice_get (get_or (lists_of slots ends) t []) 0
    head_is = first_item.1 ∙ ap (λ (l : List (Item J)). slice_get l 0) (sym list_items)

    tenant_is : (slot_at slots e.first).tenant ≡ t
    tenant_is =
        let was = k.all_listed e.first first_holds in
        sym (k.owned (slot_at slots e.first).tenant e.first (omega (arith, was.known)) was.stands) ∙ k.owned t e.first (omega arith) first_stands

    -- with that item out of it the rest is left
    pub first_out : (after : List (Slot J)) (now : List (Option Ends)) → IsTakenOut slots ends e.first after now → lists_of after now ≡ set (lists_of slots ends) t (drop 1 (get_or (lists_of slots ends) t []))
    first_out after now out =
        out [] rest (subst (λ v. AreListOf slots (get_or ends v None) (e.first ∷ rest)) (sym tenant_is) (subst (AreListOf slots (get_or ends t None)) rest_is (k.listed t lt)))
        ∙ ap (λ v. set (lists_of slots ends) v (items_at slots rest)) tenant_is
        ∙ ap (λ (l : List (Item J)). set (lists_of slots ends) t (drop 1 l)) (sym list_items)
