-- The index after an item is put in, and after one is taken out.
use Rattle.std.proofs.Common.{◌≡◌, ℕ, ◌≤◌, List, ◌∷◌, ◌++◌, Option, Some, None, IsSome, length, get_or, set, option_map, arith, sym, ap, ◌∙◌, subst, inl, inr}
use Rattle.std.proofs.lemmas.Bool.{cases_eq}
use Rattle.waiting_lists.specs.declared.item.Item.{Item}
use Rattle.waiting_lists.specs.declared.links.Slot.{Slot}
use Rattle.waiting_lists.specs.declared.links.Ends.{Ends}
use Rattle.waiting_lists.specs.Linked.{slot_at, items_at, lists_of, AreListOf, Keeps, IsMadeFree, IsPutAt, IsEmptied, IsTakenOut}
use Rattle.waiting_lists.specs.Cells.{number_at, without, KeepsIndex, SameLists}
use Rattle.waiting_lists.proofs.Chains.{none_not_some}
use Rattle.waiting_lists.proofs.Slots.{some_item}
use Rattle.waiting_lists.proofs.Filed.{without_it, without_other, index_stays}
use Rattle.waiting_lists.proofs.Same.{same_listed, same_items, same_all, same_keeps}

module _ {J : Type 0} where
  number_is : (slots after : List (Slot J)) (i : ℕ) → (slot_at after i).item ≡ (slot_at slots i).item → number_at after i ≡ number_at slots i
  number_is slots after i e = ap (option_map (λ x. x.request)) e

  -- a slot made free
  pub made_index : (cells : List (Option ℕ)) (slots after : List (Slot J)) (free link : Option ℕ) (room : ℕ) → IsMadeFree slots free room after link → KeepsIndex (number_at slots) cells slots → KeepsIndex (number_at after) cells after
  made_index cells slots after free link room made k =
      index_stays (number_at slots) (number_at after) cells slots after k made.longer (λ i. number_is slots after i (ap (λ (s : Slot J). s.item) (made.read i))) (λ i held. ap (λ (s : Slot J). s.next_in_cell) (made.read i))

  -- a slot that was put an item in is not yet in the index
  pub put_index : (cells : List (Option ℕ)) (slots after : List (Slot J)) (slot : ℕ) (item : Item J) → IsPutAt slots slot item after → KeepsIndex (number_at slots) cells slots → KeepsIndex (without slot (number_at after)) cells after
  put_index cells slots after slot item put k =
      let numbers : (i : ℕ) → without slot (number_at after) i ≡ number_at slots i = λ i. elim (cases_eq i slot) [
        | inl e ↦ ap (without slot (number_at after)) e ∙ without_it slot (number_at after) ∙ sym (ap (option_map (λ x. x.request)) put.empty) ∙ ap (number_at slots) (sym e)
        | inr ne ↦ without_other slot (number_at after) i ne ∙ number_is slots after i (put.beside.items i ne)
      ] in
      index_stays (number_at slots) (without slot (number_at after)) cells slots after k (omega (arith, put.beside.size)) numbers (λ i held. put.beside.cells i (λ e. held (ap (number_at slots) e ∙ ap (option_map (λ x. x.request)) put.empty)))

  pub put_number : (slots after : List (Slot J)) (slot : ℕ) (item : Item J) → IsPutAt slots slot item after → number_at after slot ≡ Some item.request
  put_number slots after slot item put = ap (option_map (λ x. x.request)) put.put

  -- a slot that gave its item up is in the index no more
  pub emptied_index : (cells : List (Option ℕ)) (slots after : List (Slot J)) (slot : ℕ) → IsEmptied slots slot after → KeepsIndex (without slot (number_at slots)) cells slots → KeepsIndex (number_at after) cells after
  emptied_index cells slots after slot out k =
      let numbers : (i : ℕ) → number_at after i ≡ without slot (number_at slots) i = λ i. elim (cases_eq i slot) [
        | inl e ↦ ap (number_at after) e ∙ ap (option_map (λ x. x.request)) out.emptied ∙ sym (without_it slot (number_at slots)) ∙ ap (without slot (number_at slots)) (sym e)
        | inr ne ↦ number_is slots after i (out.beside.items i ne) ∙ sym (without_other slot (number_at slots) i ne)
      ] in
      index_stays (without slot (number_at slots)) (number_at after) cells slots after k (omega (arith, out.beside.size)) numbers (λ i held. out.beside.cells i (λ e. held (ap (without slot (number_at slots)) e ∙ without_it slot (number_at slots))))

  -- slots that are the same lists
  module _ (slots mid : List (Slot J)) (size : length mid ≡ length slots) (same : SameLists slots mid) (ends : List (Option Ends)) (free : Option ℕ) (k : Keeps slots ends free) where
    longer : length slots ≤ length mid
    longer = omega (arith, size)

    pub mid_keeps : Keeps mid ends free
    mid_keeps = same_keeps slots mid longer same ends free k size

    pub mid_lists : lists_of mid ends ≡ lists_of slots ends
    mid_lists = same_all slots mid longer same ends free k

    pub mid_out : (slot : ℕ) (after : List (Slot J)) (now : List (Option Ends)) → IsTakenOut mid ends slot after now → IsTakenOut slots ends slot after now
    mid_out slot after now out front rest list =
        let tenant : (slot_at mid slot).tenant ≡ (slot_at slots slot).tenant = same.tenants slot in
        out front rest (subst (λ v. AreListOf mid (get_or ends v None) (front ++ slot ∷ rest)) (sym tenant) (same_listed slots mid longer same (get_or ends (slot_at slots slot).tenant None) (front ++ slot ∷ rest) list))
        ∙ ap (λ (l : List (List (Item J))). set l (slot_at mid slot).tenant (items_at mid front ++ items_at mid rest)) mid_lists
        ∙ ap (λ v. set (lists_of slots ends) v (items_at mid front ++ items_at mid rest)) tenant
        ∙ ap (λ (l : List (Item J)). set (lists_of slots ends) (slot_at slots slot).tenant (l ++ items_at mid rest)) (same_items slots mid longer same front)
        ∙ ap (λ (l : List (Item J)). set (lists_of slots ends) (slot_at slots slot).tenant (items_at slots front ++ l)) (same_items slots mid longer same rest)

  -- an item has a number
  pub no_number : (slots : List (Slot J)) (slot : ℕ) → IsSome (slot_at slots slot).item → number_at slots slot ≡ None → ⊥
  no_number slots slot some none =
      let found : (item : Item J) × ((slot_at slots slot).item ≡ Some item) = some_item (slot_at slots slot).item some in
      none_not_some (number_at slots slot) found.0.request none (ap (option_map (λ x. x.request)) found.1)
