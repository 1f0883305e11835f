-- An item that is found by the number of its request, and goes out of its list.
use Rattle.std.proofs.Common.{◌≡◌, ◌≢◌, ℕ, ◌+◌, ◌<◌, List, [], ◌∷◌, ◌++◌, Option, Some, None, All, Any, IsSome, length, get_or, set, option_map, arith, refl, sym, ap, ◌∙◌, subst}
use Rattle.std.proofs.Math.Seq.{get_or-append_seam}
use Rattle.std.proofs.lemmas.List.{length-append}
use Rattle.std.proofs.lemmas.List.Elements.{All-cons}
use Rattle.waiting_lists.specs.declared.item.Item.{Item}
use Rattle.waiting_lists.specs.declared.links.Slot.{Slot}
use Rattle.waiting_lists.specs.declared.links.Ends.{Ends}
use Rattle.waiting_lists.specs.Linked.{slot_at, put_before, items_at, lists_of, AreListOf, IsListed, Keeps, IsTakenOut}
use Rattle.waiting_lists.specs.Cells.{number_at}
use Rattle.waiting_lists.specs.Lists.{ListsView, HasItemOf, HasNone, IsRemoved}
use Rattle.waiting_lists.proofs.Chains.{some_is, none_not_some, stands_at}
use Rattle.waiting_lists.proofs.Slots.{items_at_append}
use Rattle.waiting_lists.proofs.Owners.{list_is, lists_length}
use Rattle.waiting_lists.proofs.Counts.{whole}

-- a number is that of an item
item_of : {J : Type 0} (o : Option (Item J)) (n : ℕ) → option_map (λ x. x.request) o ≡ Some n → (item : Item J) × (o ≡ Some item) × (item.request ≡ n)
item_of None n e = absurd (none_not_some None n refl e)
item_of (Some item) n e = (item, refl, some_is item.request n e)

module _ {J : Type 0} where
  pub holds : (slots : List (Slot J)) (slot n : ℕ) → number_at slots slot ≡ Some n → IsSome (slot_at slots slot).item
  holds slots slot n e =
      let found : (item : Item J) × ((slot_at slots slot).item ≡ Some item) × (item.request ≡ n) = item_of (slot_at slots slot).item n e in
      subst IsSome (sym found.1) refl

  -- where no slot has the number, no list has an item of it
  all_before : (request : ℕ) (o : Option (Item J)) (items : List (Item J)) → option_map (λ x. x.request) o ≢ Some request → All (λ x. x.request ≢ request) items → All (λ x. x.request ≢ request) (put_before o items)
  all_before request None items away all = all
  all_before request (Some item) items away all = All-cons (λ x. x.request ≢ request) item items (λ e. away (ap Some e)) all

  none_here : (slots : List (Slot J)) (request : ℕ) → ((i : ℕ) → number_at slots i ≢ Some request) → (ns : List ℕ) → All (λ x. x.request ≢ request) (items_at slots ns)
  none_here slots request none [] = λ k d lt. absurd (omega (arith, lt))
  none_here slots request none (n ∷ ns) = all_before request (slot_at slots n).item (items_at slots ns) (none n) (none_here slots request none ns)

  module _ (slots : List (Slot J)) (ends : List (Option Ends)) (free : Option ℕ) (room : ℕ) (seen : ListsView J) (view_is : whole slots ends room ≡ seen) (k : Keeps slots ends free) where
    pub found_none : (request : ℕ) → ((i : ℕ) → number_at slots i ≢ Some request) → HasNone seen request
    found_none request none =
        subst (λ w. HasNone w request) view_is (λ t lt.
        let known : t < length ends = omega (arith, lt, lists_length slots ends) in
        subst (All (λ x. x.request ≢ request)) (sym (list_is slots ends free k t [] known)) (none_here slots request none (k.numbers t)))

    module _ (slot request : ℕ) (number : number_at slots slot ≡ Some request) where
      abbrev t : ℕ
      t = (slot_at slots slot).tenant

      pub found_item : (item : Item J) × ((slot_at slots slot).item ≡ Some item) × (item.request ≡ request)
      found_item = item_of (slot_at slots slot).item request number

      was : IsListed slots (length ends) k.numbers slot
      was = k.all_listed slot (holds slots slot request number)

      pub found_known : t < length ends
      found_known = was.known

      at : (front : List ℕ) × ((rest : List ℕ) × (k.numbers t ≡ front ++ slot ∷ rest))
      at = stands_at slot (k.numbers t) was.stands

      list_items : get_or (lists_of slots ends) t [] ≡ items_at slots at.0 ++ found_item.0 ∷ items_at slots at.1.0
      list_items =
          list_is slots ends free k t [] found_known
          ∙ ap (items_at slots) at.1.1
          ∙ items_at_append slots at.0 (slot ∷ at.1.0)
          ∙ ap (λ o. items_at slots at.0 ++ put_before o (items_at slots at.1.0)) found_item.1

      pub found_some : HasItemOf seen request t
      found_some = subst (λ w. HasItemOf w request t) view_is (record {
        known = omega (arith, found_known, lists_length slots ends);
        listed = subst (Any (λ x. x.request ≡ request)) (sym list_items)
            (length (items_at slots at.0), found_item.0, omega (arith, length-append (items_at slots at.0) (found_item.0 ∷ items_at slots at.1.0)), get_or-append_seam (items_at slots at.0) found_item.0 (items_at slots at.1.0) found_item.0, found_item.2);
      })

      -- the list without it
      pub left : List (Item J)
      left = items_at slots at.0 ++ items_at slots at.1.0

      pub left_shorter : length left + 1 ≡ length (get_or (lists_of slots ends) t [])
      unfolding left
      left_shorter = omega (arith, ap (λ (l : List (Item J)). length l) list_items, length-append (items_at slots at.0) (items_at slots at.1.0), length-append (items_at slots at.0) (found_item.0 ∷ items_at slots at.1.0))

      module _ (after : List (Slot J)) (now : List (Option Ends)) (out : IsTakenOut slots ends slot after now) where
        pub left_lists : lists_of after now ≡ set (lists_of slots ends) t left
        unfolding left
        left_lists = out at.0 at.1.0 (subst (AreListOf slots (get_or ends t None)) at.1.1 (k.listed t found_known))

        pub removed : (read : Slot J) → read ≡ slot_at slots slot → (item : Item J) → (slot_at slots slot).item ≡ Some item → (w2 : ListsView J) → w2 ≡ whole after now room → IsRemoved seen request read.tenant item w2
        unfolding left
        removed read same item held w2 e =
            let is : found_item.0 ≡ item = some_is found_item.0 item (sym found_item.1 ∙ held) in
            let off : IsRemoved (whole slots ends room) request t found_item.0 w2 = record {
              known = omega (arith, found_known, lists_length slots ends);
              number = found_item.2;
              front = items_at slots at.0;
              rest = items_at slots at.1.0;
              was = list_items;
              is = e ∙ ap (λ (l : List (List (Item J))). record { lists = l; slots = room }) left_lists;
            } in
            subst (λ (x : Slot J). IsRemoved seen request x.tenant item w2) (sym same)
            (subst (λ i. IsRemoved seen request t i w2) is (subst (λ w. IsRemoved w request t found_item.0 w2) view_is off))
