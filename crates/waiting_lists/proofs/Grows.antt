-- One slot more.
use Rattle.std.proofs.Common.{◌≡◌, ℕ, ◌+◌, ◌<◌, ◌≤◌, List, [], ◌∷◌, ◌++◌, Option, Some, None, length, get_or, arith, refl, sym, ap, ◌∙◌, subst, inl, inr}
use Rattle.std.proofs.lemmas.Bool.{cases_eq, cases_lt}
use Rattle.std.proofs.lemmas.List.{get_or_push, get_or_past, get_or_append_left, length_push}
use Rattle.waiting_lists.specs.declared.item.Item.{Item}
use Rattle.waiting_lists.specs.declared.links.Slot.{Slot}
use Rattle.waiting_lists.specs.declared.links.Ends.{Ends}
use Rattle.waiting_lists.specs.Linked.{StandsIn, empty_slot, slot_at, first_of, lists_of, count_of, AreLinked, AreListOf, Keeps, IsMadeFree}
use Rattle.waiting_lists.specs.Cells.{SameLists}
use Rattle.waiting_lists.proofs.Chains.{none_not_some, linked_bound}
use Rattle.waiting_lists.proofs.Slots.{nexts}
use Rattle.waiting_lists.proofs.Owners.{updated, updated_same, updated_other}
use Rattle.waiting_lists.proofs.Pushes.{full_lists, full_free}
use Rattle.waiting_lists.proofs.Same.{same_listed, still_listed, same_all}

module _ {J : Type 0} where
  -- a slot that is read is the same, also one past the end
  pub read_same : (slots : List (Slot J)) (i : ℕ) → slot_at (slots ++ empty_slot ∷ []) i ≡ slot_at slots i
  read_same slots i = elim (cases_lt i (length slots)) [
    | inl lt ↦ get_or_append_left slots (empty_slot ∷ []) empty_slot i lt
    | inr le ↦ elim (cases_eq i (length slots)) [
      | inl e ↦ get_or_push slots empty_slot empty_slot i (sym e) ∙ sym (get_or_past slots i empty_slot le)
      | inr ne ↦ get_or_past (slots ++ empty_slot ∷ []) i empty_slot (omega (arith, le, ne, length_push slots empty_slot)) ∙ sym (get_or_past slots i empty_slot le)
    ]
  ]

  pub read_lists : (slots after : List (Slot J)) → ((i : ℕ) → slot_at after i ≡ slot_at slots i) → SameLists slots after
  read_lists slots after read = record {
    items = λ i. ap (λ (s : Slot J). s.item) (read i);
    tenants = λ i. ap (λ (s : Slot J). s.tenant) (read i);
    befores = λ i. ap (λ (s : Slot J). s.before) (read i);
    nexts = λ i. ap (λ (s : Slot J). s.next) (read i);
  }

  -- where all slots are in lists
  module _ (slots : List (Slot J)) (ends : List (Option Ends)) (k : Keeps slots ends None) where
    abbrev after : List (Slot J)
    after = slots ++ empty_slot ∷ []

    size : length after ≡ length slots + 1
    size = length_push slots empty_slot

    longer : length slots ≤ length after
    longer = omega (arith, size)

    same : SameLists slots after
    same = read_lists slots after (read_same slots)

    in_list : (t i : ℕ) → t < length ends → StandsIn i (k.numbers t) → i < length slots
    in_list t i lt h = linked_bound (nexts slots) (length slots) (first_of (get_or ends t None)) (k.numbers t) i (k.listed t lt).linked h

    pub lists_same : lists_of after ends ≡ lists_of slots ends
    lists_same = same_all slots after longer same ends None k

    abbrev numbers_more : ℕ → List ℕ
    numbers_more = updated k.numbers (length ends) (length slots ∷ [])

    free_more : numbers_more (length ends) ≡ length slots ∷ []
    free_more = updated_same k.numbers (length ends) (length slots ∷ [])

    others_more : (t : ℕ) → t < length ends → numbers_more t ≡ k.numbers t
    others_more t lt = updated_other k.numbers (length ends) (length slots ∷ []) t (λ e. omega (arith, lt, e))

    -- the slot behind all others is the free one
    pub keeps_more : Keeps after ends (Some (length slots))
    keeps_more = record {
      owner = updated k.owner (length slots) (length ends);
      numbers = numbers_more;
      owned = λ t i le h. elim (cases_eq t (length ends)) [
        | inl e ↦ elim (subst (StandsIn i) (ap numbers_more e ∙ free_more) h) [
          | inl at ↦ ap (updated k.owner (length slots) (length ends)) at ∙ updated_same k.owner (length slots) (length ends) ∙ sym e
          | inr none ↦ absurd none
        ]
        | inr ne ↦
            let lt : t < length ends = omega (arith, le, ne) in
            let stands : StandsIn i (k.numbers t) = subst (StandsIn i) (others_more t lt) h in
            updated_other k.owner (length slots) (length ends) i (λ e. omega (arith, e, in_list t i lt stands)) ∙ k.owned t i le stands
      ];
      listed = λ t lt. subst (AreListOf after (get_or ends t None)) (sym (others_more t lt)) (same_listed slots after longer same (get_or ends t None) (k.numbers t) (k.listed t lt));
      all_listed = λ i some. still_listed slots after longer same (length ends) k.numbers numbers_more i others_more (k.all_listed i) some;
      spare = subst (AreLinked after (Some (length slots))) (sym free_more) (refl, omega (arith, size), ap (λ (s : Slot J). s.next) (get_or_push slots empty_slot empty_slot (length slots) refl));
      short = λ t lt. omega (arith, ap (λ (l : List ℕ). length l) (others_more t lt), k.short t lt, size);
      total = omega (arith, ap (λ (l : List (List (Item J))). count_of l) lists_same, full_lists slots ends k, ap (λ (l : List ℕ). length l) free_more, size);
    }

  pub one_made : (slots : List (Slot J)) (free : Option ℕ) (room slot : ℕ) → free ≡ None → slot ≡ length slots → slot < room → IsMadeFree slots free room (slots ++ empty_slot ∷ []) (Some slot)
  one_made slots free room slot none last lt = record {
    keeps = λ ends k. subst (λ v. Keeps (slots ++ empty_slot ∷ []) ends (Some v)) (sym last) (keeps_more slots ends (subst (Keeps slots ends) none k));
    same = λ ends k. lists_same slots ends (subst (Keeps slots ends) none k);
    longer = omega (arith, length_push slots empty_slot);
    read = read_same slots;
    within = omega (arith, last, lt, length_push slots empty_slot);
    full = λ e. absurd (none_not_some (Some slot) slot e refl);
  }

  -- where all slots have items after it, there are as many as there may be
  pub full_made : (slots after : List (Slot J)) (ends : List (Option Ends)) (free link : Option ℕ) (room : ℕ) (k : Keeps slots ends free) (made : IsMadeFree slots free room after link) → count_of (lists_of after ends) ≡ length after → count_of (lists_of slots ends) ≡ room
  full_made slots after ends free link room k made all =
      ap (λ (l : List (List (Item J))). count_of l) (sym (made.same ends k)) ∙ all ∙ made.full (full_free after ends link (made.keeps ends k) all)
