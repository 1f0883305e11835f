-- Slots whose lists are the same.
use Rattle.std.proofs.Common.{◌≡◌, ℕ, ◌<◌, ◌≤◌, List, Option, None, length, get_or, IsSome, arith, refl, sym, ap, ◌∙◌, subst}
use Rattle.std.proofs.lemmas.List.{get_or-map, same_lists}
use Rattle.waiting_lists.specs.declared.item.Item.{Item}
use Rattle.waiting_lists.specs.declared.links.Slot.{Slot}
use Rattle.waiting_lists.specs.declared.links.Ends.{Ends}
use Rattle.waiting_lists.specs.Linked.{StandsIn, slot_at, first_of, items_from, items_at, lists_of, count_of, AreLinked, AreListOf, IsListed, Keeps}
use Rattle.waiting_lists.specs.Cells.{SameLists}
use Rattle.waiting_lists.proofs.Chains.{linked_stays, back_stays}
use Rattle.waiting_lists.proofs.Slots.{nexts, befores, items_at_stay, items_from_chain}
use Rattle.waiting_lists.proofs.Owners.{list_is, lists_length}

module _ {J : Type 0} (slots after : List (Slot J)) (longer : length slots ≤ length after) (same : SameLists slots after) where
  pub same_linked : (at : Option ℕ) (ns : List ℕ) → AreLinked slots at ns → AreLinked after at ns
  same_linked at ns p = linked_stays (nexts slots) (nexts after) (length slots) (length after) at ns longer (λ i h. same.nexts i) p

  pub same_listed : (e : Option Ends) (ns : List ℕ) → AreListOf slots e ns → AreListOf after e ns
  same_listed e ns l = record {
    linked = same_linked (first_of e) ns l.linked;
    back = back_stays (befores slots) (befores after) None ns (λ i h. same.befores i) l.back;
    occupied = λ i h. subst IsSome (sym (same.items i)) (l.occupied i h);
    last = l.last;
  }

  pub same_items : (ns : List ℕ) → items_at after ns ≡ items_at slots ns
  same_items ns = items_at_stay slots after ns (λ i h. same.items i)

  -- a slot is still listed, where the lists of tenants stay
  pub still_listed : (tenants : ℕ) (numbers now : ℕ → List ℕ) (i : ℕ) → ((t : ℕ) → t < tenants → now t ≡ numbers t) → (IsSome (slot_at slots i).item → IsListed slots tenants numbers i) → IsSome (slot_at after i).item → IsListed after tenants now i
  still_listed tenants numbers now i stay listed some =
      let was : IsListed slots tenants numbers i = listed (subst IsSome (same.items i) some) in
      record {
        known = omega (arith, same.tenants i, was.known);
        stands = subst (λ v. StandsIn i (now v)) (sym (same.tenants i)) (subst (StandsIn i) (sym (stay (slot_at slots i).tenant was.known)) was.stands);
      }

  module _ (ends : List (Option Ends)) (free : Option ℕ) (k : Keeps slots ends free) where
    list_same : (t : ℕ) (d : List (Item J)) → t < length ends → get_or (lists_of after ends) t d ≡ get_or (lists_of slots ends) t d
    list_same t d lt =
        get_or-map (λ e. items_from after (length after) (first_of e)) ends t None d lt
        ∙ items_from_chain after (length after) (first_of (get_or ends t None)) (k.numbers t) (omega (arith, longer, k.short t lt)) (same_listed (get_or ends t None) (k.numbers t) (k.listed t lt)).linked
        ∙ same_items (k.numbers t)
        ∙ sym (list_is slots ends free k t d lt)

    pub same_all : lists_of after ends ≡ lists_of slots ends
    same_all =
        same_lists (lists_of after ends) (lists_of slots ends)
        (lists_length after ends ∙ sym (lists_length slots ends))
        (λ t d lt. list_same t d (omega (arith, lt, lists_length after ends)))

    pub same_keeps : length after ≡ length slots → Keeps after ends free
    same_keeps size = record {
      owner = k.owner;
      numbers = k.numbers;
      owned = k.owned;
      listed = λ t lt. same_listed (get_or ends t None) (k.numbers t) (k.listed t lt);
      all_listed = λ i some. still_listed (length ends) k.numbers k.numbers i (λ t lt. refl) (k.all_listed i) some;
      spare = same_linked free (k.numbers (length ends)) k.spare;
      short = λ t lt. omega (arith, k.short t lt, size);
      total = omega (arith, ap (λ (l : List (List (Item J))). count_of l) same_all, k.total, size);
    }
