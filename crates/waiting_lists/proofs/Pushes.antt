-- An item that joins the end of a list.
use Rattle.std.proofs.Common.{◌≡◌, ◌≢◌, ℕ, ◌<◌, List, [], ◌∷◌, ◌++◌, Option, Some, None, length, get_or, set, IsSome, IfSome, MatchOption, arith, refl, sym, ap, ◌∙◌, subst, inl, inr, ◌⊎◌}
use Rattle.std.proofs.lemmas.Bool.{cases_eq}
use Rattle.std.proofs.lemmas.List.{get_or-set_same, get_or-set_other, length-set, length_push}
use Rattle.waiting_lists.specs.declared.item.Item.{Item}
use Rattle.waiting_lists.specs.declared.links.Slot.{Slot}
use Rattle.waiting_lists.specs.declared.links.Ends.{Ends}
use Rattle.waiting_lists.specs.Linked.{StandsIn, slot_at, first_of, last_of, lists_of, count_of, AreLinked, AreChained, AreChainedBack, AreListOf, Keeps, Leads, IsPutAt}
use Rattle.waiting_lists.proofs.Chains.{some_is, none_not_some, stands_push, stands_left, stands_right, last_pushed, last_is, last_stands, first_once, once, linked_bound, linked_stays, linked_push, back_push}
use Rattle.waiting_lists.proofs.Slots.{nexts, befores, items_at_stay, items_at_push, slot_at_same, slot_at_other}
use Rattle.waiting_lists.proofs.Leads.{IsLed, led}
use Rattle.waiting_lists.proofs.Owners.{updated, updated_same, updated_other, list_is, IsMove, keeps_moved, lists_moved}

module _ {J : Type 0} where
  -- the free slots, the first of them apart
  first_free : (slots : List (Slot J)) (slot : ℕ) (ns : List ℕ) → AreLinked slots (Some slot) ns → (rest : List ℕ) × (ns ≡ slot ∷ rest)
  first_free slots slot [] p = absurd (none_not_some (Some slot) slot p refl)
  first_free slots slot (n ∷ ns) p = (ns, ap (λ v. v ∷ ns) (sym (some_is slot n p.0)))

  pub none_linked : (slots : List (Slot J)) (ns : List ℕ) → AreLinked slots None ns → ns ≡ []
  none_linked slots [] p = refl
  none_linked slots (n ∷ ns) p = absurd (none_not_some None n refl p.0)

  -- no free slot: all are in lists
  pub full_lists : (slots : List (Slot J)) (ends : List (Option Ends)) (k : Keeps slots ends None) → count_of (lists_of slots ends) ≡ length slots
  full_lists slots ends k = omega (arith, k.total, ap (λ (l : List ℕ). length l) (none_linked slots (k.numbers (length ends)) k.spare))

  no_links : (slots : List (Slot J)) (at : Option ℕ) (ns : List ℕ) → AreLinked slots at ns → length ns ≡ 0 → at ≡ None
  no_links slots at [] p e = p
  no_links slots at (n ∷ ns) p e = absurd (omega (arith, e))

  -- all are in lists: none is free
  pub full_free : (slots : List (Slot J)) (ends : List (Option Ends)) (free : Option ℕ) (k : Keeps slots ends free) → count_of (lists_of slots ends) ≡ length slots → free ≡ None
  full_free slots ends free k full = no_links slots free (k.numbers (length ends)) k.spare (omega (arith, k.total, full))

  module _ (slots : List (Slot J)) (ends : List (Option Ends)) (slot : ℕ) (k : Keeps slots ends (Some slot)) where
    rest : List ℕ
    rest = (first_free slots slot (k.numbers (length ends)) k.spare).0

    rest_is : k.numbers (length ends) ≡ slot ∷ rest
    unfolding rest
    rest_is = (first_free slots slot (k.numbers (length ends)) k.spare).1

    rest_linked : AreLinked slots (Some slot) (slot ∷ rest)
    rest_linked = subst (AreLinked slots (Some slot)) rest_is k.spare

    -- so not all are in lists
    pub free_room : count_of (lists_of slots ends) < length slots
    free_room = omega (arith, k.total, ap (λ (l : List ℕ). length l) rest_is)

    pub free_bound : slot < length slots
    free_bound = rest_linked.1

    slot_owner : k.owner slot ≡ length ends
    slot_owner = k.owned (length ends) slot (omega arith) (subst (StandsIn slot) (sym rest_is) (inl refl))

    rest_owner : (i : ℕ) → StandsIn i rest → k.owner i ≡ length ends
    rest_owner i h = k.owned (length ends) i (omega arith) (subst (StandsIn i) (sym rest_is) (inr h))

    rest_apart : (i : ℕ) → StandsIn i rest → i ≢ slot
    rest_apart i h e = first_once (nexts slots) (length slots) (Some slot) slot rest rest_linked (subst (λ v. StandsIn v rest) e h)

    module _ (t : ℕ) (lt : t < length ends) where
      list_owner : (i : ℕ) → StandsIn i (k.numbers t) → k.owner i ≡ t
      list_owner i h = k.owned t i (omega arith) h

      list_apart : (i : ℕ) → StandsIn i (k.numbers t) → i ≢ slot
      list_apart i h e = omega (arith, lt, list_owner i h, ap k.owner e, slot_owner)

      module _ (item : Item J) where
        -- the slots after `append`
        pub record HasPushed (after : List (Slot J)) (new : Ends) : Type 0 where
          pub size : length after ≡ length slots
          pub same : (i : ℕ) → i ≢ slot → k.owner i ≢ t → slot_at after i ≡ slot_at slots i
          pub linked : AreLinked after (Some new.first) (k.numbers t ++ slot ∷ [])
          pub back : AreChainedBack (befores after) None (k.numbers t ++ slot ∷ [])
          pub items : (i : ℕ) → i ≢ slot → (slot_at after i).item ≡ (slot_at slots i).item
          pub tenants : (i : ℕ) → i ≢ slot → (slot_at after i).tenant ≡ (slot_at slots i).tenant
          pub cells : (i : ℕ) → i ≢ slot → (slot_at after i).next_in_cell ≡ (slot_at slots i).next_in_cell
          pub placed : (slot_at after slot).item ≡ Some item
          pub tenant : (slot_at after slot).tenant ≡ t
          pub last : new.last ≡ slot

        module _ (after : List (Slot J)) (new : Ends) (h : HasPushed after new) where
          push_occupied : (i : ℕ) → StandsIn i (k.numbers t ++ slot ∷ []) → IsSome (slot_at after i).item
          push_occupied i s = elim (stands_push i slot (k.numbers t) s) [
            | inl s ↦ subst IsSome (sym (h.items i (list_apart i s))) ((k.listed t lt).occupied i s)
            | inr e ↦ subst (λ v. IsSome (slot_at after v).item) (sym e) (subst IsSome (sym h.placed) refl)
          ]

          -- an item that was there before, in the tenant's list
          still_listed : (i : ℕ) → i ≢ slot → (k.owner i ≡ t) ⊎ (k.owner i ≡ length ends) → IsSome (slot_at after i).item → ((slot_at after i).tenant ≡ t) × StandsIn i (k.numbers t ++ slot ∷ [])
          still_listed i ne own some =
              let was = k.all_listed i (subst IsSome (h.items i ne) some) in
              let owner : k.owner i ≡ (slot_at slots i).tenant = k.owned (slot_at slots i).tenant i (omega (arith, was.known)) was.stands in
              elim own [
                | inl e ↦ (h.tenants i ne ∙ sym owner ∙ e, stands_left i (k.numbers t) (slot ∷ []) (subst (λ v. StandsIn i (k.numbers v)) (sym owner ∙ e) was.stands))
                | inr e ↦ absurd (omega (arith, e, owner, was.known))
              ]

          pub push_moves : IsMove slots after ends (set ends t (Some new)) (Some slot) (slot_at slots slot).next k t
          push_moves = record {
            owner = updated k.owner slot t;
            list = k.numbers t ++ slot ∷ [];
            rest = rest;
            size = h.size;
            tenants = length-set ends t (Some new);
            known = lt;
            others = λ u ne. get_or-set_other ends t u (Some new) None ne;
            stay = λ i not_list not_free. h.same i (λ e. not_free (ap k.owner e ∙ slot_owner)) not_list;
            same_owner = λ i not_list not_free. updated_other k.owner slot t i (λ e. not_free (ap k.owner e ∙ slot_owner));
            list_owned = λ i s. elim (stands_push i slot (k.numbers t) s) [
              | inl s ↦ updated_other k.owner slot t i (list_apart i s) ∙ list_owner i s
              | inr e ↦ ap (updated k.owner slot t) e ∙ updated_same k.owner slot t
            ];
            rest_owned = λ i s. updated_other k.owner slot t i (rest_apart i s) ∙ rest_owner i s;
            listed = subst (λ e. AreListOf after e (k.numbers t ++ slot ∷ [])) (sym (get_or-set_same ends t (Some new) None lt)) (record {
              linked = h.linked;
              back = h.back;
              occupied = push_occupied;
              last = ap Some h.last ∙ sym (last_pushed None (k.numbers t) slot);
            });
            spare = linked_stays (nexts slots) (nexts after) (length slots) (length after) (slot_at slots slot).next rest (omega (arith, h.size)) (λ i s. ap (λ (s : Slot J). s.next) (h.same i (rest_apart i s) (λ e. omega (arith, lt, e, rest_owner i s)))) rest_linked.2;
            all_listed = λ i own some. elim (cases_eq i slot) [
              | inl e ↦ (ap (λ v. (slot_at after v).tenant) e ∙ h.tenant, subst (λ v. StandsIn v (k.numbers t ++ slot ∷ [])) (sym e) (stands_right slot (k.numbers t) (slot ∷ []) (inl refl)))
              | inr ne ↦ still_listed i ne own some
            ];
            conserved = omega (arith, length_push (k.numbers t) slot, ap (λ (l : List ℕ). length l) rest_is);
          }

          pub appended_keeps : Keeps after (set ends t (Some new)) (slot_at slots slot).next
          appended_keeps = keeps_moved slots after ends (set ends t (Some new)) (Some slot) (slot_at slots slot).next k t push_moves

          pub appended_lists : lists_of after (set ends t (Some new)) ≡ set (lists_of slots ends) t (get_or (lists_of slots ends) t [] ++ item ∷ [])
          unfolding push_moves
          appended_lists =
              lists_moved slots after ends (set ends t (Some new)) (Some slot) (slot_at slots slot).next k t push_moves
              ∙ ap (set (lists_of slots ends) t) (items_at_push after (k.numbers t) slot item h.placed ∙ ap (λ (l : List (Item J)). l ++ item ∷ []) (items_at_stay slots after (k.numbers t) (λ i s. h.items i (list_apart i s)) ∙ sym (list_is slots ends (Some slot) k t [] lt)))

          -- a free slot holds no item
          slot_empty : (o : Option (Item J)) → (slot_at slots slot).item ≡ o → (slot_at slots slot).item ≡ None
          slot_empty None e = e
          slot_empty (Some i) e =
              let was = k.all_listed slot (subst IsSome (sym e) refl) in
              absurd (omega (arith, was.known, slot_owner, k.owned (slot_at slots slot).tenant slot (omega (arith, was.known)) was.stands))

          pub appended_put : IsPutAt slots slot item after
          appended_put = record {
            empty = slot_empty (slot_at slots slot).item refl;
            put = h.placed;
            beside = record { size = h.size; items = h.items; cells = h.cells };
          }

        abbrev before : Option ℕ
        before = last_of (get_or ends t None)

        abbrev placed : Slot J
        placed = record { item = Some item; tenant = t; before = before; next = None; next_in_cell = None }

        mid_same : slot_at (set slots slot placed) slot ≡ placed
        mid_same = slot_at_same slots slot placed free_bound

        mid_other : (i : ℕ) → i ≢ slot → slot_at (set slots slot placed) i ≡ slot_at slots i
        mid_other i ne = slot_at_other slots slot i placed ne

        -- the last slot of the list
        before_stands : (l : ℕ) → before ≡ Some l → StandsIn l (k.numbers t)
        before_stands l e = last_stands (k.numbers t) l (sym (k.listed t lt).last ∙ e)

        -- is there to be linked
        before_bound_at : (o : Option ℕ) → before ≡ o → IfSome o (λ l. l < length (set slots slot placed))
        before_bound_at None e = tt
        before_bound_at (Some l) e = omega (arith, length-set slots slot placed, linked_bound (nexts slots) (length slots) (first_of (get_or ends t None)) (k.numbers t) l (k.listed t lt).linked (before_stands l e))

        pub before_bound : IfSome before (λ l. l < length (set slots slot placed))
        before_bound = before_bound_at before refl

        module _ (after : List (Slot J)) (new : Ends) (written : Leads (set slots slot placed) before (Some slot) after) where
          did : IsLed (set slots slot placed) before (Some slot) after
          did = led (set slots slot placed) before (Some slot) after before_bound written

          not_before : before ≡ Some slot → ⊥
          not_before e = list_apart slot (before_stands slot e) refl

          at_slot : slot_at after slot ≡ placed
          at_slot = did.written.other slot not_before ∙ mid_same

          size : length after ≡ length slots
          size = did.written.size ∙ length-set slots slot placed

          same : (i : ℕ) → i ≢ slot → (before ≡ Some i → ⊥) → slot_at after i ≡ slot_at slots i
          same i ne away = did.written.other i away ∙ mid_other i ne

          -- the list with the slot behind it
          linked_behind : (o : Option Ends) → get_or ends t None ≡ o → MatchOption o (new.first ≡ slot) (λ e. new.first ≡ e.first) → AreLinked after (Some new.first) (k.numbers t ++ slot ∷ [])
          linked_behind None none first =
              let empty : k.numbers t ≡ [] = none_linked slots (k.numbers t) (subst (λ e. AreLinked slots (first_of e) (k.numbers t)) none (k.listed t lt).linked) in
              subst (λ l. AreLinked after (Some new.first) (l ++ slot ∷ [])) (sym empty) (ap Some first, omega (arith, size, free_bound), ap (λ (s : Slot J). s.next) at_slot)
          linked_behind (Some e) some first =
              let last : before ≡ Some e.last = ap last_of some in
              let found : (front : List ℕ) × (k.numbers t ≡ front ++ e.last ∷ []) = last_is (k.numbers t) e.last (sym (k.listed t lt).last ∙ last) in
              let chain : AreLinked slots (Some e.first) (found.0 ++ e.last ∷ []) = subst (AreLinked slots (Some e.first)) found.1 (subst (λ o. AreLinked slots (first_of o) (k.numbers t)) some (k.listed t lt).linked) in
              let in_list : (i : ℕ) → StandsIn i found.0 → StandsIn i (k.numbers t) = λ i h. subst (StandsIn i) (sym found.1) (stands_left i found.0 (e.last ∷ []) h) in
              let front_apart : (i : ℕ) → StandsIn i found.0 → before ≡ Some i → ⊥ = λ i h f. once (nexts slots) (length slots) (Some e.first) found.0 e.last [] chain (stands_left e.last found.0 [] (subst (λ v. StandsIn v found.0) (some_is i e.last (sym f ∙ last)) h)) in
              let longer : AreChained (nexts after) (length slots) (Some e.first) ((found.0 ++ e.last ∷ []) ++ slot ∷ []) = linked_push (nexts slots) (nexts after) (length slots) (Some e.first) found.0 e.last slot (λ i h. ap (λ (s : Slot J). s.next) (same i (list_apart i (in_list i h)) (front_apart i h))) (did.at e.last last) (ap (λ (s : Slot J). s.next) at_slot) free_bound chain in
              subst (λ b. AreChained (nexts after) b (Some new.first) (k.numbers t ++ slot ∷ [])) (sym size)
              (subst (λ v. AreChained (nexts after) (length slots) (Some v) (k.numbers t ++ slot ∷ [])) (sym first) (subst (λ l. AreChained (nexts after) (length slots) (Some e.first) (l ++ slot ∷ [])) (sym found.1) longer))

          pub has_pushed : MatchOption (get_or ends t None) (new.first ≡ slot) (λ e. new.first ≡ e.first) → new.last ≡ slot → HasPushed after new
          has_pushed first last = record {
            size = size;
            same = λ i ne away. same i ne (λ e. away (list_owner i (before_stands i e)));
            linked = linked_behind (get_or ends t None) refl first;
            back = back_push (befores slots) (befores after) None (k.numbers t) slot (λ i h. did.befores i ∙ ap (λ (s : Slot J). s.before) (mid_other i (list_apart i h))) (did.befores slot ∙ ap (λ (s : Slot J). s.before) mid_same ∙ (k.listed t lt).last) (k.listed t lt).back;
            items = λ i ne. did.items i ∙ ap (λ (s : Slot J). s.item) (mid_other i ne);
            tenants = λ i ne. did.tenants i ∙ ap (λ (s : Slot J). s.tenant) (mid_other i ne);
            cells = λ i ne. did.cells i ∙ ap (λ (s : Slot J). s.next_in_cell) (mid_other i ne);
            placed = did.items slot ∙ ap (λ (s : Slot J). s.item) mid_same;
            tenant = did.tenants slot ∙ ap (λ (s : Slot J). s.tenant) mid_same;
            last = last;
          }

        -- the links that `append` reads and writes
        module _ (read : Option ℕ) (read_is : read ≡ before) where
          pub read_bound : IfSome read (λ l. l < length (set slots slot (record { item = Some item; tenant = t; before = read; next = None; next_in_cell = None })))
          read_bound = subst (λ o. IfSome o (λ l. l < length (set slots slot (record { item = Some item; tenant = t; before = o; next = None; next_in_cell = None })))) (sym read_is) before_bound

          pub did_push : (after : List (Slot J)) (new : Ends) → Leads (set slots slot (record { item = Some item; tenant = t; before = read; next = None; next_in_cell = None })) read (Some slot) after → MatchOption (get_or ends t None) (new.first ≡ slot) (λ e. new.first ≡ e.first) → new.last ≡ slot → HasPushed after new
          did_push after new written = has_pushed after new (subst (λ o. Leads (set slots slot (record { item = Some item; tenant = t; before = o; next = None; next_in_cell = None })) o (Some slot) after) read_is written)
