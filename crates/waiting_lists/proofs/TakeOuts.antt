-- An item that goes out of a list, wherever it stands.
use Rattle.std.proofs.Common.{◌≡◌, ◌≢◌, ℕ, ◌<◌, List, ◌∷◌, ◌++◌, Option, Some, None, length, get_or, set, IsSome, IfSome, arith, refl, sym, ap, ◌∙◌, subst, inl, inr, ◌⊎◌}
use Rattle.std.proofs.lemmas.Bool.{cases_eq, false≢true}
use Rattle.std.proofs.lemmas.List.{get_or-set_same, get_or-set_other, length-set, length-append}
use Rattle.waiting_lists.specs.declared.links.Slot.{Slot}
use Rattle.waiting_lists.specs.declared.links.Ends.{Ends}
use Rattle.waiting_lists.specs.Linked.{StandsIn, first_in, last_behind, slot_at, items_at, first_of, last_of, lists_of, AreLinked, AreChained, AreChainedBack, AreListOf, AreEndsWithout, Keeps, Leads, LeadsBack, IsEmptied, IsTakenOut}
use Rattle.waiting_lists.proofs.Chains.{some_is, none_not_some, stands_left, stands_right, stands_within, stands_beside, stands_at, last_stands, first_stands, first_is, linked_one, linked_bound, linked_from, linked_stays, once, next_back, back_next}
use Rattle.waiting_lists.proofs.Unlinked.{past, past_it, past_other, unlinked, unlinked_back, back_of}
use Rattle.waiting_lists.proofs.Slots.{nexts, befores, items_at_stay, items_at_append, slot_at_same, slot_at_other}
use Rattle.waiting_lists.proofs.Leads.{IsLed, IsLedBack, led, led_back}
use Rattle.waiting_lists.proofs.Owners.{updated, updated_same, updated_other, IsMove, keeps_moved, lists_moved}

module _ {J : Type 0} (slots : List (Slot J)) (ends : List (Option Ends)) (free : Option ℕ) (k : Keeps slots ends free) (s : ℕ) (some : IsSome (slot_at slots s).item) where
  abbrev t : ℕ
  t = (slot_at slots s).tenant

  abbrev before : Option ℕ
  before = (slot_at slots s).before

  abbrev next : Option ℕ
  next = (slot_at slots s).next

  abbrev place : Slot J
  place = record { item = None; tenant = 0; before = None; next = free; next_in_cell = None }

  pub known : t < length ends
  known = (k.all_listed s some).known

  stands : StandsIn s (k.numbers t)
  stands = (k.all_listed s some).stands

  s_owner : k.owner s ≡ t
  s_owner = k.owned t s (omega (arith, known)) stands

  pub slot_bound : s < length slots
  slot_bound = linked_bound (nexts slots) (length slots) (first_of (get_or ends t None)) (k.numbers t) s (k.listed t known).linked stands

  -- its neighbours in the list
  module _ (front rest : List ℕ) (split : k.numbers t ≡ front ++ s ∷ rest) where
    chain : AreLinked slots (first_of (get_or ends t None)) (front ++ s ∷ rest)
    chain = subst (AreLinked slots (first_of (get_or ends t None))) split (k.listed t known).linked

    back : AreChainedBack (befores slots) None (front ++ s ∷ rest)
    back = subst (AreChainedBack (befores slots) None) split (k.listed t known).back

    in_list : (i : ℕ) → StandsIn i (front ++ rest) → StandsIn i (front ++ s ∷ rest)
    in_list i h = stands_within i s front rest h

    s_stands : StandsIn s (front ++ s ∷ rest)
    s_stands = stands_right s front (s ∷ rest) (inl refl)

    apart : (i : ℕ) → StandsIn i (front ++ rest) → i ≢ s
    apart i h e = once (nexts slots) (length slots) (first_of (get_or ends t None)) front s rest chain (subst (λ v. StandsIn v (front ++ rest)) e h)

    owner : (i : ℕ) → StandsIn i (front ++ rest) → k.owner i ≡ t
    owner i h = k.owned t i (omega (arith, known)) (subst (StandsIn i) (sym split) (in_list i h))

    before_is : before ≡ last_behind None front
    before_is = back_of (befores slots) None front s rest back

    next_is : next ≡ first_in rest
    next_is = first_is (nexts slots) (length slots) next rest (linked_from (nexts slots) (length slots) (first_of (get_or ends t None)) front s rest chain).1

    before_stands : (i : ℕ) → before ≡ Some i → StandsIn i (front ++ rest)
    before_stands i e = stands_left i front rest (last_stands front i (sym before_is ∙ e))

    next_stands : (i : ℕ) → next ≡ Some i → StandsIn i (front ++ rest)
    next_stands i e = stands_right i front rest (first_stands rest i (sym next_is ∙ e))

    bound : (i : ℕ) → StandsIn i (front ++ rest) → i < length slots
    bound i h = linked_bound (nexts slots) (length slots) (first_of (get_or ends t None)) (front ++ s ∷ rest) i chain (in_list i h)

    -- a link to it is that of the slot before it
    leads_from : (i : ℕ) → StandsIn i (front ++ rest) → nexts slots i ≡ Some s → before ≡ Some i
    leads_from i h e = next_back (nexts slots) (length slots) (befores slots) (first_of (get_or ends t None)) None (front ++ s ∷ rest) i s chain back (in_list i h) e

    leads_to : (i : ℕ) → before ≡ Some i → nexts slots i ≡ Some s
    leads_to i e = (back_next (nexts slots) (length slots) (befores slots) (first_of (get_or ends t None)) (front ++ s ∷ rest) i s chain back s_stands e).1

    -- and a link back to it that of the slot behind it
    back_from : (i : ℕ) → StandsIn i (front ++ rest) → befores slots i ≡ Some s → next ≡ Some i
    back_from i h e = (back_next (nexts slots) (length slots) (befores slots) (first_of (get_or ends t None)) (front ++ s ∷ rest) s i chain back (in_list i h) e).1

    back_to : (i : ℕ) → next ≡ Some i → befores slots i ≡ Some s
    back_to i e = next_back (nexts slots) (length slots) (befores slots) (first_of (get_or ends t None)) None (front ++ s ∷ rest) s i chain back s_stands e

    mid_other : (i : ℕ) → i ≢ s → slot_at (set slots s place) i ≡ slot_at slots i
    mid_other i ne = slot_at_other slots s i place ne

    before_bound_at : (o : Option ℕ) → before ≡ o → IfSome o (λ i. i < length (set slots s place))
    before_bound_at None e = tt
    before_bound_at (Some i) e = omega (arith, length-set slots s place, bound i (before_stands i e))

    next_bound_at : (n : ℕ) → n ≡ length slots → (o : Option ℕ) → next ≡ o → IfSome o (λ i. i < n)
    next_bound_at n size None e = tt
    next_bound_at n size (Some i) e = omega (arith, size, bound i (next_stands i e))

    mid_is : (mid : List (Slot J)) → Leads (set slots s place) before next mid → length mid ≡ length slots
    mid_is mid leads =
        let did : IsLed (set slots s place) before next mid = led (set slots s place) before next mid (before_bound_at before refl) leads in
        did.written.size ∙ length-set slots s place

    module _ (mid after : List (Slot J)) (now : Option Ends) (leads : Leads (set slots s place) before next mid) (leads_back : LeadsBack mid next before after) (without : AreEndsWithout (get_or ends t None) before next now) where
      did : IsLed (set slots s place) before next mid
      did = led (set slots s place) before next mid (before_bound_at before refl) leads

      did_back : IsLedBack mid next before after
      did_back = led_back mid next before after (next_bound_at (length mid) (mid_is mid leads) next refl) leads_back

      size : length after ≡ length slots
      size = did_back.written.size ∙ mid_is mid leads

      items : (i : ℕ) → i ≢ s → (slot_at after i).item ≡ (slot_at slots i).item
      items i ne = did_back.items i ∙ did.items i ∙ ap (λ (x : Slot J). x.item) (mid_other i ne)

      tenants : (i : ℕ) → i ≢ s → (slot_at after i).tenant ≡ (slot_at slots i).tenant
      tenants i ne = did_back.tenants i ∙ did.tenants i ∙ ap (λ (x : Slot J). x.tenant) (mid_other i ne)

      -- a slot that is neither it nor one of its neighbours
      other : (i : ℕ) → i ≢ s → (before ≡ Some i → ⊥) → (next ≡ Some i → ⊥) → slot_at after i ≡ slot_at slots i
      other i ne not_before not_next = did_back.written.other i not_next ∙ did.written.other i not_before ∙ mid_other i ne

      at_slot : slot_at after s ≡ place
      at_slot =
          did_back.written.other s (λ e. apart s (next_stands s e) refl)
          ∙ did.written.other s (λ e. apart s (before_stands s e) refl)
          ∙ slot_at_same slots s place slot_bound

      next_at : (o : Option ℕ) → before ≡ o → (i : ℕ) → StandsIn i (front ++ rest) → nexts mid i ≡ past s next (nexts slots i)
      next_at None none i h =
          ap (λ (x : Slot J). x.next) (did.written.other i (none_not_some before i none) ∙ mid_other i (apart i h))
          ∙ sym (past_other s next (nexts slots i) (λ e. none_not_some before i none (leads_from i h e)))
      next_at (Some p) is i h = elim (cases_eq i p) [
        | inl e ↦ did.at i (is ∙ ap Some (sym e)) ∙ sym (past_it s next (nexts slots i) (leads_to i (is ∙ ap Some (sym e))))
        | inr ne ↦
            let away : before ≡ Some i → ⊥ = λ e. ne (some_is i p (sym e ∙ is)) in
            ap (λ (x : Slot J). x.next) (did.written.other i away ∙ mid_other i (apart i h))
            ∙ sym (past_other s next (nexts slots i) (λ e. away (leads_from i h e)))
      ]

      before_at : (o : Option ℕ) → next ≡ o → (i : ℕ) → StandsIn i (front ++ rest) → befores after i ≡ past s before (befores slots i)
      before_at None none i h =
          ap (λ (x : Slot J). x.before) (did_back.written.other i (none_not_some next i none))
          ∙ did.befores i
          ∙ ap (λ (x : Slot J). x.before) (mid_other i (apart i h))
          ∙ sym (past_other s before (befores slots i) (λ e. none_not_some next i none (back_from i h e)))
      before_at (Some q) is i h = elim (cases_eq i q) [
        | inl e ↦ did_back.at i (is ∙ ap Some (sym e)) ∙ sym (past_it s before (befores slots i) (back_to i (is ∙ ap Some (sym e))))
        | inr ne ↦
            let away : next ≡ Some i → ⊥ = λ e. ne (some_is i q (sym e ∙ is)) in
            ap (λ (x : Slot J). x.before) (did_back.written.other i away)
            ∙ did.befores i
            ∙ ap (λ (x : Slot J). x.before) (mid_other i (apart i h))
            ∙ sym (past_other s before (befores slots i) (λ e. away (back_from i h e)))
      ]

      -- the list without it
      ends_now : (first_of now ≡ first_in (front ++ rest)) × (last_of now ≡ last_behind None (front ++ rest))
      ends_now =
          without front s rest before_is next_is
          (first_is (nexts slots) (length slots) (first_of (get_or ends t None)) (front ++ s ∷ rest) chain)
          ((k.listed t known).last ∙ ap (last_behind None) split)

      linked_now : AreLinked after (first_of now) (front ++ rest)
      linked_now =
          let at : Option ℕ = past s next (first_of (get_or ends t None)) in
          let shorter : AreChained (nexts after) (length slots) at (front ++ rest) = unlinked (nexts slots) (nexts after) (length slots) (first_of (get_or ends t None)) front s rest (λ i h. did_back.nexts i ∙ next_at before refl i h) chain in
          let first : at ≡ first_in (front ++ rest) = first_is (nexts after) (length slots) at (front ++ rest) shorter in
          subst (λ b. AreChained (nexts after) b (first_of now) (front ++ rest)) (sym size) (subst (λ o. AreChained (nexts after) (length slots) o (front ++ rest)) (first ∙ sym ends_now.0) shorter)

      listed_now : AreListOf after now (front ++ rest)
      listed_now = record {
        linked = linked_now;
        back = unlinked_back (befores slots) (befores after) None front s rest (none_not_some None s refl) (λ h. apart s h refl) (before_at next refl) back;
        occupied = λ i h. subst IsSome (sym (items i (apart i h))) ((k.listed t known).occupied i (subst (StandsIn i) (sym split) (in_list i h)));
        last = ends_now.1;
      }

      free_owner : (i : ℕ) → StandsIn i (k.numbers (length ends)) → k.owner i ≡ length ends
      free_owner i h = k.owned (length ends) i (omega arith) h

      -- a slot of another owner
      away_same : (i : ℕ) → k.owner i ≢ t → slot_at after i ≡ slot_at slots i
      away_same i ne = other i (λ e. ne (ap k.owner e ∙ s_owner)) (λ e. ne (owner i (before_stands i e))) (λ e. ne (owner i (next_stands i e)))

      -- an item that stays, in the tenant's list
      still_listed : (i : ℕ) → i ≢ s → (k.owner i ≡ t) ⊎ (k.owner i ≡ length ends) → IsSome (slot_at after i).item → ((slot_at after i).tenant ≡ t) × StandsIn i (front ++ rest)
      still_listed i ne own is =
          let was = k.all_listed i (subst IsSome (items i ne) is) in
          let his : k.owner i ≡ (slot_at slots i).tenant = k.owned (slot_at slots i).tenant i (omega (arith, was.known)) was.stands in
          elim own [
            | inl e ↦ (tenants i ne ∙ sym his ∙ e, stands_beside i s front rest (subst (StandsIn i) split (subst (λ v. StandsIn i (k.numbers v)) (sym his ∙ e) was.stands)) ne)
            | inr e ↦ absurd (omega (arith, e, his, was.known))
          ]

      moves : IsMove slots after ends (set ends t now) free (Some s) k t
      moves = record {
        owner = updated k.owner s (length ends);
        list = front ++ rest;
        rest = s ∷ k.numbers (length ends);
        size = size;
        tenants = length-set ends t now;
        known = known;
        others = λ u ne. get_or-set_other ends t u now None ne;
        stay = λ i not_list not_free. away_same i not_list;
        same_owner = λ i not_list not_free. updated_other k.owner s (length ends) i (λ e. not_list (ap k.owner e ∙ s_owner));
        list_owned = λ i h. updated_other k.owner s (length ends) i (apart i h) ∙ owner i h;
        rest_owned = λ i h. elim (cases_eq i s) [
          | inl e ↦ ap (updated k.owner s (length ends)) e ∙ updated_same k.owner s (length ends)
          | inr ne ↦ updated_other k.owner s (length ends) i ne ∙ free_owner i (elim h [ inl e ↦ absurd (ne e) | inr h ↦ h ])
        ];
        listed = subst (λ o. AreListOf after o (front ++ rest)) (sym (get_or-set_same ends t now None known)) listed_now;
        spare = (
          refl,
          omega (arith, size, slot_bound),
          subst (λ o. AreLinked after o (k.numbers (length ends))) (sym (ap (λ (x : Slot J). x.next) at_slot))
              (linked_stays (nexts slots) (nexts after) (length slots) (length after) free (k.numbers (length ends)) (omega (arith, size)) (λ i h. ap (λ (x : Slot J). x.next) (away_same i (λ e. omega (arith, known, free_owner i h, e)))) k.spare),
        );
        all_listed = λ i own is. elim (cases_eq i s) [
          | inl e ↦ absurd (false≢true (subst (λ (x : Slot J). IsSome x.item) (ap (slot_at after) e ∙ at_slot) is))
          | inr ne ↦ still_listed i ne own is
        ];
        conserved = omega (arith, length-append front rest, length-append front (s ∷ rest), ap (λ (l : List ℕ). length l) split);
      }

      pub out_keeps : Keeps after (set ends t now) (Some s)
      out_keeps = keeps_moved slots after ends (set ends t now) free (Some s) k t moves

      pub out_lists : lists_of after (set ends t now) ≡ set (lists_of slots ends) t (items_at slots front ++ items_at slots rest)
      unfolding moves
      out_lists =
          lists_moved slots after ends (set ends t now) free (Some s) k t moves
          ∙ ap (set (lists_of slots ends) t) (items_at_stay slots after (front ++ rest) (λ i h. items i (apart i h)) ∙ items_at_append slots front rest)

      pub out_emptied : IsEmptied slots s after
      out_emptied = record {
        emptied = ap (λ (x : Slot J). x.item) at_slot;
        beside = record {
          size = size;
          items = items;
          cells = λ i ne. did_back.cells i ∙ did.cells i ∙ ap (λ (x : Slot J). x.next_in_cell) (mid_other i ne);
        };
      }

  abbrev found : (front : List ℕ) × ((rest : List ℕ) × (k.numbers t ≡ front ++ s ∷ rest))
  found = stands_at s (k.numbers t) stands

  -- the slots that `take_out` reads and writes
  module _ (read dest : Slot J) (read_is : read ≡ slot_at slots s) (dest_is : dest ≡ place) where
    pub known_read : read.tenant < length ends
    known_read = subst (λ (x : Slot J). x.tenant < length ends) (sym read_is) known

    pub read_before_bound : IfSome read.before (λ i. i < length (set slots s dest))
    read_before_bound =
        subst (λ (x : Slot J). IfSome read.before (λ i. i < length (set slots s x))) (sym dest_is)
        (subst (λ (x : Slot J). IfSome x.before (λ i. i < length (set slots s place))) (sym read_is) (before_bound_at found.0 found.1.0 found.1.1 before refl))

    module _ (mid : List (Slot J)) (leads : Leads (set slots s dest) read.before read.next mid) where
      leads_now : Leads (set slots s place) before next mid
      leads_now = subst (λ (x : Slot J). Leads (set slots s place) x.before x.next mid) read_is (subst (λ (x : Slot J). Leads (set slots s x) read.before read.next mid) dest_is leads)

      pub read_next_bound : IfSome read.next (λ i. i < length mid)
      read_next_bound =
          subst (λ (x : Slot J). IfSome x.next (λ i. i < length mid)) (sym read_is)
          (next_bound_at found.0 found.1.0 found.1.1 (length mid) (mid_is found.0 found.1.0 found.1.1 mid leads_now) next refl)

      module _ (after : List (Slot J)) (now : Option Ends) (leads_back : LeadsBack mid read.next read.before after) (without : AreEndsWithout (get_or ends read.tenant None) read.before read.next now) where
        leads_back_now : LeadsBack mid next before after
        leads_back_now = subst (λ (x : Slot J). LeadsBack mid x.next x.before after) read_is leads_back

        without_now : AreEndsWithout (get_or ends t None) before next now
        without_now = subst (λ (x : Slot J). AreEndsWithout (get_or ends x.tenant None) x.before x.next now) read_is without

        pub taken_keeps : Keeps after (set ends read.tenant now) (Some s)
        taken_keeps =
            subst (λ (x : Slot J). Keeps after (set ends x.tenant now) (Some s)) (sym read_is)
            (out_keeps found.0 found.1.0 found.1.1 mid after now leads_now leads_back_now without_now)

        pub taken_emptied : IsEmptied slots s after
        taken_emptied = out_emptied found.0 found.1.0 found.1.1 mid after now leads_now leads_back_now without_now

        pub taken_out : IsTakenOut slots ends s after (set ends read.tenant now)
        taken_out =
            subst (λ (x : Slot J). IsTakenOut slots ends s after (set ends x.tenant now)) (sym read_is)
            (λ front rest list. out_lists front rest (linked_one (nexts slots) (length slots) (first_of (get_or ends t None)) (k.numbers t) (front ++ s ∷ rest) (k.listed t known).linked list.linked) mid after now leads_now leads_back_now without_now)
