-- A slot that goes from one list to another.
use Rattle.std.proofs.Common.{◌≡◌, ◌≢◌, ℕ, ◌+◌, ◌<◌, ◌≤◌, List, [], Option, None, length, get_or, set, cond, eqb, IsSome, arith, refl, sym, ap, ◌∙◌, subst, inl, inr, ◌⊎◌}
use Rattle.std.proofs.lemmas.Bool.{cases_eq, cond-true, cond-false, eq-eqb, ne_eqb}
use Rattle.std.proofs.lemmas.List.{get_or-set_same, get_or-set_other, length-set, length-map, get_or-map, same_lists}
use Rattle.std.proofs.lemmas.List.Sums.{sum_by-set, get_or-le-sum_by}
use Rattle.waiting_lists.specs.declared.item.Item.{Item}
use Rattle.waiting_lists.specs.declared.links.Slot.{Slot}
use Rattle.waiting_lists.specs.declared.links.Ends.{Ends}
use Rattle.waiting_lists.specs.Linked.{StandsIn, slot_at, first_of, items_from, items_at, lists_of, count_of, AreLinked, AreListOf, IsListed, Keeps}
use Rattle.waiting_lists.proofs.Chains.{linked_stays, back_stays}
use Rattle.waiting_lists.proofs.Slots.{nexts, befores, items_at_stay, items_from_chain, length_items_at}

-- a function with another value at one number
abbrev pub updated : {X : Type 0} → (ℕ → X) → ℕ → X → ℕ → X
updated f k x u = cond (eqb u k) x (f u)

pub updated_same : {X : Type 0} (f : ℕ → X) (k : ℕ) (x : X) → updated f k x k ≡ x
updated_same f k x = cond-true (eqb k k) x (f k) (eq-eqb k k refl)

pub updated_other : {X : Type 0} (f : ℕ → X) (k : ℕ) (x : X) (u : ℕ) → u ≢ k → updated f k x u ≡ f u
updated_other f k x u ne = cond-false (eqb u k) x (f u) (ne_eqb u k ne)

module _ {J : Type 0} where
  -- the list of a tenant is the items in its slots
  pub list_is : (slots : List (Slot J)) (ends : List (Option Ends)) (free : Option ℕ) (k : Keeps slots ends free) (u : ℕ) (d : List (Item J)) → u < length ends → get_or (lists_of slots ends) u d ≡ items_at slots (k.numbers u)
  list_is slots ends free k u d lt =
      get_or-map (λ e. items_from slots (length slots) (first_of e)) ends u None d lt
      ∙ items_from_chain slots (length slots) (first_of (get_or ends u None)) (k.numbers u) (k.short u lt) (k.listed u lt).linked

  -- a list is as long as its slots are many, and all lists and the free slots have room
  pub length_list : (slots : List (Slot J)) (ends : List (Option Ends)) (free : Option ℕ) (k : Keeps slots ends free) (u : ℕ) (d : List (Item J)) → u < length ends → length (get_or (lists_of slots ends) u d) ≡ length (k.numbers u)
  length_list slots ends free k u d lt = ap (λ (l : List (Item J)). length l) (list_is slots ends free k u d lt) ∙ length_items_at slots (k.numbers u) (k.listed u lt).occupied

  pub lists_length : (slots : List (Slot J)) (ends : List (Option Ends)) → length (lists_of slots ends) ≡ length ends
  lists_length slots ends = length-map ends (λ e. items_from slots (length slots) (first_of e))

  pub list_and_rest : (slots : List (Slot J)) (ends : List (Option Ends)) (free : Option ℕ) (k : Keeps slots ends free) (u : ℕ) → u < length ends → length (k.numbers u) + length (k.numbers (length ends)) ≤ length slots
  list_and_rest slots ends free k u lt =
      omega (arith, get_or-le-sum_by (λ (l : List (Item J)). length l) (lists_of slots ends) u [] (omega (arith, lists_length slots ends)), length_list slots ends free k u [] lt, k.total)

  -- a move of slots between a tenant's list and the free slots
  pub record IsMove (slots after : List (Slot J)) (ends now : List (Option Ends)) (free link : Option ℕ) (k : Keeps slots ends free) (t : ℕ) : Type 0 where
    pub owner : ℕ → ℕ
    pub list : List ℕ
    pub rest : List ℕ
    pub size : length after ≡ length slots
    pub tenants : length now ≡ length ends
    pub known : t < length ends
    pub others : (u : ℕ) → u ≢ t → get_or now u None ≡ get_or ends u None
    pub stay : (i : ℕ) → k.owner i ≢ t → k.owner i ≢ length ends → slot_at after i ≡ slot_at slots i
    pub same_owner : (i : ℕ) → k.owner i ≢ t → k.owner i ≢ length ends → owner i ≡ k.owner i
    pub list_owned : (i : ℕ) → StandsIn i list → owner i ≡ t
    pub rest_owned : (i : ℕ) → StandsIn i rest → owner i ≡ length ends
    pub listed : AreListOf after (get_or now t None) list
    pub spare : AreLinked after link rest
    pub all_listed : (i : ℕ) → (k.owner i ≡ t) ⊎ (k.owner i ≡ length ends) → IsSome (slot_at after i).item → ((slot_at after i).tenant ≡ t) × StandsIn i list
    pub conserved : length list + length rest ≡ length (k.numbers t) + length (k.numbers (length ends))

  module _ (slots after : List (Slot J)) (ends now : List (Option Ends)) (free link : Option ℕ) (k : Keeps slots ends free) (t : ℕ) (m : IsMove slots after ends now free link k t) where
    numbers : ℕ → List ℕ
    numbers = updated (updated k.numbers t m.list) (length ends) m.rest

    numbers_free : numbers (length ends) ≡ m.rest
    unfolding numbers
    numbers_free = updated_same (updated k.numbers t m.list) (length ends) m.rest

    numbers_list : numbers t ≡ m.list
    unfolding numbers
    numbers_list = updated_other (updated k.numbers t m.list) (length ends) m.rest t (λ e. omega (arith, m.known, e)) ∙ updated_same k.numbers t m.list

    numbers_other : (u : ℕ) → u ≢ t → u < length ends → numbers u ≡ k.numbers u
    unfolding numbers
    numbers_other u ne lt = updated_other (updated k.numbers t m.list) (length ends) m.rest u (λ e. omega (arith, lt, e)) ∙ updated_other k.numbers t m.list u ne

    -- the slots of another tenant stay
    other_stays : (u i : ℕ) → u ≢ t → u < length ends → StandsIn i (k.numbers u) → slot_at after i ≡ slot_at slots i
    other_stays u i ne lt h =
        let e : k.owner i ≡ u = k.owned u i (omega arith) h in
        m.stay i (λ f. ne (sym e ∙ f)) (λ f. omega (arith, lt, e, f))

    other_listed : (u : ℕ) → u ≢ t → u < length ends → AreListOf after (get_or now u None) (k.numbers u)
    other_listed u ne lt =
        let l : AreListOf slots (get_or ends u None) (k.numbers u) = k.listed u lt in
        subst (λ e. AreListOf after e (k.numbers u)) (sym (m.others u ne)) (record {
          linked = linked_stays (nexts slots) (nexts after) (length slots) (length after) (first_of (get_or ends u None)) (k.numbers u) (omega (arith, m.size)) (λ i h. ap (λ (s : Slot J). s.next) (other_stays u i ne lt h)) l.linked;
          back = back_stays (befores slots) (befores after) None (k.numbers u) (λ i h. ap (λ (s : Slot J). s.before) (other_stays u i ne lt h)) l.back;
          occupied = λ i h. subst (λ (s : Slot J). IsSome s.item) (sym (other_stays u i ne lt h)) (l.occupied i h);
          last = l.last;
        })

    short_list : length m.list ≤ length slots
    short_list = omega (arith, m.conserved, list_and_rest slots ends free k t m.known)

    -- the lists after it: another for the tenant
    moved_at : (u : ℕ) (d : List (Item J)) → u < length ends → get_or (lists_of after now) u d ≡ get_or (set (lists_of slots ends) t (items_at after m.list)) u d
    moved_at u d lt =
        let read : get_or (lists_of after now) u d ≡ items_from after (length after) (first_of (get_or now u None)) = get_or-map (λ e. items_from after (length after) (first_of e)) now u None d (omega (arith, m.tenants, lt)) in
        elim (cases_eq u t) [
          | inl e ↦
              read
              ∙ ap (λ v. items_from after (length after) (first_of (get_or now v None))) e
              ∙ items_from_chain after (length after) (first_of (get_or now t None)) m.list (omega (arith, m.size, short_list)) m.listed.linked
              ∙ sym (get_or-set_same (lists_of slots ends) t (items_at after m.list) d (omega (arith, lists_length slots ends, m.known)))
              ∙ ap (λ v. get_or (set (lists_of slots ends) t (items_at after m.list)) v d) (sym e)
          | inr ne ↦
              read
              ∙ items_from_chain after (length after) (first_of (get_or now u None)) (k.numbers u) (omega (arith, m.size, k.short u lt)) (other_listed u ne lt).linked
              ∙ items_at_stay slots after (k.numbers u) (λ i h. ap (λ (s : Slot J). s.item) (other_stays u i ne lt h))
              ∙ sym (list_is slots ends free k u d lt)
              ∙ sym (get_or-set_other (lists_of slots ends) t u (items_at after m.list) d ne)
        ]

    pub lists_moved : lists_of after now ≡ set (lists_of slots ends) t (items_at after m.list)
    lists_moved =
        same_lists (lists_of after now) (set (lists_of slots ends) t (items_at after m.list))
        (omega (arith, lists_length after now, m.tenants, length-set (lists_of slots ends) t (items_at after m.list), lists_length slots ends))
        (λ u d lt. moved_at u d (omega (arith, lt, lists_length after now, m.tenants)))

    count_moved : count_of (lists_of after now) + length m.rest ≡ length slots
    count_moved =
        let f : List (Item J) → ℕ = λ l. length l in
        let sums : count_of (lists_of after now) + length (get_or (lists_of slots ends) t []) ≡ count_of (lists_of slots ends) + length (items_at after m.list) =
        ap (λ (ls : List (List (Item J))). count_of ls + length (get_or (lists_of slots ends) t [])) lists_moved ∙ sum_by-set f (lists_of slots ends) t (items_at after m.list) [] (omega (arith, lists_length slots ends, m.known)) in
        omega (arith, sums, length_list slots ends free k t [] m.known, length_items_at after m.list m.listed.occupied, m.conserved, k.total)

    -- a slot of another owner is still listed
    other_still : (i : ℕ) → k.owner i ≢ t → k.owner i ≢ length ends → IsSome (slot_at after i).item → IsListed after (length now) numbers i
    other_still i not_list not_free some =
        let same : slot_at after i ≡ slot_at slots i = m.stay i not_list not_free in
        let was : IsListed slots (length ends) k.numbers i = k.all_listed i (subst (λ (s : Slot J). IsSome s.item) same some) in
        let own : k.owner i ≡ (slot_at slots i).tenant = k.owned (slot_at slots i).tenant i (omega (arith, was.known)) was.stands in
        let tenant : (slot_at after i).tenant ≡ (slot_at slots i).tenant = ap (λ (s : Slot J). s.tenant) same in
        record {
          known = omega (arith, tenant, was.known, m.tenants);
          stands = subst (λ v. StandsIn i (numbers v)) (sym tenant) (subst (StandsIn i) (sym (numbers_other (slot_at slots i).tenant (λ e. not_list (own ∙ e)) was.known)) was.stands);
        }

    -- a slot of the tenant's list, or a free one
    own_listed : (i : ℕ) → (k.owner i ≡ t) ⊎ (k.owner i ≡ length ends) → IsSome (slot_at after i).item → IsListed after (length now) numbers i
    own_listed i own some =
        let found : ((slot_at after i).tenant ≡ t) × StandsIn i m.list = m.all_listed i own some in
        record {
          known = omega (arith, found.0, m.known, m.tenants);
          stands = subst (λ v. StandsIn i (numbers v)) (sym found.0) (subst (StandsIn i) (sym numbers_list) found.1);
        }

    moved_listed : (i : ℕ) → IsSome (slot_at after i).item → IsListed after (length now) numbers i
    moved_listed i some = elim (cases_eq (k.owner i) t) [
      | inl e ↦ own_listed i (inl e) some
      | inr not_list ↦ elim (cases_eq (k.owner i) (length ends)) [
        | inl e ↦ own_listed i (inr e) some
        | inr not_free ↦ other_still i not_list not_free some
      ]
    ]

    pub keeps_moved : Keeps after now link
    keeps_moved = record {
      owner = m.owner;
      numbers = numbers;
      owned = λ u i le h. elim (cases_eq u (length ends)) [
        | inl e ↦ m.rest_owned i (subst (StandsIn i) (ap numbers e ∙ numbers_free) h) ∙ sym e
        | inr high ↦ elim (cases_eq u t) [
          | inl e ↦ m.list_owned i (subst (StandsIn i) (ap numbers e ∙ numbers_list) h) ∙ sym e
          | inr ne ↦
              let lt : u < length ends = omega (arith, le, m.tenants, high) in
              let own : k.owner i ≡ u = k.owned u i (omega arith) (subst (StandsIn i) (numbers_other u ne lt) h) in
              m.same_owner i (λ f. ne (sym own ∙ f)) (λ f. high (sym own ∙ f)) ∙ own
        ]
      ];
      listed = λ u lt. elim (cases_eq u t) [
        | inl e ↦ subst (λ v. AreListOf after (get_or now v None) (numbers v)) (sym e) (subst (AreListOf after (get_or now t None)) (sym numbers_list) m.listed)
        | inr ne ↦ let known : u < length ends = omega (arith, lt, m.tenants) in subst (AreListOf after (get_or now u None)) (sym (numbers_other u ne known)) (other_listed u ne known)
      ];
      all_listed = moved_listed;
      spare = subst (AreLinked after link) (sym (ap numbers m.tenants ∙ numbers_free)) m.spare;
      short = λ u lt. elim (cases_eq u t) [
        | inl e ↦ omega (arith, ap (λ v. length (numbers v)) e, ap (λ (l : List ℕ). length l) numbers_list, short_list, m.size)
        | inr ne ↦ let known : u < length ends = omega (arith, lt, m.tenants) in omega (arith, ap (λ (l : List ℕ). length l) (numbers_other u ne known), k.short u known, m.size)
      ];
      total = omega (arith, ap (λ v. length (numbers v)) m.tenants, ap (λ (l : List ℕ). length l) numbers_free, count_moved, m.size);
    }
