-- A slot that goes out of the index.
use Rattle.std.proofs.Common.{◌≡◌, ◌≢◌, ℕ, ◌<◌, ◌%◌, List, [], ◌∷◌, ◌++◌, Option, Some, None, IsSomeAnd, length, get_or, set, arith, refl, sym, ap, ◌∙◌, subst, inl, inr}
use Rattle.std.proofs.Math.Nat.{mod-lt}
use Rattle.std.proofs.lemmas.Bool.{cases_eq}
use Rattle.std.proofs.lemmas.List.{get_or-set_same, get_or-set_other, length-set}
use Rattle.waiting_lists.specs.declared.links.Slot.{Slot}
use Rattle.waiting_lists.specs.Linked.{StandsIn, AreChained}
use Rattle.waiting_lists.specs.Cells.{number_at, without, AreOfCell, KeepsIndex, SameLists, IsBeforeIn, NoneLeadsTo, LeadsInCell}
use Rattle.waiting_lists.proofs.Chains.{some_is, none_not_some, stands_at, stands_within, stands_beside, once, next_behind, one_leads, first_if, linked_bound, linked_stays}
use Rattle.waiting_lists.proofs.Unlinked.{past, past_it, past_other, unlinked}
use Rattle.waiting_lists.proofs.Searches.{cell_links}
use Rattle.waiting_lists.proofs.Owners.{updated, updated_same, updated_other}
use Rattle.waiting_lists.proofs.Filed.{without_it, without_other, without_same, index_stays, led_same, led_size, led_at, led_other, same_number}

some_and_same : (o : Option ℕ) (f : ℕ → ℕ) (c d : ℕ) → IsSomeAnd o (λ n. f n ≡ c) → IsSomeAnd o (λ n. f n ≡ d) → c ≡ d
some_and_same None f c d p q = absurd p
some_and_same (Some n) f c d p q = sym p ∙ q

module _ {J : Type 0} (numbers : ℕ → Option ℕ) (cells : List (Option ℕ)) (slots : List (Slot J)) (slot request : ℕ) (some : 0 < length cells) (is : numbers slot ≡ Some request) (k : KeepsIndex numbers cells slots) where
  abbrev cell : ℕ
  cell = request % length cells

  abbrev next : Option ℕ
  next = cell_links slots slot

  abbrev first : Option ℕ
  first = get_or cells cell None

  cell_bound : cell < length cells
  cell_bound = mod-lt request some

  pub chain_is : AreOfCell slots first (k.chains cell)
  chain_is = k.chained cell cell_bound

  slot_stands : StandsIn slot (k.chains cell)
  slot_stands = k.filed slot request is

  -- the chain of its cell past it, and all else as before
  pub record IsStruck (cells2 : List (Option ℕ)) (after : List (Slot J)) : Type 0 where
    pub size : length after ≡ length slots
    pub cells_size : length cells2 ≡ length cells
    pub here : get_or cells2 cell None ≡ past slot next first
    pub there : (c : ℕ) → c ≢ cell → get_or cells2 c None ≡ get_or cells c None
    pub links : (i : ℕ) → StandsIn i (k.chains cell) → i ≢ slot → cell_links after i ≡ past slot next (cell_links slots i)
    pub others : (i : ℕ) → (StandsIn i (k.chains cell) → ⊥) → cell_links after i ≡ cell_links slots i

  module _ (cells2 : List (Option ℕ)) (after : List (Slot J)) (d : IsStruck cells2 after) (front rest : List ℕ) (split : k.chains cell ≡ front ++ slot ∷ rest) where
    abbrev chains_now : ℕ → List ℕ
    chains_now = updated k.chains cell (front ++ rest)

    now_here : chains_now cell ≡ front ++ rest
    now_here = updated_same k.chains cell (front ++ rest)

    now_there : (c : ℕ) → c ≢ cell → chains_now c ≡ k.chains c
    now_there c ne = updated_other k.chains cell (front ++ rest) c ne

    chain : AreOfCell slots first (front ++ slot ∷ rest)
    chain = subst (AreOfCell slots first) split chain_is

    apart : (i : ℕ) → StandsIn i (front ++ rest) → i ≢ slot
    apart i h e = once (cell_links slots) (length slots) first front slot rest chain (subst (λ v. StandsIn v (front ++ rest)) e h)

    was_here : (i : ℕ) → StandsIn i (front ++ rest) → StandsIn i (k.chains cell)
    was_here i h = subst (StandsIn i) (sym split) (stands_within i slot front rest h)

    chained_here : AreOfCell after (get_or cells2 cell None) (chains_now cell)
    chained_here =
        let shorter : AreChained (cell_links after) (length slots) (past slot next first) (front ++ rest) = unlinked (cell_links slots) (cell_links after) (length slots) first front slot rest (λ i h. d.links i (was_here i h) (apart i h)) chain in
        subst (AreOfCell after (get_or cells2 cell None)) (sym now_here)
        (subst (λ b. AreChained (cell_links after) b (get_or cells2 cell None) (front ++ rest)) (sym d.size) (subst (λ o. AreChained (cell_links after) (length slots) o (front ++ rest)) (sym d.here) shorter))

    -- a slot is of one cell
    one_cell : (c i : ℕ) → c < length cells → c ≢ cell → StandsIn i (k.chains c) → StandsIn i (k.chains cell) → ⊥
    one_cell c i lt ne h g = ne (some_and_same (numbers i) (λ n. n % length cells) c cell (k.held c i lt h) (k.held cell i cell_bound g))

    chained_there : (c : ℕ) → c < length cells → c ≢ cell → AreOfCell after (get_or cells2 c None) (chains_now c)
    chained_there c lt ne =
        subst (AreOfCell after (get_or cells2 c None)) (sym (now_there c ne))
        (subst (λ o. AreOfCell after o (k.chains c)) (sym (d.there c ne)) (linked_stays (cell_links slots) (cell_links after) (length slots) (length after) (get_or cells c None) (k.chains c) (omega (arith, d.size)) (λ i h. d.others i (one_cell c i lt ne h)) (k.chained c lt)))

    filed_now : (i n : ℕ) → without slot numbers i ≡ Some n → StandsIn i (chains_now (n % length cells))
    filed_now i n e = elim (cases_eq i slot) [
      | inl at ↦ absurd (none_not_some (without slot numbers i) n (ap (without slot numbers) at ∙ without_it slot numbers) e)
      | inr ne ↦
          let was : StandsIn i (k.chains (n % length cells)) = k.filed i n (sym (without_other slot numbers i ne) ∙ e) in
          elim (cases_eq (n % length cells) cell) [
            | inl c ↦ subst (λ v. StandsIn i (chains_now v)) (sym c) (subst (StandsIn i) (sym now_here) (stands_beside i slot front rest (subst (StandsIn i) (ap k.chains c ∙ split) was) ne))
            | inr c ↦ subst (StandsIn i) (sym (now_there (n % length cells) c)) was
          ]
    ]

    held_old : (c i : ℕ) → c < length cells → i ≢ slot → StandsIn i (k.chains c) → IsSomeAnd (without slot numbers i) (λ n. n % length cells ≡ c)
    held_old c i lt ne h = subst (λ o. IsSomeAnd o (λ n. n % length cells ≡ c)) (sym (without_other slot numbers i ne)) (k.held c i lt h)

    held_now : (c i : ℕ) → c < length cells → StandsIn i (chains_now c) → IsSomeAnd (without slot numbers i) (λ n. n % length cells ≡ c)
    held_now c i lt h = elim (cases_eq c cell) [
      | inl e ↦
          let h : StandsIn i (front ++ rest) = subst (StandsIn i) (ap chains_now e ∙ now_here) h in
          held_old c i lt (apart i h) (subst (λ v. StandsIn i (k.chains v)) (sym e) (was_here i h))
      | inr ne ↦
          let h : StandsIn i (k.chains c) = subst (StandsIn i) (now_there c ne) h in
          held_old c i lt (λ e. one_cell c i lt ne h (subst (λ v. StandsIn v (k.chains cell)) (sym e) slot_stands)) h
    ]

    struck_at : KeepsIndex (without slot numbers) cells2 after
    struck_at = record {
      chains = chains_now;
      chained = λ c lt. elim (cases_eq c cell) [
        | inl e ↦ subst (λ v. AreOfCell after (get_or cells2 v None) (chains_now v)) (sym e) chained_here
        | inr ne ↦ chained_there c (omega (arith, lt, d.cells_size)) ne
      ];
      filed = λ i n e. subst (λ v. StandsIn i (chains_now (n % v))) (sym d.cells_size) (filed_now i n e);
      held = λ c i lt h. subst (λ v. IsSomeAnd (without slot numbers i) (λ n. n % v ≡ c)) (sym d.cells_size) (held_now c i (omega (arith, lt, d.cells_size)) h);
    }

  struck : (cells2 : List (Option ℕ)) (after : List (Slot J)) → IsStruck cells2 after → KeepsIndex (without slot numbers) cells2 after
  struck cells2 after d =
      let found : (front : List ℕ) × ((rest : List ℕ) × (k.chains cell ≡ front ++ slot ∷ rest)) = stands_at slot (k.chains cell) slot_stands in
      struck_at cells2 after d found.0 found.1.0 found.1.1

  -- where a slot leads to it
  module _ (before : ℕ) (found : IsBeforeIn slots first before slot) where
    before_stands : StandsIn before (k.chains cell)
    before_stands = (found (k.chains cell) chain_is).0

    before_leads : cell_links slots before ≡ Some slot
    before_leads = (found (k.chains cell) chain_is).1

    pub before_bound : before < length slots
    before_bound = linked_bound (cell_links slots) (length slots) first (k.chains cell) before chain_is before_stands

    not_first : (ns : List ℕ) → AreOfCell slots first ns → StandsIn before ns → first ≡ Some slot → ⊥
    not_first [] p h e = h
    not_first (n ∷ ns) p h e =
        let at : slot ≡ n = some_is slot n (sym e ∙ p.0) in
        once (cell_links slots) (length slots) first [] n ns p (subst (λ v. StandsIn v ns) at (next_behind (cell_links slots) (length slots) first n ns before slot p h before_leads))

    pub behind_keeps : (after : List (Slot J)) → LeadsInCell slots before next after → KeepsIndex (without slot numbers) cells after
    behind_keeps after leads = struck cells after (record {
      size = led_size slots after before next before_bound leads;
      cells_size = refl;
      here = sym (past_other slot next first (not_first (k.chains cell) chain_is before_stands));
      there = λ c ne. refl;
      links = λ i h ne. elim (cases_eq i before) [
        | inl e ↦ ap (cell_links after) e ∙ led_at slots after before next before_bound leads ∙ sym (past_it slot next (cell_links slots i) (ap (cell_links slots) e ∙ before_leads))
        | inr away ↦ led_other slots after before next before_bound leads i away ∙ sym (past_other slot next (cell_links slots i) (λ e. away (one_leads (cell_links slots) (length slots) first (k.chains cell) i before slot chain_is h before_stands e before_leads)))
      ];
      others = λ i not. led_other slots after before next before_bound leads i (λ e. not (subst (λ v. StandsIn v (k.chains cell)) (sym e) before_stands));
    })

  -- where none does
  pub first_keeps : NoneLeadsTo slots first slot → KeepsIndex (without slot numbers) (set cells cell next) slots
  first_keeps none =
      let none_leads : (i : ℕ) → StandsIn i (k.chains cell) → cell_links slots i ≢ Some slot = none (k.chains cell) chain_is in
      struck (set cells cell next) slots (record {
        size = refl;
        cells_size = length-set cells cell next;
        here = get_or-set_same cells cell next None cell_bound ∙ sym (past_it slot next first (first_if (cell_links slots) (length slots) first (k.chains cell) slot chain_is slot_stands none_leads));
        there = λ c ne. get_or-set_other cells cell c next None ne;
        links = λ i h ne. sym (past_other slot next (cell_links slots i) (none_leads i h));
        others = λ i not. refl;
      })

module _ {J : Type 0} (cells : List (Option ℕ)) (slots : List (Slot J)) (slot request : ℕ) (some : 0 < length cells) (held : number_at slots slot ≡ Some request) (k : KeepsIndex (number_at slots) cells slots) (read : Option ℕ) (read_is : read ≡ cell_links slots slot) where
  -- the index after `unfile`
  module _ (before : ℕ) (found : IsBeforeIn slots (get_or cells (request % length cells) None) before slot) where
    pub bound : before < length slots
    bound = before_bound (number_at slots) cells slots slot request some held k before found

    module _ (after : List (Slot J)) (leads : LeadsInCell slots before read after) where
      pub unfile_same : SameLists slots after
      unfile_same = led_same slots after before read bound leads

      pub unfile_behind : KeepsIndex (without slot (number_at after)) cells after
      unfile_behind =
          index_stays (without slot (number_at slots)) (without slot (number_at after)) cells after after
          (behind_keeps (number_at slots) cells slots slot request some held k before found after (subst (λ o. LeadsInCell slots before o after) read_is leads))
          (omega arith) (without_same slot (number_at slots) (number_at after) (same_number slots after unfile_same)) (λ i held. refl)

  pub unfile_first : NoneLeadsTo slots (get_or cells (request % length cells) None) slot → KeepsIndex (without slot (number_at slots)) (set cells (request % length cells) read) slots
  unfile_first none =
      subst (λ o. KeepsIndex (without slot (number_at slots)) (set cells (request % length cells) o) slots) (sym read_is)
      (first_keeps (number_at slots) cells slots slot request some held k none)
