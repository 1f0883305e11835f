-- A slot that comes into the index or goes out of it.
use Rattle.std.proofs.Common.{◌≡◌, ◌≢◌, ℕ, ◌<◌, ◌≤◌, ◌%◌, List, ◌∷◌, Option, Some, None, IsSomeAnd, cond, eqb, length, get_or, set, option_map, arith, refl, sym, ap, ◌∙◌, subst, inl, inr}
use Rattle.std.proofs.Math.Nat.{mod-lt}
use Rattle.std.proofs.lemmas.Bool.{cases_eq, cases_lt, cond-true, cond-false, eq-eqb, ne_eqb}
use Rattle.std.proofs.lemmas.List.{get_or-set_same, get_or-set_other, get_or_past, length-set}
use Rattle.waiting_lists.specs.declared.links.Slot.{Slot}
use Rattle.waiting_lists.specs.Linked.{empty_slot, StandsIn, slot_at}
use Rattle.waiting_lists.specs.Cells.{number_at, without, AreOfCell, KeepsIndex, SameLists, LeadsInCell}
use Rattle.waiting_lists.proofs.Chains.{some_is, none_not_some, linked_stays}
use Rattle.waiting_lists.proofs.Leads.{kept_by, read_at}
use Rattle.waiting_lists.proofs.Slots.{slot_at_other}
use Rattle.waiting_lists.proofs.Searches.{cell_links}
use Rattle.waiting_lists.proofs.Owners.{updated, updated_same, updated_other}

pub without_it : (slot : ℕ) (numbers : ℕ → Option ℕ) → without slot numbers slot ≡ None
without_it slot numbers = cond-true (eqb slot slot) None (numbers slot) (eq-eqb slot slot refl)

pub without_other : (slot : ℕ) (numbers : ℕ → Option ℕ) (i : ℕ) → i ≢ slot → without slot numbers i ≡ numbers i
without_other slot numbers i ne = cond-false (eqb i slot) None (numbers i) (ne_eqb i slot ne)

pub without_same : (slot : ℕ) (numbers now : ℕ → Option ℕ) → ((i : ℕ) → now i ≡ numbers i) → (i : ℕ) → without slot now i ≡ without slot numbers i
without_same slot numbers now same i = ap (cond (eqb i slot) None) (same i)

of_cell_some : (o : Option ℕ) (P : ℕ → Type 0) → o ≡ None → IsSomeAnd o P → ⊥
of_cell_some None P e h = h
of_cell_some (Some x) P e h = none_not_some (Some x) x e refl

module _ {J : Type 0} where
  -- a slot without a number is in no chain
  pub not_held : (numbers : ℕ → Option ℕ) (cells : List (Option ℕ)) (slots : List (Slot J)) (k : KeepsIndex numbers cells slots) (cell i : ℕ) → cell < length cells → numbers i ≡ None → StandsIn i (k.chains cell) → ⊥
  not_held numbers cells slots k cell i lt none h = of_cell_some (numbers i) (λ n. n % length cells ≡ cell) none (k.held cell i lt h)

  -- the index stays where the numbers and the links of slots with numbers stay
  pub index_stays : (numbers now : ℕ → Option ℕ) (cells : List (Option ℕ)) (slots after : List (Slot J)) → KeepsIndex numbers cells slots → length slots ≤ length after → ((i : ℕ) → now i ≡ numbers i) → ((i : ℕ) → (numbers i ≡ None → ⊥) → cell_links after i ≡ cell_links slots i) → KeepsIndex now cells after
  index_stays numbers now cells slots after k size same links = record {
    chains = k.chains;
    chained = λ cell lt. linked_stays (cell_links slots) (cell_links after) (length slots) (length after) (get_or cells cell None) (k.chains cell) size (λ i h. links i (λ none. not_held numbers cells slots k cell i lt none h)) (k.chained cell lt);
    filed = λ i n e. k.filed i n (sym (same i) ∙ e);
    held = λ cell i lt h. subst (λ o. IsSomeAnd o (λ n. n % length cells ≡ cell)) (sym (same i)) (k.held cell i lt h);
  }

  -- slots that were led elsewhere in their cells
  module _ (slots after : List (Slot J)) (slot : ℕ) (next : Option ℕ) (lt : slot < length slots) (leads : LeadsInCell slots slot next after) where
    abbrev written : Slot J
    written = record (slot_at slots slot) { next_in_cell = next }

    kept : {X : Type 0} (f : Slot J → X) → f written ≡ f (slot_at slots slot) → (i : ℕ) → f (slot_at after i) ≡ f (slot_at slots i)
    kept f same i = ap (λ (l : List (Slot J)). f (slot_at l i)) leads ∙ kept_by slots slot written lt f same i

    pub led_same : SameLists slots after
    led_same = record {
      items = kept (λ (s : Slot J). s.item) refl;
      tenants = kept (λ (s : Slot J). s.tenant) refl;
      befores = kept (λ (s : Slot J). s.before) refl;
      nexts = kept (λ (s : Slot J). s.next) refl;
    }

    pub led_size : length after ≡ length slots
    led_size = ap (λ (l : List (Slot J)). length l) leads ∙ length-set slots slot written

    pub led_at : cell_links after slot ≡ next
    led_at = ap (λ (l : List (Slot J)). cell_links l slot) leads ∙ read_at slots slot written lt (λ (s : Slot J). s.next_in_cell) slot refl

    pub led_other : (i : ℕ) → i ≢ slot → cell_links after i ≡ cell_links slots i
    led_other i ne = ap (λ (l : List (Slot J)). cell_links l i) leads ∙ ap (λ (s : Slot J). s.next_in_cell) (slot_at_other slots slot i written ne)

  pub same_refl : (slots : List (Slot J)) → SameLists slots slots
  same_refl slots = record { items = λ i. refl; tenants = λ i. refl; befores = λ i. refl; nexts = λ i. refl }

  pub same_number : (slots after : List (Slot J)) → SameLists slots after → (i : ℕ) → number_at after i ≡ number_at slots i
  same_number slots after same i = ap (λ o. option_map (λ x. x.request) o) (same.items i)

  -- one slot more
  module _ (numbers : ℕ → Option ℕ) (cells : List (Option ℕ)) (slots after : List (Slot J)) (slot request : ℕ) (some : 0 < length cells) (lt : slot < length slots) (is : numbers slot ≡ Some request) (k : KeepsIndex (without slot numbers) cells slots) (size : length after ≡ length slots) (first : cell_links after slot ≡ get_or cells (request % length cells) None) (others : (i : ℕ) → i ≢ slot → cell_links after i ≡ cell_links slots i) where
    abbrev cell : ℕ
    cell = request % length cells

    abbrev cells_now : List (Option ℕ)
    cells_now = set cells cell (Some slot)

    abbrev chains_now : ℕ → List ℕ
    chains_now = updated k.chains cell (slot ∷ k.chains cell)

    cell_bound : cell < length cells
    cell_bound = mod-lt request some

    size_now : length cells_now ≡ length cells
    size_now = length-set cells cell (Some slot)

    slot_apart : (c i : ℕ) → c < length cells → StandsIn i (k.chains c) → i ≢ slot
    slot_apart c i lt h e = not_held (without slot numbers) cells slots k c slot lt (without_it slot numbers) (subst (λ v. StandsIn v (k.chains c)) e h)

    stays : (c : ℕ) → c < length cells → (at : Option ℕ) → AreOfCell slots at (k.chains c) → AreOfCell after at (k.chains c)
    stays c lt at p = linked_stays (cell_links slots) (cell_links after) (length slots) (length after) at (k.chains c) (omega (arith, size)) (λ i h. others i (slot_apart c i lt h)) p

    chained_here : AreOfCell after (get_or cells_now cell None) (chains_now cell)
    chained_here =
        subst (AreOfCell after (get_or cells_now cell None)) (sym (updated_same k.chains cell (slot ∷ k.chains cell))) (
          get_or-set_same cells cell (Some slot) None cell_bound,
          omega (arith, size, lt),
          subst (λ o. AreOfCell after o (k.chains cell)) (sym first) (stays cell cell_bound (get_or cells cell None) (k.chained cell cell_bound)),
        )

    chained_there : (c : ℕ) → c < length cells → c ≢ cell → AreOfCell after (get_or cells_now c None) (chains_now c)
    chained_there c lt ne =
        subst (AreOfCell after (get_or cells_now c None)) (sym (updated_other k.chains cell (slot ∷ k.chains cell) c ne))
        (subst (λ o. AreOfCell after o (k.chains c)) (sym (get_or-set_other cells cell c (Some slot) None ne)) (stays c lt (get_or cells c None) (k.chained c lt)))

    -- where it stood it stands
    grown : (c i : ℕ) → StandsIn i (k.chains c) → StandsIn i (chains_now c)
    grown c i h = elim (cases_eq c cell) [
      | inl e ↦ subst (λ v. StandsIn i (chains_now v)) (sym e) (subst (StandsIn i) (sym (updated_same k.chains cell (slot ∷ k.chains cell))) (inr (subst (λ v. StandsIn i (k.chains v)) e h)))
      | inr ne ↦ subst (StandsIn i) (sym (updated_other k.chains cell (slot ∷ k.chains cell) c ne)) h
    ]

    filed_now : (i n : ℕ) → numbers i ≡ Some n → StandsIn i (chains_now (n % length cells))
    filed_now i n e = elim (cases_eq i slot) [
      | inl at ↦
          let number : n ≡ request = some_is n request (sym e ∙ ap numbers at ∙ is) in
          subst (λ v. StandsIn i (chains_now (v % length cells))) (sym number) (subst (StandsIn i) (sym (updated_same k.chains cell (slot ∷ k.chains cell))) (inl at))
      | inr ne ↦ grown (n % length cells) i (k.filed i n (without_other slot numbers i ne ∙ e))
    ]

    held_old : (c i : ℕ) → c < length cells → StandsIn i (k.chains c) → IsSomeAnd (numbers i) (λ n. n % length cells ≡ c)
    held_old c i lt h = subst (λ o. IsSomeAnd o (λ n. n % length cells ≡ c)) (without_other slot numbers i (slot_apart c i lt h)) (k.held c i lt h)

    held_now : (c i : ℕ) → c < length cells → StandsIn i (chains_now c) → IsSomeAnd (numbers i) (λ n. n % length cells ≡ c)
    held_now c i lt h = elim (cases_eq c cell) [
      | inl e ↦ elim (subst (StandsIn i) (ap chains_now e ∙ updated_same k.chains cell (slot ∷ k.chains cell)) h) [
        | inl at ↦ subst (λ v. IsSomeAnd (numbers v) (λ n. n % length cells ≡ c)) (sym at) (subst (λ o. IsSomeAnd o (λ n. n % length cells ≡ c)) (sym is) (sym e))
        | inr was ↦ held_old c i lt (subst (λ v. StandsIn i (k.chains v)) (sym e) was)
      ]
      | inr ne ↦ held_old c i lt (subst (StandsIn i) (updated_other k.chains cell (slot ∷ k.chains cell) c ne) h)
    ]

    pub filed_keeps : KeepsIndex numbers cells_now after
    filed_keeps = record {
      chains = chains_now;
      chained = λ c lt. elim (cases_eq c cell) [
        | inl e ↦ subst (λ v. AreOfCell after (get_or cells_now v None) (chains_now v)) (sym e) chained_here
        | inr ne ↦ chained_there c (omega (arith, lt, size_now)) ne
      ];
      filed = λ i n e. subst (λ v. StandsIn i (chains_now (n % v))) (sym size_now) (filed_now i n e);
      held = λ c i lt h. subst (λ v. IsSomeAnd (numbers i) (λ n. n % v ≡ c)) (sym size_now) (held_now c i (omega (arith, lt, size_now)) h);
    }

  -- a slot with a number is one of the slots
  pub number_bound : (slots : List (Slot J)) (slot n : ℕ) → number_at slots slot ≡ Some n → slot < length slots
  number_bound slots slot n e = elim (cases_lt slot (length slots)) [
    | inl lt ↦ lt
    | inr le ↦ absurd (none_not_some (number_at slots slot) n (ap (λ (s : Slot J). option_map (λ x. x.request) s.item) (get_or_past slots slot empty_slot le)) e)
  ]

  -- the index after `file`
  pub file_keeps : (cells : List (Option ℕ)) (slots after : List (Slot J)) (slot request : ℕ) → 0 < length cells → number_at slots slot ≡ Some request → KeepsIndex (without slot (number_at slots)) cells slots → LeadsInCell slots slot (get_or cells (request % length cells) None) after → KeepsIndex (number_at after) (set cells (request % length cells) (Some slot)) after
  file_keeps cells slots after slot request some held k leads =
      let first : Option ℕ = get_or cells (request % length cells) None in
      let lt : slot < length slots = number_bound slots slot request held in
      let same : SameLists slots after = led_same slots after slot first lt leads in
      let numbers : (i : ℕ) → number_at after i ≡ number_at slots i = same_number slots after same in
      filed_keeps (number_at after) cells slots after slot request some lt (numbers slot ∙ held)
      (index_stays (without slot (number_at slots)) (without slot (number_at after)) cells slots slots k (omega arith) (without_same slot (number_at slots) (number_at after) numbers) (λ i held. refl))
      (led_size slots after slot first lt leads) (led_at slots after slot first lt leads) (led_other slots after slot first lt leads)
