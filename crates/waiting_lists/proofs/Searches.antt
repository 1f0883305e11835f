-- The rest of a cell's chain in a search.
use Rattle.std.proofs.Common.{◌≡◌, ◌≢◌, ℕ, ◌<◌, ◌%◌, List, [], ◌∷◌, Option, Some, None, true, false, eqb, length, get_or, refl, sym, ap, ◌∙◌, subst, inl, inr}
use Rattle.std.specs.Option.{option_eq}
use Rattle.std.proofs.Math.Nat.{mod-lt}
use Rattle.std.proofs.lemmas.Bool.{false≢true, eqb-true, eq-eqb}
use Rattle.waiting_lists.specs.declared.links.Slot.{Slot}
use Rattle.waiting_lists.specs.Linked.{StandsIn, slot_at}
use Rattle.waiting_lists.specs.Cells.{number_at, AreOfCell, KeepsIndex, IsChainFrom, IsBeforeIn, NoneLeadsTo}
use Rattle.waiting_lists.proofs.Chains.{some_is, none_not_some, linked_one}
use Rattle.waiting_lists.proofs.Walks.{walk, nearer}

-- a test of a number that may be there against another
pub same_some : (o : Option ℕ) (x : ℕ) → true ≡ option_eq eqb o (Some x) → o ≡ Some x
same_some None x e = absurd (false≢true (sym e))
same_some (Some y) x e = ap Some (eqb-true y x (sym e))

pub other_some : (o : Option ℕ) (x : ℕ) → false ≡ option_eq eqb o (Some x) → o ≢ Some x
other_some None x e is = none_not_some None x refl is
other_some (Some y) x e is = false≢true (e ∙ eq-eqb y x (some_is y x is))

module _ {J : Type 0} where
  -- the links of the cells
  abbrev pub cell_links : List (Slot J) → ℕ → Option ℕ
  cell_links slots i = (slot_at slots i).next_in_cell

  pub chain_step : (slots : List (Slot J)) (here : ℕ) (ns : List ℕ) → AreOfCell slots (Some here) ns → (rest : List ℕ) × (ns ≡ here ∷ rest) × (here < length slots) × AreOfCell slots (cell_links slots here) rest
  chain_step slots here [] p = absurd (none_not_some (Some here) here p refl)
  chain_step slots here (n ∷ ns) p =
      let is : n ≡ here = sym (some_is here n p.0) in
      (ns, ap (λ v. v ∷ ns) is, subst (λ v. v < length slots) is p.1, subst (λ v. AreOfCell slots (cell_links slots v) ns) is p.2)

  -- each slot with this number is behind here
  pub record IsLeft (slots : List (Slot J)) (request : ℕ) (at : Option ℕ) : Type 0 where
    pub rest : List ℕ
    pub chained : AreOfCell slots at rest
    pub all : (i : ℕ) → number_at slots i ≡ Some request → StandsIn i rest

  pub left_first : (cells : List (Option ℕ)) (slots : List (Slot J)) (request : ℕ) → 0 < length cells → KeepsIndex (number_at slots) cells slots → IsLeft slots request (get_or cells (request % length cells) None)
  left_first cells slots request some k = record {
    rest = k.chains (request % length cells);
    chained = k.chained (request % length cells) (mod-lt request some);
    all = λ i e. k.filed i request e;
  }

  module _ (slots : List (Slot J)) (request here : ℕ) (l : IsLeft slots request (Some here)) where
    pub left_bound : here < length slots
    left_bound =
        let found : (rest : List ℕ) × (l.rest ≡ here ∷ rest) × (here < length slots) × AreOfCell slots (cell_links slots here) rest = chain_step slots here l.rest l.chained in
        found.2

    -- where it is not here
    pub left_next : number_at slots here ≢ Some request → IsLeft slots request (cell_links slots here)
    left_next away =
        let found : (rest : List ℕ) × (l.rest ≡ here ∷ rest) × (here < length slots) × AreOfCell slots (cell_links slots here) rest = chain_step slots here l.rest l.chained in
        record {
          rest = found.0;
          chained = found.3;
          all = λ i e. elim (subst (StandsIn i) found.1 (l.all i e)) [
            | inl is ↦ absurd (away (ap (number_at slots) (sym is) ∙ e))
            | inr h ↦ h
          ];
        }

    pub left_nearer : length (walk (cell_links slots) (length slots) (cell_links slots here)) < length (walk (cell_links slots) (length slots) (Some here))
    left_nearer = nearer (cell_links slots) (length slots) (Some here) here l.rest refl l.chained

  pub none_stands : (slots : List (Slot J)) (ns : List ℕ) → AreOfCell slots None ns → (i : ℕ) → StandsIn i ns → ⊥
  none_stands slots [] p i h = h
  none_stands slots (n ∷ ns) p i h = none_not_some None n refl p.0

  pub left_none : (slots : List (Slot J)) (request : ℕ) → IsLeft slots request None → (i : ℕ) → number_at slots i ≢ Some request
  left_none slots request l i e = none_stands slots l.rest l.chained i (l.all i e)

  -- each slot of a cell that leads to this slot is behind here, and each slot behind here is of the cell
  pub record IsLeftOf (slots : List (Slot J)) (first : Option ℕ) (slot : ℕ) (at : Option ℕ) : Type 0 where
    pub rest : List ℕ
    pub chained : AreOfCell slots at rest
    pub within : (chain : List ℕ) → AreOfCell slots first chain → (i : ℕ) → StandsIn i rest → StandsIn i chain
    pub all : (chain : List ℕ) → AreOfCell slots first chain → (i : ℕ) → StandsIn i chain → cell_links slots i ≡ Some slot → StandsIn i rest

  pub left_of_first : (slots : List (Slot J)) (first : Option ℕ) (slot : ℕ) → IsChainFrom slots first → IsLeftOf slots first slot first
  left_of_first slots first slot c = record {
    rest = c.0;
    chained = c.1;
    within = λ chain p i h. subst (StandsIn i) (linked_one (cell_links slots) (length slots) first c.0 chain c.1 p) h;
    all = λ chain p i h e. subst (StandsIn i) (linked_one (cell_links slots) (length slots) first chain c.0 p c.1) h;
  }

  module _ (slots : List (Slot J)) (first : Option ℕ) (slot here : ℕ) (l : IsLeftOf slots first slot (Some here)) where
    found_of : (rest : List ℕ) × (l.rest ≡ here ∷ rest) × (here < length slots) × AreOfCell slots (cell_links slots here) rest
    found_of = chain_step slots here l.rest l.chained

    pub left_of_bound : here < length slots
    left_of_bound = found_of.2

    -- it is in the chain
    pub left_of_found : cell_links slots here ≡ Some slot → IsBeforeIn slots first here slot
    left_of_found e chain p = (l.within chain p here (subst (StandsIn here) (sym found_of.1) (inl refl)), e)

    -- where it does not lead there
    pub left_of_next : cell_links slots here ≢ Some slot → IsLeftOf slots first slot (cell_links slots here)
    left_of_next away = record {
      rest = found_of.0;
      chained = found_of.3;
      within = λ chain p i h. l.within chain p i (subst (StandsIn i) (sym found_of.1) (inr h));
      all = λ chain p i h e. elim (subst (StandsIn i) found_of.1 (l.all chain p i h e)) [
        | inl is ↦ absurd (away (ap (cell_links slots) (sym is) ∙ e))
        | inr h ↦ h
      ];
    }

    pub left_of_nearer : length (walk (cell_links slots) (length slots) (cell_links slots here)) < length (walk (cell_links slots) (length slots) (Some here))
    left_of_nearer = nearer (cell_links slots) (length slots) (Some here) here l.rest refl l.chained

  pub left_of_none : (slots : List (Slot J)) (first : Option ℕ) (slot : ℕ) → IsLeftOf slots first slot None → NoneLeadsTo slots first slot
  left_of_none slots first slot l chain p i h e = none_stands slots l.rest l.chained i (l.all chain p i h e)
