-- The trees of all workers, written one after another.
use Rattle.std.proofs.Common.{ℕ, ◌+◌, ◌≡◌, ◌<◌, ◌≤◌, List, length, set, arith, refl, sym, ap, ◌∙◌, subst, inl, inr}
use Rattle.std.proofs.lemmas.Bool.{cases_eq}
use Rattle.std.proofs.lemmas.List.{get_or-set_same, get_or-set_other, length-set}
use Rattle.eligible_index.specs.Trees.{TreesView}
use Rattle.eligible_index.specs.Index.{trees_of}

-- the trees of workers below i are changed, and all others are as before
pub record IsChangedTo (change : TreesView → TreesView) (before now : List TreesView) (i : ℕ) : Type 0 where
  pub sized : length now ≡ length before
  pub changed : (j : ℕ) → j < i → j < length before → trees_of now j ≡ change (trees_of before j)
  pub others : (j : ℕ) → i ≤ j → trees_of now j ≡ trees_of before j

pub changed_first : (change : TreesView → TreesView) (trees : List TreesView) → IsChangedTo change trees trees 0
changed_first change trees = record { sized = refl; changed = λ j lt b. absurd (omega (arith, lt)); others = λ j le. refl }

pub changed_next : (change : TreesView → TreesView) (before now : List TreesView) (i : ℕ) (w : TreesView) → i < length before → w ≡ change (trees_of now i) → IsChangedTo change before now i → IsChangedTo change before (set now i w) (i + 1)
changed_next change before now i w lt e h = record {
  sized = length-set now i w ∙ h.sized;
  changed = λ j below b. elim (cases_eq j i) [
    | inl same ↦ subst (λ k. trees_of (set now i w) k ≡ change (trees_of before k)) (sym same) (get_or-set_same now i w _ (omega (arith, h.sized, lt)) ∙ (e ∙ ap change (h.others i (omega arith))))
    | inr ne ↦ get_or-set_other now i j w _ ne ∙ h.changed j (omega (arith, below, ne)) b
  ];
  others = λ j le. get_or-set_other now i j w _ (λ same. omega (arith, le, same)) ∙ h.others j (omega (arith, le));
}

pub changed_last : (change : TreesView → TreesView) (before now : List TreesView) (i : ℕ) → length before ≤ i → IsChangedTo change before now i → (length now ≡ length before) × ((j : ℕ) → j < length before → trees_of now j ≡ change (trees_of before j))
changed_last change before now i le h = (h.sized, λ j lt. h.changed j (omega (arith, lt, le)) lt)
