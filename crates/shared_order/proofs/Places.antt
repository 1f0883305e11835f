-- The place of a head in a sorted list.
use Rattle.std.proofs.Common.{ℕ, suc, Bool, true, false, ◌≡◌, ◌+◌, ◌<◌, ◌≤◌, List, ◌∷◌, ◌++◌, length, get_or, take, drop, inl, inr, ◌||◌, ◌&&◌, int_lt, int_eq, nat_lt, arith, refl, sym, ◌∙◌, ap, subst, length-take, length-drop}
use Rattle.std.specs.Bool.{IsTrue}
use Rattle.std.specs.List.{All, Contains}
use Rattle.std.specs.List.Sorted.{IsPartitionedBy, IsPartitionPoint}
use Rattle.std.proofs.lemmas.Int.{ints}
use Rattle.std.proofs.lemmas.Bool.{cases_order, cases_Bool}
use Rattle.std.proofs.lemmas.List.{get_or-take, get_or-drop, take-append-drop}
use Rattle.shared_order.specs.Heads.{HeadView, HeadBefore, IsSorted, IsPlaceOf}
use Rattle.std.proofs.Math.Seq.{drop-cons}
use Rattle.shared_order.proofs.Sorting.{before_goes_on, not_itself, AndBack}

-- the test of the order
abbrev pub precedes : HeadView → HeadView → Bool
precedes a b = int_lt a.finish b.finish || (int_eq a.finish b.finish && nat_lt a.request b.request)

pub precedes_true : (a b : HeadView) → precedes a b ≡ true → HeadBefore a b
precedes_true a b h = grind (arith, ints)

pub precedes_false : (a b : HeadView) → precedes a b ≡ false → ¬ HeadBefore a b
precedes_false a b h = λ p. grind (arith, ints)

pub precedes_back : (a b : HeadView) → HeadBefore a b → precedes a b ≡ true
precedes_back a b h = grind (arith, ints)

pub precedes_is : (a b : HeadView) (r : Bool) → AndBack (IsTrue r) (HeadBefore a b) → r ≡ precedes a b
precedes_is a b true h = let p = h.0 refl in grind (arith, ints)
precedes_is a b false h = elim (cases_Bool (precedes a b)) [
  | inl e ↦ absurd (let p = h.1 (precedes_true a b e) in cc)
  | inr e ↦ sym e
]

-- where a test parts a list
pub record IsPlace {X : Type 0} (P Q : X → Type 0) (xs : List X) (at : ℕ) : Type 0 where
  pub front : All P (take at xs)
  pub back : All Q (drop at xs)

pub place : {X : Type 0} (P Q : X → Type 0) (xs : List X) (at : ℕ) → at ≤ length xs → IsPartitionPoint P Q xs at → IsPlace P Q xs at
place P Q xs at le h = record {
  front = λ k d l.
      let n = length-take at xs in
      subst P (sym (get_or-take at xs k d (omega arith))) (h.0 k d (omega arith) (omega arith));
  back = λ k d l.
      let n = length-drop at xs in
      subst Q (sym (get_or-drop at xs k d)) (h.1 (at + k) d (omega arith) (omega arith));
}

-- a sorted list is parted by where a head would stand
pub parted : (h : HeadView) (xs : List HeadView) → IsSorted xs → IsPartitionedBy (λ y. precedes y h) xs
parted h xs s i j d le lt e =
    let b = precedes_true (get_or xs j d) h e in
    elim (cases_order i j) [
      | inl same ↦ subst (λ i. precedes (get_or xs i d) h ≡ true) (sym same) e
      | inr o ↦ elim o [
        | inl less ↦ precedes_back (get_or xs i d) h (before_goes_on (get_or xs i d) (get_or xs j d) h (s i j d less lt) b)
        | inr more ↦ absurd (omega arith)
      ]
    ]

-- a head of the list is at its place
pub found : (h : HeadView) (xs : List HeadView) (at : ℕ) → IsSorted xs → IsPlaceOf h xs at → Contains xs h → (at < length xs) × (get_or xs at h ≡ h)
found h xs at s p (k, l, e) =
    let n = length-take at xs in
    let m = length-drop at xs in
    elim (cases_order k at) [
      | inl same ↦ (omega arith, subst (λ i. get_or xs i h ≡ h) same e)
      | inr o ↦ elim o [
        | inl less ↦
            let b = p.before k h (omega arith) in
            let c : HeadBefore (get_or xs k h) h = subst (λ y. HeadBefore y h) (get_or-take at xs k h less) b in
            absurd (not_itself h (subst (λ y. HeadBefore y h) e c))
        | inr more ↦
            let b = s at k h more l in
            let c : HeadBefore (get_or xs at h) h = subst (HeadBefore (get_or xs at h)) e b in
            let d : HeadBefore (get_or (drop at xs) 0 h) h = subst (λ y. HeadBefore y h) (sym (get_or-drop at xs 0 h ∙ ap (λ i. get_or xs i h) (omega arith))) c in
            absurd (p.rest 0 h (omega arith) d)
      ]
    ]

-- the heads before a place and behind it
pub around : (h : HeadView) (xs : List HeadView) (at : ℕ) → at < length xs → get_or xs at h ≡ h → xs ≡ take at xs ++ h ∷ drop (suc at) xs
around h xs at l e = sym (take-append-drop at xs) ∙ ap (λ t. take at xs ++ t) (drop-cons xs at h l ∙ ap (λ y. y ∷ drop (suc at) xs) e)

pub found_at : (xs ds ns : List HeadView) (h : HeadView) (at : ℕ) → ds ≡ xs → xs ≡ ns → IsSorted xs → IsPlaceOf h ds at → Contains ns h → (at < length xs) × (get_or xs at h ≡ h)
found_at xs ds ns h at d n s place there = found h xs at s (subst (λ l. IsPlaceOf h l at) d place) (subst (λ l. Contains l h) (sym n) there)
