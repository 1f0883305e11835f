-- Lists of the numbers that are noted.
use Rattle.std.proofs.Common.{ℕ, zero, suc, ◌+◌, ◌≡◌, ◌<◌, ◌≤◌, Bool, true, false, List, [], ◌∷◌, ◌++◌, All, Contains, length, replicate, get_or, set, take, drop, arith, refl, sym, ap, ◌∙◌, subst, inl, inr}
use Rattle.std.proofs.lemmas.Bool.{cases_eq, false≢true, cases_lt}
use Rattle.std.proofs.lemmas.List.{get_or-set_same, get_or-set_other, length-set, length_push, get_or_past, get_or-replicate, get_or_default, length-replicate, take_at}
use Rattle.std.proofs.lemmas.List.Elements.{All-push, Contains-append_left, Contains-push}
use Rattle.eligible_index.specs.Noted.{IsNoted, count_noted, AreListed, KeepsNoted}

-- a number that is noted is below the bound
noted_within : (flags : List Bool) (n : ℕ) → IsNoted flags n → n < length flags
noted_within flags n h = elim (cases_lt n (length flags)) [ inl lt ↦ lt | inr le ↦ absurd (false≢true (sym (get_or_past flags n false le) ∙ h)) ]

none_noted : (bound n : ℕ) → IsNoted (replicate bound false) n → ⊥
none_noted bound n h = elim (cases_lt n bound) [
  | inl lt ↦ false≢true (sym (get_or-replicate bound n false false lt) ∙ h)
  | inr le ↦ false≢true (sym (get_or_past (replicate bound false) n false (rw (length-replicate bound false) le)) ∙ h)
]

count_none : (bound : ℕ) → count_noted (replicate bound false) ≡ 0
count_none zero = refl
count_none (suc bound) = count_none bound

-- where nothing is noted the list is empty
pub lists_none : (bound : ℕ) → AreListed (replicate bound false) []
lists_none bound = record {
  counted = sym (count_none bound);
  known = λ k d lt. absurd (omega (arith, lt));
  listed = λ n h. absurd (none_noted bound n h);
}

count_set : (flags : List Bool) (n : ℕ) → n < length flags → get_or flags n false ≡ false → count_noted (set flags n true) ≡ suc (count_noted flags)
count_set [] n lt h = absurd (omega (arith, lt))
count_set (true ∷ flags) zero lt h = absurd (false≢true (sym h))
count_set (false ∷ flags) zero lt h = refl
count_set (true ∷ flags) (suc n) lt h = ap suc (count_set flags n (omega (arith, lt)) h)
count_set (false ∷ flags) (suc n) lt h = count_set flags n (omega (arith, lt)) h

count_few : (flags : List Bool) → count_noted flags ≤ length flags
count_few [] = omega arith
count_few (true ∷ flags) = omega (arith, count_few flags)
count_few (false ∷ flags) = omega (arith, count_few flags)

-- there is room for one that is not noted
pub has_room : (flags : List Bool) (numbers : List ℕ) (n : ℕ) → AreListed flags numbers → n < length flags → get_or flags n false ≡ false → length numbers < length flags
has_room flags numbers n h lt fresh = omega (arith, h.counted, count_set flags n lt fresh, count_few (set flags n true), length-set flags n true)

-- a number that was not noted is noted
pub lists_more : (flags : List Bool) (numbers : List ℕ) (n : ℕ) → AreListed flags numbers → n < length flags → get_or flags n false ≡ false → AreListed (set flags n true) (numbers ++ n ∷ [])
lists_more flags numbers n h lt fresh = record {
  counted = omega (arith, length_push numbers n, h.counted, count_set flags n lt fresh);
  known = subst (λ b. All (λ m. m < b) (numbers ++ n ∷ [])) (sym (length-set flags n true)) (All-push (λ m. m < length flags) numbers n h.known lt);
  listed = λ m noted. elim (cases_eq m n) [
    | inl e ↦ subst (Contains (numbers ++ n ∷ [])) (sym e) (Contains-push numbers n)
    | inr ne ↦ Contains-append_left numbers (n ∷ []) m (h.listed m (sym (get_or-set_other flags n m true false ne) ∙ noted))
  ];
}

-- a number that is noted stays so
pub set_again : (flags : List Bool) (n : ℕ) → n < length flags → get_or flags n false ≡ true → flags ≡ set flags n true
set_again [] n lt h = refl
set_again (f ∷ flags) zero lt h = ap (λ g. g ∷ flags) h
set_again (f ∷ flags) (suc n) lt h = ap (λ fs. f ∷ fs) (set_again flags n (omega (arith, lt)) h)

-- ---- forgetting

-- each number that is still noted is in the list from place i on
abbrev pub StandAfter : List Bool → List ℕ → ℕ → Type 0
StandAfter flags numbers i = (n : ℕ) → IsNoted flags n → (k : ℕ) × ((i ≤ k) × ((k < length numbers) × (get_or numbers k n ≡ n)))

pub after_first : (flags : List Bool) (numbers : List ℕ) → AreListed flags numbers → StandAfter flags numbers 0
after_first flags numbers h n noted = let c : Contains numbers n = h.listed n noted in (c.0, (omega arith, (c.1, c.2)))

pub after_next : (flags : List Bool) (numbers : List ℕ) (i n : ℕ) → StandAfter flags numbers i → i < length numbers → n ≡ get_or numbers i n → StandAfter (set flags n false) numbers (i + 1)
after_next flags numbers i n h lt is m noted = elim (cases_eq m n) [
  | inl e ↦ absurd (forgotten (subst (IsNoted (set flags n false)) e noted))
  | inr ne ↦
      let was : IsNoted flags m = sym (get_or-set_other flags n m false false ne) ∙ noted in
      let found : (k : ℕ) × ((i ≤ k) × ((k < length numbers) × (get_or numbers k m ≡ m))) = h m was in
      elim (cases_eq found.0 i) [
        | inl e ↦ absurd (ne (sym found.1.1.1 ∙ (ap (λ k. get_or numbers k m) e ∙ (get_or_default numbers i m n lt ∙ sym is))))
        | inr other ↦ (found.0, (omega (arith, found.1.0, other), found.1.1))
      ]
]
  where
    forgotten : IsNoted (set flags n false) n → ⊥
    forgotten g = elim (cases_lt n (length flags)) [
      | inl within ↦ false≢true (sym (get_or-set_same flags n false false within) ∙ g)
      | inr past ↦ false≢true (sym (get_or_past (set flags n false) n false (rw (length-set flags n false) past)) ∙ g)
    ]

pub after_last : (flags : List Bool) (numbers : List ℕ) (i : ℕ) → StandAfter flags numbers i → length numbers ≤ i → flags ≡ replicate (length flags) false
after_last flags numbers i h le = all_false flags (λ n noted. let found : (k : ℕ) × ((i ≤ k) × ((k < length numbers) × (get_or numbers k n ≡ n))) = h n noted in omega (arith, le, found.1.0, found.1.1.0))
  where
    all_false : (fs : List Bool) → ((n : ℕ) → IsNoted fs n → ⊥) → fs ≡ replicate (length fs) false
    all_false [] none = refl
    all_false (true ∷ fs) none = absurd (none 0 refl)
    all_false (false ∷ fs) none = ap (λ gs. false ∷ gs) (all_false fs (λ n. none (suc n)))

-- ---- the invariant

pub keeps_none : (flags : List Bool) (numbers : List ℕ) (bound capacity : ℕ) → flags ≡ replicate bound false → numbers ≡ [] → capacity ≡ bound → KeepsNoted flags numbers capacity
keeps_none flags numbers bound capacity e f g = rw (e, f, g) (lists_none bound, omega (arith, length-replicate bound false))

pub keeps_more : (flags : List Bool) (numbers more : List ℕ) (n capacity wider : ℕ) → KeepsNoted flags numbers capacity → n < length flags → get_or flags n false ≡ false → more ≡ numbers ++ n ∷ [] → wider ≡ capacity → KeepsNoted (set flags n true) more wider
keeps_more flags numbers more n capacity wider k lt fresh e f = rw (e, f) (lists_more flags numbers n k.0 lt fresh, omega (arith, length-set flags n true, k.1))

-- the flags, written back whole
pub keeps_cleared : (flags cleared : List Bool) (numbers : List ℕ) (len capacity wider : ℕ) → len ≡ length flags → length flags ≤ capacity → cleared ≡ replicate (length flags) false → numbers ≡ [] → wider ≡ capacity → KeepsNoted (take len (cleared ++ drop (length cleared) flags)) numbers wider
keeps_cleared flags cleared numbers len capacity wider e fits is f g =
    let whole : take len (cleared ++ drop (length cleared) flags) ≡ replicate (length flags) false = take_at cleared (drop (length cleared) flags) len (ap length is ∙ (length-replicate (length flags) false ∙ sym e)) ∙ is in
    rw (whole, f) (lists_none (length flags), omega (arith, length-replicate (length flags) false, fits, g))

pub room_for : (flags : List Bool) (numbers : List ℕ) (n len capacity : ℕ) → KeepsNoted flags numbers capacity → n < length flags → get_or flags n false ≡ false → len ≡ length numbers → len < capacity
room_for flags numbers n len capacity k lt fresh e = omega (arith, has_room flags numbers n k.0 lt fresh, k.1, e)
