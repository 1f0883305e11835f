-- The parts of a gap are the greatest differences at prefixes, as its definitions say.
use Rattle.std.proofs.Common.{ℕ, ◌≡◌, ◌⊎◌, Bool, true, false, not, ◌&&◌, cond, refl, sym, ap, Option, subst, arith, inl, inr, List, [], ◌∷◌, ◌++◌, drop, Some, None, ℤ, ◌≤ℤ◌}
use Rattle.std.specs.Prelude.{option_map, ◌↔◌}
use Rattle.std.specs.Int.{int_max}
use Rattle.std.proofs.lemmas.Int.{ints, clamps, by_lt_z}
use Rattle.std.proofs.lemmas.Bool.{cases_Bool, both_ways, cond_both, and_parts, and_from, and_left, not-true, not_from_false}
use Rattle.fq_model.specs.declared.config.Config.{Config}
use Rattle.fq_model.specs.declared.event.Entry.{Entry}
use Rattle.fq_model.specs.History.{History}
use Rattle.fq_model.specs.Gap.{is_shared, start_difference, shared_differences, first_differences, greatest_with, greatest_of, largest_difference, difference_bound, TagGap, tag_gap}
use Rattle.gap_laws.specs.Words.{IsPrefix, IsSharedIn, IsFirstIn, IsGreatestAt}
use Rattle.gap_laws.specs.Laws.{bound_length, GapIsThere, LargestIsGreatest, BoundIsGreatest}
use Rattle.gap_laws.proofs.Runs.{nil_unshared, prefix_older}

-- ---- the greatest of numbers

abbrev pub Among : ℤ → List ℤ → Type 0
Among x [] = ⊥
Among x (y ∷ ys) = (x ≡ y) ⊎ Among x ys

pub among_low : (z x : ℤ) (ys : List ℤ) → Among z (x ∷ ys) → z ≤ℤ greatest_with x ys
among_low z x [] (inl e) = omega (arith, ints)
among_low z x [] (inr h) = absurd h
among_low z x (y ∷ ys) (inl e) = omega (arith, ints, clamps, e, among_low z x ys (inl e))
among_low z x (y ∷ ys) (inr (inl e)) = omega (arith, ints, clamps, e)
among_low z x (y ∷ ys) (inr (inr h)) = omega (arith, ints, clamps, among_low z x ys (inr h))

among_more : (z x y : ℤ) (ys : List ℤ) → Among z (x ∷ ys) → Among z (x ∷ y ∷ ys)
among_more z x y ys (inl e) = inl e
among_more z x y ys (inr h) = inr (inr h)

among_greater : (x y g z : ℤ) (ys : List ℤ) → z ≡ int_max y g → Among g (x ∷ ys) → Among z (x ∷ y ∷ ys)
among_greater x y g z ys e h = by_lt_z y g
    (λ less. let is : g ≡ z = omega (arith, ints, clamps) in subst (λ w. Among w (x ∷ y ∷ ys)) is (among_more g x y ys h))
    (λ more. inr (inl (omega (arith, ints, clamps))))

pub greatest_among : (x : ℤ) (ys : List ℤ) → Among (greatest_with x ys) (x ∷ ys)
greatest_among x [] = inl refl
greatest_among x (y ∷ ys) = among_greater x y (greatest_with x ys) (greatest_with x (y ∷ ys)) ys refl (greatest_among x ys)

-- ---- values at prefixes

-- the values at the prefixes of H that pass the test and have an entry
unfoldable pub values_where : (History → Bool) → (History → ℤ) → History → List ℤ
values_where test value [] = []
values_where test value (e ∷ P) = cond (test (e ∷ P)) (value (e ∷ P) ∷ values_where test value P) (values_where test value P)

-- the value at each such prefix is among them
pub value_counted : (test : History → Bool) (value : History → ℤ) (newer P : History) → test [] ≡ false → test P ≡ true → Among (value P) (values_where test value (newer ++ P))
unfolding values_where
value_counted test value [] [] none h = absurd (both_ways _ none h)
value_counted test value [] (e ∷ P) none h = rw h (inl refl)
value_counted test value (e ∷ newer) P none h =
    let older : Among (value P) (values_where test value (newer ++ P)) = value_counted test value newer P none h in
    cond_both (test (e ∷ newer ++ P)) (value (e ∷ newer ++ P) ∷ values_where test value (newer ++ P)) (values_where test value (newer ++ P)) (Among (value P)) (λ _. inr older) (λ _. older)

-- P is a prefix of H that passes, and has this value
pub record FoundAt (test : History → Bool) (value : History → ℤ) (H : History) (x : ℤ) : Type 0 where
  pub at : History
  pub is_prefix : IsPrefix at H
  pub passes : test at ≡ true
  pub is : value at ≡ x

found_older : (test : History → Bool) (value : History → ℤ) (e : Entry) (P : History) (x : ℤ) → FoundAt test value P x → FoundAt test value (e ∷ P) x
found_older test value e P x w = record { at = w.at; is_prefix = prefix_older e P w.at w.is_prefix; passes = w.passes; is = w.is }

-- and no other value is
pub value_found : (test : History → Bool) (value : History → ℤ) (H : History) (x : ℤ) → Among x (values_where test value H) → FoundAt test value H x
unfolding values_where
value_found test value [] x h = absurd h
value_found test value (e ∷ P) x h = elim (cases_Bool (test (e ∷ P))) [
  | inl now ↦ elim (let k : Among x (value (e ∷ P) ∷ values_where test value P) = rw now at h in k) [
    | inl same ↦ record { at = e ∷ P; is_prefix = ([], refl); passes = now; is = sym same }
    | inr k ↦ found_older test value e P x (value_found test value P x k)
  ]
  | inr now ↦ found_older test value e P x (value_found test value P x (rw now at h))
]

-- ---- the differences

shared_test : ℕ → ℕ → History → Bool
shared_test f g P = is_shared P f g

unfoldable pub first_test : ℕ → ℕ → History → Bool
first_test f g P = is_shared P f g && not (is_shared (drop 1 P) f g)

difference : Config → ℕ → ℕ → History → ℤ
difference C f g P = start_difference C P f g

shared_are : (C : Config) (P : History) (f g : ℕ) → shared_differences C P f g ≡ values_where (shared_test f g) (difference C f g) P
unfolding shared_differences values_where shared_test difference
shared_are C [] f g = refl
shared_are C (e ∷ P) f g = rw (shared_are C P f g) refl

first_are : (C : Config) (P : History) (f g : ℕ) → first_differences C P f g ≡ values_where (first_test f g) (difference C f g) P
unfolding first_differences values_where first_test difference
first_are C [] f g = refl
first_are C (e ∷ P) f g = rw (first_are C P f g) refl

shared_none : (f g : ℕ) → shared_test f g [] ≡ false
unfolding shared_test
shared_none f g = nil_unshared f g

pub first_none : (f g : ℕ) → first_test f g [] ≡ false
unfolding first_test
first_none f g = and_left _ _ (nil_unshared f g)

-- ---- the gap

pub shared_counted : (C : Config) (H P : History) (f g : ℕ) → IsSharedIn H f g P → Among (start_difference C P f g) (shared_differences C H f g)
unfolding shared_test difference
shared_counted C H P f g h = rw (h.0.1, shared_are C (h.0.0 ++ P) f g) (value_counted (shared_test f g) (difference C f g) h.0.0 P (shared_none f g) h.1)

pub shared_found : (C : Config) (H : History) (f g : ℕ) (x : ℤ) → Among x (shared_differences C H f g) → (P : History) × IsSharedIn H f g P × (start_difference C P f g ≡ x)
unfolding shared_test difference
shared_found C H f g x h =
    let w : FoundAt (shared_test f g) (difference C f g) H x = value_found (shared_test f g) (difference C f g) H x (rw (shared_are C H f g) at h) in
    (w.at, (w.is_prefix, w.passes), w.is)

first_counted : (C : Config) (H P : History) (f g : ℕ) → IsFirstIn H f g P → Among (start_difference C P f g) (first_differences C H f g)
unfolding first_test difference
first_counted C H P f g h = rw (h.0.0.1, first_are C (h.0.0.0 ++ P) f g) (value_counted (first_test f g) (difference C f g) h.0.0.0 P (first_none f g) (and_from _ _ h.0.1 (not_from_false _ h.1)))

first_found : (C : Config) (H : History) (f g : ℕ) (x : ℤ) → Among x (first_differences C H f g) → (P : History) × IsFirstIn H f g P × (start_difference C P f g ≡ x)
unfolding first_test difference
first_found C H f g x h =
    let w : FoundAt (first_test f g) (difference C f g) H x = value_found (first_test f g) (difference C f g) H x (rw (first_are C H f g) at h) in
    let p = and_parts _ _ w.passes in
    (w.at, ((w.is_prefix, p.0), not-true _ p.1), w.is)

-- the parts of a gap, if there is a gap
pub gap_parts : (o : Option ℤ) (b : ℤ) (gap : TagGap) → option_map (λ largest. record { largest = largest; bound = b }) o ≡ Some gap → (o ≡ Some gap.largest) × (gap.bound ≡ b)
gap_parts None b gap h = absurd (cc)
gap_parts (Some x) b gap h =
    let j : record { largest = x; bound = b } ≡ gap = cc in
    (ap (λ z. Some z.largest) j, sym (ap (λ z. z.bound) j))

greatest_at : (C : Config) (H : History) (f g : ℕ) (xs : List ℤ) (x : ℤ) → shared_differences C H f g ≡ xs → greatest_of xs ≡ Some x → IsGreatestAt (IsSharedIn H f g) (λ P. start_difference C P f g) x
greatest_at C H f g [] x is h = absurd (cc)
greatest_at C H f g (y ∷ ys) x is h =
    let e : greatest_with y ys ≡ x = cc in
    record {
      reached = shared_found C H f g x (rw is (subst (λ z. Among z (y ∷ ys)) e (greatest_among y ys)));
      greatest = λ P s. rw (← e) (among_low (start_difference C P f g) y ys (rw is at (shared_counted C H P f g s)));
    }

pub largest_at : (C : Config) (H : History) (f g : ℕ) (x : ℤ) → largest_difference C H f g ≡ Some x → IsGreatestAt (IsSharedIn H f g) (λ P. start_difference C P f g) x
unfolding largest_difference
largest_at C H f g x h = greatest_at C H f g (shared_differences C H f g) x refl h

pub largest_greatest : LargestIsGreatest
unfolding tag_gap
largest_greatest C H f g gap h = largest_at C H f g gap.largest (gap_parts (largest_difference C H f g) (difference_bound C H f g) gap h).0

pub bound_greatest : BoundIsGreatest
unfolding tag_gap difference_bound
bound_greatest C H f g gap h =
    let p = gap_parts (largest_difference C H f g) (difference_bound C H f g) gap h in
    record {
      reached = elim (greatest_among (bound_length C H f g) (first_differences C H f g)) [
        | inl e ↦ inl (rw p.1 e)
        | inr k ↦ inr (first_found C H f g gap.bound (rw p.1 k))
      ];
      least = rw p.1 (among_low (bound_length C H f g) (bound_length C H f g) (first_differences C H f g) (inl refl));
      greatest = λ P s. rw p.1 (among_low (start_difference C P f g) (bound_length C H f g) (first_differences C H f g) (inr (first_counted C H P f g s)));
    }

none_told : (C : Config) (H : History) (f g : ℕ) (xs : List ℤ) → shared_differences C H f g ≡ xs → (option_map {U = TagGap} (λ largest. record { largest = largest; bound = difference_bound C H f g }) (greatest_of xs) ≡ None) ↔ ((P : History) → ¬ IsSharedIn H f g P)
none_told C H f g [] is = (λ h P s. rw is at (shared_counted C H P f g s), λ h. refl)
none_told C H f g (x ∷ xs) is = (λ h. absurd (cc), λ h. let w = shared_found C H f g x (rw is (inl refl)) in absurd (h w.0 w.1))

pub gap_there : GapIsThere
unfolding tag_gap largest_difference
gap_there C H f g = none_told C H f g (shared_differences C H f g) refl
