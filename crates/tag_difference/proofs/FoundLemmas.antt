-- The greatest differences, one entry on and at the end.
use Rattle.std.proofs.Common.{ℕ, ◌*◌, ◌≡◌, ◌∙◌, refl, ap, sym, arith, inl, inr, List, [], ◌∷◌, Option, Some, None, ℤ, pos}
use Rattle.std.specs.Prelude.{option_map}
use Rattle.std.specs.Int.{int_max}
use Rattle.std.proofs.lemmas.Bool.{cases_Bool}
use Rattle.std.proofs.lemmas.Int.{ints, clamps}
use Rattle.fq_model.specs.declared.config.Config.{Config}
use Rattle.fq_model.specs.declared.event.Entry.{Entry}
use Rattle.fq_model.specs.History.{History}
use Rattle.fq_model.specs.Gap.{is_shared, shared_differences, first_differences, greatest_of, greatest_with, lengths_in_bound, longest_length, largest_difference, difference_bound, tag_gap}
use Rattle.gap_laws.proofs.Runs.{nil_unshared}
use Rattle.tag_difference.specs.declared.found.Found.{Found}
use Rattle.tag_difference.specs.Pairs.{difference_at}
use Rattle.tag_difference.specs.Found.{nothing, at_least, with_difference, gap_from, FoundIn}
use Rattle.tag_difference.specs.Pairs.{told}

-- the greatest may be taken in any order
greatest_swapped : (x y : ℤ) (zs : List ℤ) → int_max (greatest_with y zs) x ≡ int_max y (greatest_with x zs)
greatest_swapped x y [] = refl
greatest_swapped x y (z ∷ zs) = omega (arith, ints, clamps, greatest_swapped x y zs)

pub at_least_is : (x : ℤ) (ys : List ℤ) → at_least x (greatest_of ys) ≡ greatest_with x ys
at_least_is x [] = refl
at_least_is x (y ∷ ys) = greatest_swapped x y ys

-- nothing is found in the empty history
pub found_nil : (C : Config) (f g : ℕ) → FoundIn C [] f g nothing
unfolding shared_differences first_differences
found_nil C f g = record { largest_is = refl; first_is = refl; shared_is = sym (nil_unshared f g) }

module _ (C : Config) (P : History) (e : Entry) (f g : ℕ) (x : Found) (is : FoundIn C P f g x) where
  greater : (d : ℤ) (o : Option ℤ) (ds : List ℤ) → o ≡ greatest_of ds → Some (at_least d o) ≡ greatest_of (d ∷ ds)
  greater d o ds same = ap Some (ap (at_least d) same ∙ at_least_is d ds)

  -- one entry on
  pub found_next : FoundIn C (e ∷ P) f g (with_difference x (difference_at C (e ∷ P) f g))
  unfolding shared_differences first_differences
  found_next = elim (cases_Bool (is_shared (e ∷ P) f g)) [
    | inr now ↦ rw now (record { largest_is = rw now is.largest_is; first_is = rw now is.first_is; shared_is = sym now })
    | inl now ↦ elim (cases_Bool (is_shared P f g)) [
      | inl before ↦ rw now (record {
        largest_is = rw now (greater _ _ _ is.largest_is);
        first_is = rw (now, is.shared_is, before) is.first_is;
        shared_is = sym now;
      })
      | inr before ↦ rw now (record {
        largest_is = rw now (greater _ _ _ is.largest_is);
        first_is = rw (now, is.shared_is, before) (greater _ _ _ is.first_is);
        shared_is = sym now;
      })
    ]
  ]

-- the gap by the differences found, part by part
pub gap_is : (largest : Option ℤ) (b c : ℤ) → b ≡ c → option_map told (option_map (λ x. record { largest = x; bound = b }) largest) ≡ option_map (λ x. record { largest = x; bound = c }) largest
gap_is None b c same = refl
gap_is (Some x) b c same = rw same refl

-- at the end the differences found make the gap
pub found_gap : (C : Config) (H : History) (f g : ℕ) (x : Found) (least : ℤ) → FoundIn C H f g x → least ≡ pos (lengths_in_bound C.policy * longest_length C H f g) → option_map told (gap_from x least) ≡ tag_gap C H f g
unfolding tag_gap largest_difference difference_bound
found_gap C H f g x least is low =
    let bound : at_least least x.first ≡ greatest_with (pos (lengths_in_bound C.policy * longest_length C H f g)) (first_differences C H f g) = rw (low, is.first_is) (at_least_is _ (first_differences C H f g)) in
    rw is.largest_is (gap_is (greatest_of (shared_differences C H f g)) _ _ bound)
