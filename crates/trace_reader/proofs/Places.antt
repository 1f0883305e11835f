-- Fields by their place, and fields that are texts.
use Rattle.std.proofs.Common.{ℕ, zero, suc, ◌-◌, ◌<◌, ◌≡◌, Bool, true, false, ◌&&◌, List, [], ◌∷◌, length, Option, Some, None, IsSome, slice_get, slice_index_or, option_map, arith, refl, sym}
use Rattle.std.specs.Borrow.{Bor}
use Rattle.std.specs.List.{list_all, last_or}
use Rattle.std.specs.Str.{is_utf8}
use Rattle.std.proofs.lemmas.Bool.{false_from_ne_true}
use Rattle.std.proofs.lemmas.Str.{IsUtf8-from_is_utf8, is_utf8-from_IsUtf8}
use Rattle.csv.specs.Records.{AllText, field_at}

pub at_is : (fields : List (List ℕ)) (k : ℕ) → k < length fields → field_at fields k ≡ Some (slice_index_or fields k [])
unfolding field_at
at_is [] k below = absurd (omega arith)
at_is (f ∷ fs) zero below = refl
at_is (f ∷ fs) (suc k) below = at_is fs k (omega arith)

pub is_there : (o : Option (Bor (List ℕ))) (f : List ℕ) → option_map (λ s. s.now) o ≡ Some f → IsSome o
is_there None f is = absurd (cc)
is_there (Some s) f is = refl

all_texts : (fields : List (List ℕ)) → AllText fields → list_all is_utf8 fields ≡ true
unfolding AllText
all_texts [] all = refl
all_texts (f ∷ fs) all = rw (is_utf8-from_IsUtf8 f all.0) (all_texts fs all.1)

both : (a b : Bool) → (a && b) ≡ true → (a ≡ true) × (b ≡ true)
both true b is = (refl, is)
both false b is = absurd (cc)

are_texts : (fields : List (List ℕ)) → list_all is_utf8 fields ≡ true → AllText fields
unfolding AllText
are_texts [] all = tt
are_texts (f ∷ fs) all =
    let parts = both (is_utf8 f) (list_all is_utf8 fs) all in
    (IsUtf8-from_is_utf8 f parts.0, are_texts fs parts.1)

pub texts_are : (fields : List (List ℕ)) → AllText fields → true ≡ list_all is_utf8 fields
texts_are fields all = sym (all_texts fields all)

pub no_texts : (fields : List (List ℕ)) → ¬ AllText fields → false ≡ list_all is_utf8 fields
no_texts fields not_all = sym (false_from_ne_true (list_all is_utf8 fields) (λ all. not_all (are_texts fields all)))

-- the last of some rows is that at the last place
pub last_at : {A : Type 0} (x : A) (xs : List A) → last_or None (x ∷ xs) ≡ slice_get (x ∷ xs) (length xs)
last_at x [] = refl
last_at x (y ∷ ys) = last_at y ys

pub last_is : {A : Type 0} (xs : List A) → slice_get xs (length xs - 1) ≡ last_or None xs
last_is [] = refl
last_is (x ∷ xs) =
    let place : length (x ∷ xs) - 1 ≡ length xs = omega arith in
    rw place (sym (last_at x xs))
