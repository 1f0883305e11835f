-- The gap of a short history, computed: each definition is repeated over the numbers below n, with `within` in its
-- name, and with a lemma that the two are equal.
use Rattle.std.proofs.Common.{ℕ, ◌≡◌, Bool, true, false, not, ◌&&◌, if◌then◌else◌, List, refl, inl, inr, [], ◌∷◌, Option, None, ℤ, pos}
use Rattle.std.specs.Prelude.{is_some, ◌-ℤ◌, ◌*◌, option_map}
use Rattle.std.proofs.lemmas.Bool.{cases_lt}
use Rattle.fq_model.specs.declared.config.Config.{Config}
use Rattle.fq_model.specs.History.{History, request_at, request_bound, submits}
use Rattle.fq_model.specs.Time.{last_moment}
use Rattle.fq_model.specs.Rules.{IsLegal}
use Rattle.fq_model.specs.Sums.{least_below}
use Rattle.fq_model.specs.Gap.{is_as_declared, not_declared, is_shared, start_difference, shared_differences, first_differences, longest_length, lengths_in_bound, greatest_with, greatest_of, largest_difference, difference_bound, TagGap, tag_gap}
use Rattle.fq_laws.proofs.Sums.{least_by, least_none}
use Rattle.fq_laws.proofs.History.Requests.{fresh}
use Rattle.worked_histories.proofs.Computed.Histories.{IsShort, shorter, head_within, head_is, start_within, start_is, computing}
use Rattle.worked_histories.proofs.Computed.Legal.{legal_test, legal_is, limits_test, limits_are}
use Rattle.gap_laws.specs.Words.{HasDeclaredCosts}

-- ---- requests that are as declared

unasked_declared : (C : Config) (P : History) (r : ℕ) → request_at P r ≡ None → not (is_as_declared C P r) ≡ false
unfolding is_as_declared
unasked_declared C P r h = rw h refl

-- only a submitted request can be otherwise than declared
pub declared_below : (C : Config) (P : History) → IsLegal C P → least_below (λ r. not (is_as_declared C P r)) (submits P) ≡ None → not_declared C P ≡ None
unfolding not_declared
declared_below C P l h = least_by (λ r. not (is_as_declared C P r)) request_bound None (λ r b. elim (cases_lt r (submits P)) [
  | inl low ↦ least_none (λ s. not (is_as_declared C P s)) (submits P) h r low
  | inr high ↦ unasked_declared C P r (fresh C P r l high)
])

-- the premises of the laws, by tests that compute
pub premises_are : (n k : ℕ) (C : Config) (P : History) → IsShort n k P → limits_test C ≡ true → legal_test n k C P ≡ true → least_below (λ r. not (is_as_declared C P r)) (submits P) ≡ None → HasDeclaredCosts C P
premises_are n k C P s lim l d =
    let legal : IsLegal C P = legal_is n k C P s l in
    record { limits = limits_are C lim; legal = legal; declared = declared_below C P legal d }

-- ---- shared prefixes

unfoldable pub is_shared_within : ℕ → History → ℕ → ℕ → Bool
is_shared_within n P f g = is_some (head_within n P f) && is_some (head_within n P g)

pub is_shared_is : (n k : ℕ) (P : History) (f g : ℕ) → IsShort n k P → is_shared P f g ≡ is_shared_within n P f g
unfolding is_shared is_shared_within
is_shared_is n k P f g s = rw (head_is n k P f s, head_is n k P g s) refl

unfoldable pub difference_within : ℕ → Config → History → ℕ → ℕ → ℤ
difference_within n C P f g = pos (start_within n C P (last_moment P) f) -ℤ pos (start_within n C P (last_moment P) g)

difference_is : (n k : ℕ) (C : Config) (P : History) (f g : ℕ) → IsShort n k P → start_difference C P f g ≡ difference_within n C P f g
unfolding start_difference difference_within
difference_is n k C P f g s = rw (start_is n k C P (last_moment P) f s, start_is n k C P (last_moment P) g s) refl

unfoldable pub shared_within : ℕ → Config → History → ℕ → ℕ → List ℤ
shared_within n C [] f g = []
shared_within n C (e ∷ P) f g =
    if is_shared_within n (e ∷ P) f g
    then difference_within n C (e ∷ P) f g ∷ shared_within n C P f g
    else shared_within n C P f g

pub shared_is : (n k : ℕ) (C : Config) (P : History) (f g : ℕ) → IsShort n k P → shared_differences C P f g ≡ shared_within n C P f g
unfolding shared_differences shared_within
shared_is n k C [] f g s = refl
shared_is n k C (e ∷ P) f g s =
    rw (is_shared_is n k (e ∷ P) f g s, difference_is n k C (e ∷ P) f g s, shared_is n k C P f g (shorter n k e P s)) refl

unfoldable pub first_within : ℕ → Config → History → ℕ → ℕ → List ℤ
first_within n C [] f g = []
first_within n C (e ∷ P) f g =
    if is_shared_within n (e ∷ P) f g && not (is_shared_within n P f g)
    then difference_within n C (e ∷ P) f g ∷ first_within n C P f g
    else first_within n C P f g

first_is : (n k : ℕ) (C : Config) (P : History) (f g : ℕ) → IsShort n k P → first_differences C P f g ≡ first_within n C P f g
unfolding first_differences first_within
first_is n k C [] f g s = refl
first_is n k C (e ∷ P) f g s =
    let older : IsShort n k P = shorter n k e P s in
    rw (is_shared_is n k (e ∷ P) f g s, is_shared_is n k P f g older, difference_is n k C (e ∷ P) f g s, first_is n k C P f g older) refl

-- ---- the gap

unfoldable pub bound_within : ℕ → Config → History → ℕ → ℕ → ℤ
bound_within n C P f g = greatest_with (pos (lengths_in_bound C.policy * longest_length C P f g)) (first_within n C P f g)

unfoldable pub gap_within : ℕ → Config → History → ℕ → ℕ → Option TagGap
gap_within n C P f g =
    option_map
    (λ largest. record { largest = largest; bound = bound_within n C P f g })
    (greatest_of (shared_within n C P f g))

pub gap_is : (n k : ℕ) (C : Config) (P : History) (f g : ℕ) → IsShort n k P → tag_gap C P f g ≡ gap_within n C P f g
unfolding tag_gap largest_difference difference_bound gap_within bound_within
gap_is n k C P f g s = rw (shared_is n k C P f g s, first_is n k C P f g s) refl

-- ---- the definitions that an example opens

-- the line `unfolding computing_gap` opens all of these
unfoldable pub computing_gap : Unit {0}
unfolding computing is_as_declared is_shared_within difference_within shared_within first_within bound_within gap_within longest_length
computing_gap = tt
