-- Printed numbers are read as those numbers.
use Rattle.std.proofs.Common.{ℕ, ◌+◌, ◌-◌, ◌*◌, ◌^◌, ◌/◌, ◌%◌, ◌<◌, ◌≤◌, ◌≡◌, ◌==◌, false, List, [], ◌∷◌, ◌++◌, length, get_or, Option, Some, None, refl, ap, ◌∙◌, arith}
use Rattle.std.specs.Fmt.{decimal}
use Rattle.std.specs.Option.{option_and_then}
use Rattle.std.proofs.lemmas.Bool.{eqb-true, false_from_ne_true, le-leb}
use Rattle.std.proofs.lemmas.Fmt.{decimal_by_steps, decimal_nonempty, first_decimal, length-decimal-le_succ}
use Rattle.program_model.specs.Numbers.{number_of, with_digit, with_digits}

digit_more : (n m d : ℕ) → d < 10 → m ≡ 10 * n + d → m ≤ 18446744073709551615 → with_digit n (48 + d) ≡ Some m
digit_more n m d below is fits =
    let value : 10 * n + (48 + d - 48) ≡ m = omega (arith, is) in
    rw (value, le-leb 48 (48 + d) (omega arith), le-leb (48 + d) 57 (omega arith), le-leb m 18446744073709551615 fits) refl

digits-push : (n : ℕ) (ds : List ℕ) (b : ℕ) → with_digits n (ds ++ b ∷ []) ≡ option_and_then (λ m. with_digit m b) (with_digits n ds)
digits-push n [] b = go (with_digit n b)
  where
    go : (o : Option ℕ) → option_and_then (λ m. with_digits m []) o ≡ o
    go None = refl
    go (Some m) = refl
digits-push n (d ∷ ds) b = go (with_digit n d) (λ m. digits-push m ds b)
  where
    go : (o : Option ℕ) → ((m : ℕ) → with_digits m (ds ++ b ∷ []) ≡ option_and_then (λ k. with_digit k b) (with_digits m ds))
        → option_and_then (λ m. with_digits m (ds ++ b ∷ [])) o ≡ option_and_then (λ m. with_digit m b) (option_and_then (λ m. with_digits m ds) o)
    go None push = refl
    go (Some m) push = push m

digits-decimal : (n : ℕ) → n < 2 ^ 64 → n ≤ 18446744073709551615 → with_digits 0 (decimal n) ≡ Some n
digits-decimal = decimal_by_steps (λ m ds. m ≤ 18446744073709551615 → with_digits 0 ds ≡ Some m)
    (λ m below fits. ap (λ o. option_and_then (λ k. with_digits k []) o) (digit_more 0 m m below (omega arith) fits))
    (λ m ds more is fits. digits-push 0 ds (48 + m % 10) ∙ ap (λ o. option_and_then (λ k. with_digit k (48 + m % 10)) o) (is (omega arith)) ∙ digit_more (m / 10) m (m % 10) (omega arith) (omega arith) fits)

whole : (n : ℕ) (ds : List ℕ) → 0 < length ds → length ds ≤ n + 1 → (0 < n → 48 < get_or ds 0 0) → with_digits 0 ds ≡ Some n → number_of ds ≡ Some n
whole n [] some few first is = absurd (omega arith)
whole n (b ∷ []) some few first is = is
whole n (b ∷ c ∷ bs) some few first is =
    let above : 48 < b = first (omega arith) in
    let not : (b == 48) ≡ false = false_from_ne_true (b == 48) (λ same. omega (arith, eqb-true b 48 same)) in
    rw not is

pub number-decimal : (n : ℕ) → n < 2 ^ 64 → number_of (decimal n) ≡ Some n
number-decimal n small = whole n (decimal n) (decimal_nonempty n small) (length-decimal-le_succ n small) (λ some. first_decimal n some small) (digits-decimal n small (omega arith))
