-- Numbers, as digits of a text.
use Rattle.std.specs.Prelude.{ℕ, ◌+◌, ◌-◌, ◌*◌, ◌==◌, nat_le, ◌&&◌, if◌then◌else◌, List, [], ◌∷◌, Option, Some, None}
use Rattle.std.specs.Option.{option_and_then}
use Rattle.fq_model.specs.Spelling.{is_digit}

-- the number n with the digit b at its end; none where b is no digit or the number passes 2^64 - 1
abbrev pub with_digit : ℕ → ℕ → Option ℕ
with_digit n b =
    if is_digit b && nat_le (10 * n + (b - 48)) 18446744073709551615 then Some (10 * n + (b - 48)) else None

-- the number n with these digits more at its end
abbrev pub with_digits : ℕ → List ℕ → Option ℕ
with_digits n [] = Some n
with_digits n (b ∷ bs) = option_and_then (λ m. with_digits m bs) (with_digit n b)

-- the number that a text spells: `0`, or digits of which the first is not `0`, with 64 bits at most
abbrev pub number_of : List ℕ → Option ℕ
number_of [] = None
number_of (b ∷ []) = with_digits 0 (b ∷ [])
number_of (b ∷ c ∷ bs) = if b == 48 then None else with_digits 0 (b ∷ c ∷ bs)
