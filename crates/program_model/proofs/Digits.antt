-- One digit more at the end of a number.
use Rattle.std.proofs.Common.{ℕ, ◌+◌, ◌-◌, ◌*◌, ◌^◌, ◌<◌, ◌≤◌, ◌≡◌, List, ◌∷◌, nat_le, true, arith, refl, add-one}
use Rattle.std.proofs.lemmas.Bool.{le-leb}
use Rattle.std.proofs.Math.Nat.{pow-le-pow_right, pow-suc}
use Rattle.program_model.specs.Numbers.{with_digits}

-- there is room for it, where there are few digits
pub room_for_one : (n k : ℕ) → n < 10 ^ k → k < 19 → 10 * n + 9 ≤ 18446744073709551615
room_for_one n k lt le =
    let bound : 10 ^ k ≤ 10 ^ 18 = pow-le-pow_right (omega arith) {i = k} {j = 18} (omega arith) in
    let computed : 10 ^ 18 ≡ 1000000000000000000 = refl in
    omega (arith, bound, computed)

pub longer : (n d k : ℕ) → n < 10 ^ k → d ≤ 9 → 10 * n + d < 10 ^ (k + 1)
longer n d k lt le =
    let power : 10 ^ (k + 1) ≡ 10 ^ k * 10 = rw add-one (pow-suc 10 k) in
    omega (arith, power)

-- digits that begin with it
pub with_one : (n b : ℕ) (bs : List ℕ) → 48 ≤ b → b ≤ 57 → 10 * n + (b - 48) ≤ 18446744073709551615 → with_digits n (b ∷ bs) ≡ with_digits (10 * n + (b - 48)) bs
with_one n b bs from to fits =
    let low : nat_le 48 b ≡ true = le-leb 48 b from in
    let high : nat_le b 57 ≡ true = le-leb b 57 to in
    let room : nat_le (10 * n + (b - 48)) 18446744073709551615 ≡ true = le-leb _ _ fits in
    rw (low, high, room) refl
