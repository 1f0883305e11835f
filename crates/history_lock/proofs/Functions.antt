-- A function changed at one place, and the next number of a word.
use Rattle.std.proofs.Common.{◌≡◌, ◌≢◌, ℕ, ◌+◌, ◌%◌, refl, ap, ◌∙◌, arith}
use mathlib.Core.Logic.{dite}
use native.Mathlib.Decide.{ℕ_discrete}

-- a function changed at one place
abbrev pick : {P : Type 0} → Dec P → ℕ → ℕ → ℕ
pick (yes _) a b = a
pick (no _) a b = b

pub put : (ℕ → ℕ) → ℕ → ℕ → ℕ → ℕ
put f i c j = pick (ℕ_discrete j i) c (f j)

pub put_here : (f : ℕ → ℕ) (i c : ℕ) → put f i c i ≡ c
unfolding put
put_here f i c = go (ℕ_discrete i i)
  where
    go : (d : Dec (i ≡ i)) → pick d c (f i) ≡ c
    go (yes _) = refl
    go (no n) = absurd (n refl)

pub put_else : (f : ℕ → ℕ) (i c j : ℕ) → j ≢ i → put f i c j ≡ f j
unfolding put
put_else f i c j other = go (ℕ_discrete j i)
  where
    go : (d : Dec (j ≡ i)) → pick d c (f j) ≡ f j
    go (yes e) = absurd (other e)
    go (no _) = refl

pub put_one : (f : ℕ → ℕ) (i j : ℕ) → f j ≡ 1 → put f i 1 j ≡ 1
put_one f i j h = dite (ℕ_discrete j i) (λ e. ap (put f i 1) e ∙ put_here f i 1) (λ n. put_else f i 1 j n ∙ h)

-- a word that counts on counts modulo 2^64
pub next_word : (d : ℕ) → (d % 18446744073709551616 + 1) % 18446744073709551616 ≡ (d + 1) % 18446744073709551616
next_word d = omega arith
