-- Comparing by one number, then by the next test.
use Rattle.std.specs.Prelude.{◌≡◌, ℤ, ◌<ℤ◌, ◌⊎◌}

-- a comes before b, or they are equal and the next test says so
abbrev pub ComesBefore : ℤ → ℤ → Type 0 → Type 0
ComesBefore a b Next = (a <ℤ b) ⊎ ((a ≡ b) × Next)
