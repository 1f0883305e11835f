-- Sums, counts, the least, the greatest and lists, over the numbers below a bound.
use Rattle.std.specs.Prelude.{ℕ, zero, suc, ◌+◌, max, Bool, if◌then◌else◌, List, [], ◌∷◌, ◌++◌, Option, Some, None}

-- the sum of f over the numbers below n
unfoldable pub sum_below : (ℕ → ℕ) → ℕ → ℕ
sum_below f zero = 0
sum_below f (suc n) = f n + sum_below f n

-- the greatest value of f at the numbers below n, or 0
unfoldable pub max_below : (ℕ → ℕ) → ℕ → ℕ
max_below f zero = 0
max_below f (suc n) = max (f n) (max_below f n)

-- how many numbers below n pass the test
unfoldable pub count_below : (ℕ → Bool) → ℕ → ℕ
count_below test zero = 0
count_below test (suc n) = (if test n then 1 else 0) + count_below test n

-- the first, or else the second
abbrev pub first_of : Option ℕ → Option ℕ → Option ℕ
first_of None b = b
first_of (Some a) b = Some a

-- the least number below n that passes the test
unfoldable pub least_below : (ℕ → Bool) → ℕ → Option ℕ
least_below test zero = None
least_below test (suc n) = first_of (least_below test n) (if test n then Some n else None)

-- the greatest number below n that passes the test
unfoldable pub greatest_below : (ℕ → Bool) → ℕ → Option ℕ
greatest_below test zero = None
greatest_below test (suc n) = if test n then Some n else greatest_below test n

-- f of each number below n, in order
unfoldable pub list_below : {A : Type 0} → (ℕ → A) → ℕ → List A
list_below f zero = []
list_below f (suc n) = list_below f n ++ f n ∷ []
