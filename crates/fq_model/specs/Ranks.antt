-- The least, the percentiles and the greatest of samples.
use Rattle.std.specs.Prelude.{ℕ, ◌*◌, ◌≡◌, nat_lt, nat_le, Bool, true, ◌&&◌, List, length, count_by, find, unwrap_or, ℤ, pos, int_lt, int_le}
use Rattle.vt_fixed.specs.Rounding.{ceil_div}

-- how many samples are at most x
abbrev pub count_up_to : ℤ → List ℤ → ℕ
count_up_to x samples = count_by (λ y. int_le y x) samples

-- how many samples are less than x
abbrev pub count_less : ℤ → List ℤ → ℕ
count_less x samples = count_by (λ y. int_lt y x) samples

-- where the samples are in order, from the least on, x is at this rank, counted from 1: at least `rank` samples are at
-- most x, and fewer than `rank` are less
abbrev pub is_at_rank : ℕ → List ℤ → ℤ → Bool
is_at_rank rank samples x = nat_le rank (count_up_to x samples) && nat_lt (count_less x samples) rank

-- the sample at this rank, or 0 where there is none
abbrev pub at_rank : ℕ → List ℤ → ℤ
at_rank rank samples = unwrap_or (find (is_at_rank rank samples) samples) (pos 0)

-- at a rank there is one number at most
abbrev pub OneAtRank : Type 0
OneAtRank = (rank : ℕ) (samples : List ℤ) (x : ℤ) → is_at_rank rank samples x ≡ true → at_rank rank samples ≡ x

-- the least sample
abbrev pub least_sample : List ℤ → ℤ
least_sample samples = at_rank 1 samples

-- percentile p of the samples
abbrev pub percentile : ℕ → List ℤ → ℤ
percentile p samples = at_rank (ceil_div (p * length samples) 100) samples

-- the greatest sample
abbrev pub greatest_sample : List ℤ → ℤ
greatest_sample samples = at_rank (length samples) samples
