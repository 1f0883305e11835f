-- The limits of keys.
use Rattle.std.specs.Prelude.{ℤ, pos, ◌≤ℤ◌}
use Rattle.vt_fixed.specs.declared.limits.TheConstants.{GREATEST_LENGTH}
use Rattle.fq_model.specs.declared.limits.TheConstants.{GREATEST_START}

-- a start and a length that the head of a legal history can have
pub record IsInRange (start len : ℤ) : Type 0 where
  pub start_low : pos 0 ≤ℤ start
  pub start_high : start ≤ℤ GREATEST_START
  pub len_low : pos 0 ≤ℤ len
  pub len_high : len ≤ℤ GREATEST_LENGTH
