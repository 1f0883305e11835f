-- A clean source and a clean sink with enough room have no fault.
use Rattle.std.proofs.Common.{arith, ℕ, ◌<◌, ◌≡◌, List, length, take, ap}
use Rattle.std.proofs.lemmas.List.{length-take}
use Rattle.fq_memory.specs.Clean.{IsClean}
use Rattle.fq_io.specs.Faults.{Rose}

-- a count that stays 0 did not rise
pub stays_zero : ¬ Rose 0 0
stays_zero rose = omega (arith, rose)

-- a clean sink with more room than a text has bytes has no fault after a prefix of the text
pub never_full : (room n faults : ℕ) (text written : List ℕ) →
    IsClean room written faults → length text < room → written ≡ take n text → ¬ Rose 0 faults
never_full room n faults text written clean enough front rose =
    let short : length written < room = omega (arith, enough, length-take n text, ap length front) in
    omega (arith, rose, clean.unfailed short)
