-- The parts by which workers stagger a start.
use Rattle.std.proofs.Common.{ℕ, ◌+◌, ◌-◌, ◌*◌, ◌/◌, ◌<◌, ◌≤◌, ◌≡◌, arith}
use Rattle.std.proofs.lemmas.Nat.{mul-le, le-div}
use Rattle.std.proofs.Math.Nat.{div-mul-le_self}
use Rattle.vt_fixed.specs.Rounding.{part_of}
use Rattle.vt_fixed.proofs.Bounds.{part_le}
use Rattle.fq_model.specs.Ever.{greatest_part}
use Rattle.fq_model.specs.declared.config.Config.{Config}

-- (p + 1 workers in the pool, of which i is one, and k beyond it)
part_scaled : (q i p k len M : ℕ) → q * (p + 1) ≤ i * len → q ≤ M → i ≤ p → len ≤ M → q * (p + 1 + k) ≤ (p + k) * M
part_scaled q i p k len M low less known short =
    let a : i * len ≤ p * M = mul-le i len p M known short in
    let b : q * k ≤ M * k = mul-le q k M k less (omega arith) in
    omega (arith, low, a, b)

part_within : (q i pool n len M : ℕ) → q * pool ≤ i * len → q ≤ M → i < pool → pool ≤ n → len ≤ M → q * n ≤ (n - 1) * M
part_within q i pool n len M low less known few short =
    let e : pool - 1 + 1 ≡ pool = omega (arith, known) in
    let f : pool - 1 + 1 + (n - pool) ≡ n = omega (arith, known, few) in
    let g : pool - 1 + (n - pool) ≡ n - 1 = omega (arith, known, few) in
    let s : q * (pool - 1 + 1 + (n - pool)) ≤ (pool - 1 + (n - pool)) * M = part_scaled q i (pool - 1) (n - pool) len M (rw e low) less (omega (arith, known)) short in
    rw (f, g) at s

-- no part of a length that is at most M passes the greatest one
pub part_low : (C : Config) (len i pool M : ℕ) → len ≤ M → i < pool → pool ≤ C.workers → part_of len i pool ≤ greatest_part C M
unfolding part_of
part_low C len i pool M short known few =
    le-div (i * len / pool) ((C.workers - 1) * M) C.workers (omega (arith, known, few))
    (part_within (i * len / pool) i pool C.workers len M (div-mul-le_self (i * len) pool) (omega (arith, part_le len i pool known, short)) known few short)
