-- Gifts and their sums: they rise with the level.
use Rattle.std.proofs.Common.{ℕ, suc, ◌+◌, ◌*◌, ◌/◌, ◌<◌, ◌≤◌, ◌≡◌, cond, ltb, List, [], ◌∷◌, length, All, arith, refl}
use Rattle.std.proofs.lemmas.List.Sums.{sum_by-le-sum_by, sum_by-le, sum_by-cons}
use Rattle.std.proofs.lemmas.Nat.{le-div, mul-le, div_below}
use Rattle.std.proofs.Math.Nat.{div-mul-le_self, lt-div-mul-add, add-mul}
use Rattle.std.proofs.lemmas.Bool.Decides.{nat_tests}
use Rattle.fq_model.specs.declared.limits.TheConstants.{TEXT_TENANTS}
use Rattle.fq_model.specs.declared.level.Backlog.{Backlog}
use Rattle.fq_model.specs.Level.{gift_at, gifts_at, total_units, with_backlog}
use Rattle.water_level.specs.Backlogs.{IsBacklog}

pub div_mono : (a b k : ℕ) → 0 < k → a ≤ b → a / k ≤ b / k
div_mono a b k h ab = let t : a / k * k ≤ b = omega (arith, div-mul-le_self a k) in le-div (a / k) b k h t

share_mono : (x y w : ℕ) → x ≤ y → x * w / 1024 ≤ y * w / 1024
share_mono x y w h = div_mono (x * w) (y * w) 1024 (omega arith) (mul-le x w y w h (omega arith))

-- a higher level gives no less
gift_mono : (x y : ℕ) (b : Backlog) → x ≤ y → gift_at x b ≤ gift_at y b
gift_mono x y b h = omega (arith, share_mono x y b.weight h)

pub gifts_mono : (x y : ℕ) (rows : List Backlog) → x ≤ y → gifts_at x rows ≤ gifts_at y rows
gifts_mono x y rows h = sum_by-le-sum_by (gift_at x) (gift_at y) rows (λ b. gift_mono x y b h)

-- level 0 gives nothing, and no level more than all
pub gifts_none : (rows : List Backlog) → gifts_at 0 rows ≡ 0
gifts_none [] = refl
gifts_none (b ∷ rows) = rw (sum_by-cons (gift_at 0) b rows) (omega (arith, gifts_none rows))

pub gifts_low : (x : ℕ) (rows : List Backlog) → gifts_at x rows ≤ total_units rows
gifts_low x rows = sum_by-le-sum_by (gift_at x) (λ b. b.units) rows (λ b. omega arith)

-- one level more gives each backlog at most one unit more
share_step : (x w : ℕ) → w ≤ 1000 → (x + 1) * w / 1024 ≤ x * w / 1024 + 1
share_step x w h =
    let up : x * w < x * w / 1024 * 1024 + 1024 = lt-div-mul-add (omega arith) in
    let p : (x + 1) * w ≡ x * w + 1 * w = add-mul x 1 w in
    let d : (x + 1) * w / 1024 < x * w / 1024 + 2 = div_below ((x + 1) * w) 1024 (x * w / 1024 + 2) (omega arith) (omega arith) in
    omega arith

gift_step : (x : ℕ) (b : Backlog) → IsBacklog b → gift_at (x + 1) b ≤ gift_at x b + cond (ltb 0 b.units) 1 0
gift_step x b r = let s = share_step x b.weight r.weight.1 in grind (arith, nat_tests)

pub gifts_step : (x : ℕ) (rows : List Backlog) → All IsBacklog rows → gifts_at (x + 1) rows ≤ gifts_at x rows + with_backlog rows
gifts_step x [] a = omega arith
gifts_step x (b ∷ rows) a =
    let one = gift_step x b (a 0 b (omega arith)) in
    let rest : gifts_at (x + 1) rows ≤ gifts_at x rows + with_backlog rows = gifts_step x rows (λ k d h. a (suc k) d (omega arith)) in
    rw (sum_by-cons (gift_at (x + 1)) b rows, sum_by-cons (gift_at x) b rows, sum_by-cons (λ c. cond (ltb 0 c.units) 1 0) b rows) (omega (arith, one, rest))

-- the units of few backlogs in all
pub total_bound : (rows : List Backlog) → All IsBacklog rows → length rows ≤ TEXT_TENANTS → total_units rows ≤ 8192000000000000000
total_bound rows a h = omega (arith, sum_by-le (λ b. b.units) 2000000000000000 rows (λ k d l. (a k d l).units))
