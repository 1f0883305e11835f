-- Sums over the cells of a slot.
use Rattle.std.proofs.Common.{ℕ, ◌≡◌, ◌≢◌, ◌+◌, ◌-◌, ◌*◌, ◌<◌, ◌≤◌, List, length, get_or, set, take, drop, replicate, sum, arith, ap, sym, ◌∙◌, inl, inr}
use Rattle.std.proofs.lemmas.Bool.{cases_lt}
use Rattle.std.proofs.lemmas.List.{drop-set-add, drop-set-lt, take-set-le, length-take, length-drop, get_or-take, get_or-drop, drop-replicate, take-replicate}
use Rattle.std.proofs.lemmas.List.Sums.{sum_by-set, get_or-le-sum_by}
use Rattle.std.proofs.lemmas.List.Folds.{sum_by-replicate}
use Rattle.std.proofs.lemmas.Nat.{row_fits}
use Rattle.std.proofs.Math.Seq.{take-set-lt}

-- the cells of the slot `s`, if each slot has `K`
abbrev pub row : ℕ → List ℕ → ℕ → List ℕ
row K xs s = take K (drop (s * K) xs)

module _ (K : ℕ) (xs : List ℕ) (s k : ℕ) (kind : k < K) (known : s * K + k < length xs) where
  pub row_length : k < length (row K xs s)
  row_length = omega (arith, length-take K (drop (s * K) xs), length-drop (s * K) xs)

  pub row_read : get_or (row K xs s) k 0 ≡ get_or xs (s * K + k) 0
  row_read = get_or-take K (drop (s * K) xs) k 0 kind ∙ get_or-drop (s * K) xs k 0

  pub cell_le_row : get_or xs (s * K + k) 0 ≤ sum (row K xs s)
  cell_le_row = omega (arith, row_read, get_or-le-sum_by (λ x. x) (row K xs s) k 0 row_length)

  pub row_set : (n : ℕ) → row K (set xs (s * K + k) n) s ≡ set (row K xs s) k n
  row_set n = ap (λ ys. take K ys) (drop-set-add (s * K) xs k n) ∙ take-set-lt K (drop (s * K) xs) k n kind

  -- a change of a cell changes the sum of its slot alike
  pub row_same : (n : ℕ) → sum (row K (set xs (s * K + k) n) s) + get_or xs (s * K + k) 0 ≡ sum (row K xs s) + n
  row_same n =
      omega (arith, ap (λ ys. sum ys) (row_set n), row_read, sum_by-set (λ x. x) (row K xs s) k n 0 row_length)

  -- and no other
  pub row_other : (t n : ℕ) → t ≢ s → row K (set xs (s * K + k) n) t ≡ row K xs t
  row_other t n ne = elim (cases_lt t s) [
    | inl before ↦
        let after : t * K + K ≤ s * K = row_fits t K s K before (omega arith) in
        let j : ℕ = s * K + k - t * K in
        let place : t * K + j ≡ s * K + k = omega arith in
        ap (λ i. row K (set xs i n) t) (sym place)
        ∙ ap (λ ys. take K ys) (drop-set-add (t * K) xs j n)
        ∙ take-set-le K (drop (t * K) xs) j n (omega arith)
    | inr behind ↦
        let before : s * K + K ≤ t * K = row_fits s K t K (omega arith) (omega arith) in
        ap (λ ys. take K ys) (drop-set-lt (t * K) xs (s * K + k) n (omega arith))
  ]

pub row_of_zeros : (K slots s : ℕ) → s < slots → sum (row K (replicate (slots * K) 0) s) ≡ 0
row_of_zeros K slots s known =
    let fits : s * K + K ≤ slots * K = row_fits s K slots K known (omega arith) in
    let zeros : row K (replicate (slots * K) 0) s ≡ replicate K 0 = ap (λ ys. take K ys) (drop-replicate (s * K) (slots * K) 0) ∙ take-replicate K (slots * K - s * K) 0 (omega arith) in
    omega (arith, ap (λ ys. sum ys) zeros, sum_by-replicate (λ (x : ℕ). x) K 0)
