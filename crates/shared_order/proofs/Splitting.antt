-- Blocks after a split.
use Rattle.std.proofs.Common.{ℕ, zero, suc, ◌≡◌, ◌+◌, ◌-◌, ◌*◌, ◌<◌, List, [], ◌∷◌, ◌++◌, length, get_or, take, drop, arith, refl, sym, ◌∙◌, ap, append_assoc, length-take, length-drop}
use Rattle.std.specs.List.{All}
use Rattle.std.proofs.lemmas.List.{take-append-drop}
use Rattle.std.proofs.lemmas.List.Elements.{All-append, All-cons, All-take, All-drop}
use Rattle.shared_order.specs.Heads.{HeadView, HeadBefore}
use Rattle.shared_order.specs.Blocks.{all_heads, block_at, IsDense, IsBlockOf, KeepsOrder, with_halves}
use Rattle.shared_order.proofs.Dense.{IsFilled, dense-halved, dense-count}
use Rattle.shared_order.proofs.Rows.{heads-append, heads_parts, parts, before_from, block_is}

-- a block is left where an order has room
pub spare_left : (used : List (List HeadView)) (spare : ℕ) → IsDense used → 0 < length used → length (all_heads used) < 8 * (length used + spare - 1) → 0 < spare
spare_left [] spare d l r = absurd (omega arith)
spare_left (b ∷ bs) spare d l r = omega (arith, dense-count b bs d)

-- ---- the two halves in their row

abbrev pub first_half : List (List HeadView) → ℕ → List HeadView
first_half bs at = take 16 (block_at bs at)

abbrev pub second_half : List (List HeadView) → ℕ → List HeadView
second_half bs at = drop 16 (block_at bs at)

halves_front : (bs : List (List HeadView)) (at : ℕ) → at < length bs → take at (with_halves bs at) ≡ take at bs
halves_front [] at l = absurd (omega arith)
halves_front (b ∷ bs) zero l = refl
halves_front (b ∷ bs) (suc at) l = ap (λ t. b ∷ t) (halves_front bs at (omega arith))

halves_next_front : (bs : List (List HeadView)) (at : ℕ) → at < length bs → take (suc at) (with_halves bs at) ≡ take at bs ++ first_half bs at ∷ []
halves_next_front [] at l = absurd (omega arith)
halves_next_front (b ∷ bs) zero l = refl
halves_next_front (b ∷ bs) (suc at) l = ap (λ t. b ∷ t) (halves_next_front bs at (omega arith))

halves_back : (bs : List (List HeadView)) (at : ℕ) → at < length bs → drop (suc at) (with_halves bs at) ≡ second_half bs at ∷ drop (suc at) bs
halves_back [] at l = absurd (omega arith)
halves_back (b ∷ bs) zero l = refl
halves_back (b ∷ bs) (suc at) l = halves_back bs at (omega arith)

halves_next_back : (bs : List (List HeadView)) (at : ℕ) → at < length bs → drop (suc (suc at)) (with_halves bs at) ≡ drop (suc at) bs
halves_next_back [] at l = absurd (omega arith)
halves_next_back (b ∷ bs) zero l = refl
halves_next_back (b ∷ bs) (suc at) l = halves_next_back bs at (omega arith)

pub halves_at : (bs : List (List HeadView)) (at : ℕ) → at < length bs → block_at (with_halves bs at) at ≡ first_half bs at
halves_at [] at l = absurd (omega arith)
halves_at (b ∷ bs) zero l = refl
halves_at (b ∷ bs) (suc at) l = halves_at bs at (omega arith)

pub halves_next : (bs : List (List HeadView)) (at : ℕ) → at < length bs → block_at (with_halves bs at) (suc at) ≡ second_half bs at
halves_next [] at l = absurd (omega arith)
halves_next (b ∷ bs) zero l = refl
halves_next (b ∷ bs) (suc at) l = halves_next bs at (omega arith)

pub halves_count : (bs : List (List HeadView)) (at : ℕ) → at < length bs → length (with_halves bs at) ≡ suc (length bs)
halves_count [] at l = absurd (omega arith)
halves_count (b ∷ bs) zero l = refl
halves_count (b ∷ bs) (suc at) l = ap suc (halves_count bs at (omega arith))

-- ---- the heads and the order stay

pub halves_heads : (bs : List (List HeadView)) (at : ℕ) → at < length bs → all_heads (with_halves bs at) ≡ all_heads bs
halves_heads bs at l =
    let c = first_half bs at in
    let d = second_half bs at in
    let q = all_heads (drop (suc at) bs) in
    heads-append (take at bs) (c ∷ d ∷ drop (suc at) bs)
    ∙ ap (λ t. all_heads (take at bs) ++ t) (sym (append_assoc c d q) ∙ ap (λ b. b ++ q) (take-append-drop 16 (block_at bs at)))
    ∙ sym (heads_parts bs at l)

pub halves_keep : (bs : List (List HeadView)) (at : ℕ) → at < length bs → length (block_at bs at) ≡ 32 → KeepsOrder bs → KeepsOrder (with_halves bs at)
halves_keep bs at l full k =
    let b = block_at bs at in
    let c : length (take 16 b) ≡ 16 = omega (arith, length-take 16 b) in
    let d : length (drop 16 b) ≡ 16 = omega (arith, length-drop 16 b) in
    let p = All-take IsFilled at bs k.filled in
    let q = All-drop IsFilled (suc at) bs k.filled in
    let whole : IsDense (take at bs ++ b ∷ drop (suc at) bs) = rw (← parts bs at l) (k.dense) in
    record {
      sorted = rw (halves_heads bs at l) (k.sorted);
      filled = All-append IsFilled (take at bs) (take 16 b ∷ drop 16 b ∷ drop (suc at) bs) p (All-cons IsFilled (take 16 b) (drop 16 b ∷ drop (suc at) bs) (omega arith) (All-cons IsFilled (drop 16 b) (drop (suc at) bs) (omega arith) q));
      dense = dense-halved (take at bs) b (take 16 b) (drop 16 b) (drop (suc at) bs) c d p q whole;
    }

-- ---- the half that a head belongs to

pub first_half_is : (h : HeadView) (bs : List (List HeadView)) (at : ℕ) → IsBlockOf h bs at → All (HeadBefore h) (second_half bs at) → IsBlockOf h (with_halves bs at) at
first_half_is h bs at p a = record {
  known = omega (arith, halves_count bs at p.known, p.known);
  before = rw (halves_front bs at p.known) (p.before);
  after = rw (halves_back bs at p.known) (All-append (HeadBefore h) (second_half bs at) (all_heads (drop (suc at) bs)) a p.after);
}

pub second_half_is : (h : HeadView) (bs : List (List HeadView)) (at : ℕ) → IsBlockOf h bs at → KeepsOrder bs → ¬ All (HeadBefore h) (second_half bs at) → IsBlockOf h (with_halves bs at) (suc at)
second_half_is h bs at p k n = record {
  known = omega (arith, halves_count bs at p.known, p.known);
  before = before_from h (with_halves bs at) (suc at) (second_half bs at) (omega (arith, halves_count bs at p.known, p.known)) (sym (halves_next bs at p.known)) (rw (halves_heads bs at p.known) (k.sorted)) n;
  after = rw (halves_next_back bs at p.known) (p.after);
}

-- the second half, read in the row
pub second_read : (bs us vs : List (List HeadView)) (at i : ℕ) (r : List HeadView) → vs ≡ us → us ≡ with_halves bs at → r ≡ get_or vs i r → i ≡ suc at → at < length bs → r ≡ second_half bs at
second_read bs us vs at i r v u e n l =
    let f : r ≡ get_or (with_halves bs at) (suc at) r = e ∙ ap (λ x. get_or x i r) (v ∙ u) ∙ ap (λ j. get_or (with_halves bs at) j r) n in
    block_is (with_halves bs at) (suc at) r (omega (arith, halves_count bs at l)) f ∙ halves_next bs at l

pub first_has_room : (bs : List (List HeadView)) (at : ℕ) → at < length bs → length (block_at bs at) ≡ 32 → length (block_at (with_halves bs at) at) < 32
first_has_room bs at l full = omega (arith, ap length (halves_at bs at l), length-take 16 (block_at bs at))

pub second_has_room : (bs : List (List HeadView)) (at : ℕ) → at < length bs → length (block_at bs at) ≡ 32 → length (block_at (with_halves bs at) (suc at)) < 32
second_has_room bs at l full = omega (arith, ap length (halves_next bs at l), length-drop 16 (block_at bs at))
