-- Blocks of which one lost a head, after they are settled.
use Rattle.std.proofs.Common.{ℕ, zero, suc, ◌≡◌, ◌+◌, ◌<◌, List, [], ◌∷◌, ◌++◌, length, take, drop, arith, ◌⊎◌, inl, inr, refl, sym, ◌∙◌, ap, subst, length-append, append_assoc, add-one, length-take, length-drop}
use Rattle.std.specs.List.{remove}
use Rattle.std.proofs.lemmas.List.{take_more}
use Rattle.std.proofs.lemmas.List.Elements.{All-append, All-cons, All-same, All-take, All-drop}
use Rattle.std.proofs.lemmas.Bool.{cases_lt}
use Rattle.std.proofs.Math.Seq.{drop-cons}
use Rattle.shared_order.specs.Heads.{HeadView, IsSorted}
use Rattle.shared_order.specs.Blocks.{all_heads, block_at, NoneIsEmpty, IsDense, IsThinned, IsSmallPair, KeepsOrder, with_joined}
use Rattle.shared_order.proofs.Sorting.{sorted-split}
use Rattle.shared_order.proofs.Dense.{IsFilled, dense-joined, dense-closed, dense-thinned, meets_last, meets_first, MeetsLast}
use Rattle.shared_order.proofs.Rows.{heads-append, heads_parts, parts}

-- ---- a block that has no heads now

pub closed_heads : (bs : List (List HeadView)) (at : ℕ) → IsThinned bs at → block_at bs at ≡ [] → all_heads (remove bs at) ≡ all_heads bs
closed_heads bs at t e = heads-append (take at bs) (drop (suc at) bs) ∙ sym (heads_parts bs at t.known ∙ ap (λ b. all_heads (take at bs) ++ (b ++ all_heads (drop (suc at) bs))) e)

pub closed_keeps : (bs : List (List HeadView)) (at : ℕ) → IsThinned bs at → block_at bs at ≡ [] → KeepsOrder (remove bs at)
closed_keeps bs at t e = record {
  sorted = rw (closed_heads bs at t e) (t.sorted);
  filled = All-append (λ b. 0 < length b) (take at bs) (drop (suc at) bs) t.filled_before t.filled_after;
  dense = dense-closed (take at bs) t.fuller (drop (suc at) bs) (t.one_more ∙ ap (λ b. suc (length b)) e) t.dense;
}

-- ---- a block that is joined with the next one

next_parts : (bs : List (List HeadView)) (at : ℕ) → suc at < length bs → drop (suc at) bs ≡ block_at bs (suc at) ∷ drop (suc (suc at)) bs
next_parts bs at l = drop-cons bs (suc at) [] l

pub joined_heads : (bs : List (List HeadView)) (at : ℕ) → suc at < length bs → all_heads (with_joined bs at) ≡ all_heads bs
joined_heads bs at l =
    let b = block_at bs at in
    let c = block_at bs (suc at) in
    let q = drop (suc (suc at)) bs in
    heads-append (take at bs) ((b ++ c) ∷ q)
    ∙ ap (λ t. all_heads (take at bs) ++ t) (append_assoc b c (all_heads q) ∙ ap (λ r. b ++ all_heads r) (sym (next_parts bs at l)))
    ∙ sym (heads_parts bs at (omega arith))

pub neighbours_sorted : (bs : List (List HeadView)) (at : ℕ) → suc at < length bs → IsSorted (all_heads bs) → IsSorted (block_at bs at ++ block_at bs (suc at))
neighbours_sorted bs at l s =
    let b = block_at bs at in
    let c = block_at bs (suc at) in
    let q = all_heads (drop (suc (suc at)) bs) in
    let e : all_heads bs ≡ all_heads (take at bs) ++ ((b ++ c) ++ q) = sym (joined_heads bs at l) ∙ heads-append (take at bs) ((b ++ c) ∷ drop (suc (suc at)) bs) in
    let whole : IsSorted (all_heads (take at bs) ++ ((b ++ c) ++ q)) = rw (← e) s in
    (sorted-split (b ++ c) q (sorted-split (all_heads (take at bs)) ((b ++ c) ++ q) whole).second).first

-- the block has heads still
all_filled : (bs : List (List HeadView)) (at : ℕ) → IsThinned bs at → 0 < length (block_at bs at) → NoneIsEmpty bs
all_filled bs at t l = All-same IsFilled bs _ (parts bs at t.known) (All-append IsFilled (take at bs) (block_at bs at ∷ drop (suc at) bs) t.filled_before (All-cons IsFilled (block_at bs at) (drop (suc at) bs) l t.filled_after))

joined_filled : (bs : List (List HeadView)) (k : ℕ) → suc k < length bs → NoneIsEmpty bs → NoneIsEmpty (with_joined bs k)
joined_filled bs k l f =
    let b = block_at bs k in
    let c = block_at bs (suc k) in
    let n = f k [] (omega arith) in
    All-append IsFilled (take k bs) ((b ++ c) ∷ drop (suc (suc k)) bs) (All-take IsFilled k bs f)
    (All-cons IsFilled (b ++ c) (drop (suc (suc k)) bs) (omega (arith, length-append b c)) (All-drop IsFilled (suc (suc k)) bs f))

-- with the next one
joined_dense : (bs : List (List HeadView)) (at : ℕ) → IsThinned bs at → suc at < length bs → NoneIsEmpty bs → IsDense (with_joined bs at)
joined_dense bs at t l f =
    let b = block_at bs at in
    let c = block_at bs (suc at) in
    let n = f (suc at) [] l in
    let d : IsDense (take at bs ++ t.fuller ∷ c ∷ drop (suc (suc at)) bs) = rw (← next_parts bs at l) (t.dense) in
    dense-joined (take at bs) t.fuller c (b ++ c) (drop (suc (suc at)) bs) (omega (arith, length-append b c, t.one_more)) (omega (arith, length-append b c)) d

-- with the block before it
joined_dense_before : (bs : List (List HeadView)) (k : ℕ) → IsThinned bs (suc k) → NoneIsEmpty bs → IsDense (with_joined bs k)
joined_dense_before bs k t f =
    let b = block_at bs k in
    let c = block_at bs (suc k) in
    let l = t.known in
    let n = f k [] (omega arith) in
    let e : take (suc k) bs ≡ take k bs ++ b ∷ [] = ap (λ i. take i bs) (sym (add-one k)) ∙ take_more bs k [] (omega arith) in
    let g : take (suc k) bs ++ t.fuller ∷ drop (suc (suc k)) bs ≡ take k bs ++ b ∷ t.fuller ∷ drop (suc (suc k)) bs = ap (λ p. p ++ t.fuller ∷ drop (suc (suc k)) bs) e ∙ append_assoc (take k bs) (b ∷ []) (t.fuller ∷ drop (suc (suc k)) bs) in
    let d : IsDense (take k bs ++ b ∷ t.fuller ∷ drop (suc (suc k)) bs) = rw (← g) (t.dense) in
    dense-joined (take k bs) b t.fuller (b ++ c) (drop (suc (suc k)) bs) (omega (arith, length-append b c)) (omega (arith, length-append b c, t.one_more)) d

pub pair_keeps : (bs : List (List HeadView)) (at first : ℕ) → IsThinned bs at → 0 < length (block_at bs at) → IsSmallPair bs at first → KeepsOrder (with_joined bs first)
pair_keeps bs at first t l p =
    let f = all_filled bs at t l in
    record {
      sorted = rw (joined_heads bs first p.small.known) (t.sorted);
      filled = joined_filled bs first p.small.known f;
      dense = elim p.among [
        | inl e ↦ joined_dense bs first (subst (IsThinned bs) (sym e) t) p.small.known f
        | inr e ↦ joined_dense_before bs first (subst (IsThinned bs) (sym e) t) f
      ];
    }

-- ---- a block that has no small neighbour

not_small : (bs : List (List HeadView)) (at k : ℕ) → ((first : ℕ) → ¬ IsSmallPair bs at first) → (k ≡ at) ⊎ (suc k ≡ at) → suc k < length bs → 16 < length (block_at bs k) + length (block_at bs (suc k))
not_small bs at k none among l = elim (cases_lt 16 (length (block_at bs k) + length (block_at bs (suc k)))) [
  | inl less ↦ less
  | inr more ↦ absurd (none k (record { small = record { known = l; small = more }; among = among }))
]

quiet_last : (bs : List (List HeadView)) (at : ℕ) → at < length bs → ((first : ℕ) → ¬ IsSmallPair bs at first) → MeetsLast (take at bs) (block_at bs at)
quiet_last [] zero l none = absurd (omega arith)
quiet_last (b ∷ bs) zero l none = tt
quiet_last bs (suc k) l none = meets_last bs k (block_at bs (suc k)) (omega arith) (not_small bs (suc k) k none (inr refl) l)

pub quiet_keeps : (bs : List (List HeadView)) (at : ℕ) → IsThinned bs at → 0 < length (block_at bs at) → ((first : ℕ) → ¬ IsSmallPair bs at first) → KeepsOrder bs
quiet_keeps bs at t l none = record {
  sorted = t.sorted;
  filled = all_filled bs at t l;
  dense = rw (parts bs at t.known) (dense-thinned (take at bs) t.fuller (block_at bs at) (drop (suc at) bs) (quiet_last bs at t.known none)
      (meets_first bs (suc at) (block_at bs at) (λ m. not_small bs at at none (inl refl) m)) t.dense);
}

-- there is one block less then
pub joined_count : (bs : List (List HeadView)) (k : ℕ) → suc k < length bs → suc (length (with_joined bs k)) ≡ length bs
joined_count bs k l = omega (arith, length-append (take k bs) ((block_at bs k ++ block_at bs (suc k)) ∷ drop (suc (suc k)) bs), length-take k bs, length-drop (suc (suc k)) bs)
