-- Blocks in a row after each of their calls.
use Rattle.std.proofs.Common.{ℕ, zero, suc, ◌≡◌, ◌+◌, ◌<◌, List, [], ◌∷◌, ◌++◌, length, get_or, set, take, drop, arith, refl, sym, ◌∙◌, ap, subst, add-one}
use Rattle.std.specs.List.{All, remove}
use Rattle.std.proofs.lemmas.List.{get_or_default, get_or-set_same}
use Rattle.std.proofs.lemmas.List.Edits.{get_or-remove_below}
use Rattle.shared_order.specs.Heads.{HeadView, IsSorted, Gains}
use Rattle.shared_order.specs.Blocks.{block_at, HeadJoins, HeadLeaves, with_joined}
use Rattle.shared_order.proofs.Sorting.{All-left, All-right}

-- a block is written where its next one was taken away
written : (xs : List (List HeadView)) (at : ℕ) (b : List HeadView) → suc at < length xs → set (remove xs (suc at)) at b ≡ take at xs ++ b ∷ drop (suc (suc at)) xs
written [] at b l = absurd (omega arith)
written (x ∷ xs) zero b l = refl
written (x ∷ xs) (suc at) b l = ap (λ ys. x ∷ ys) (written xs at b (omega arith))

pub joined_is : (xs rs : List (List HeadView)) (at : ℕ) (b now next : List HeadView) → suc at < length xs → rs ≡ remove xs (at + 1) → now ≡ get_or rs at now → next ≡ get_or xs (at + 1) next → b ≡ now ++ next → set rs at b ≡ with_joined xs at
joined_is xs rs at b now next l r n m e =
    let one : at + 1 ≡ suc at = add-one at in
    let first : now ≡ get_or xs at [] = n ∙ ap (λ ys. get_or ys at now) (r ∙ ap (remove xs) one) ∙ get_or-remove_below xs (suc at) now at (omega arith) l ∙ get_or_default xs at now [] (omega arith) in
    let second : next ≡ get_or xs (suc at) [] = m ∙ ap (λ i. get_or xs i next) one ∙ get_or_default xs (suc at) next [] l in
    rw (r, one) (written xs at b l ∙ ap (λ ys. take at xs ++ ys ∷ drop (suc (suc at)) xs) (rw (e, first, second) refl))

-- a block of the row, under another name of the row
pub read_at : (old xs : List (List HeadView)) (at : ℕ) (now : List HeadView) → xs ≡ old → at < length xs → now ≡ get_or xs at now → now ≡ block_at old at
read_at old xs at now e l n = n ∙ (get_or_default xs at now [] l ∙ ap (λ ys. get_or ys at []) e)

-- one block is written
pub joins_at : (old xs : List (List HeadView)) (at : ℕ) (h : HeadView) (now b : List HeadView) → xs ≡ old → at < length xs → now ≡ get_or xs at now → Gains now h b → IsSorted b → HeadJoins old at h (set xs at b)
joins_at old xs at h now b e l n g s =
    let same : block_at (set xs at b) at ≡ b = get_or-set_same xs at b [] l in record {
      gains = subst (Gains (block_at old at) h) (sym same) (subst (λ c. Gains c h b) (read_at old xs at now e l n) g);
      sorted = subst IsSorted (sym same) s;
      others = ap (λ ys. set ys at b) e ∙ ap (set old at) (sym same);
    }

pub leaves_at : (old xs : List (List HeadView)) (at : ℕ) (h : HeadView) (now b : List HeadView) → xs ≡ old → at < length xs → now ≡ get_or xs at now → Gains b h now → HeadLeaves old at h (set xs at b)
leaves_at old xs at h now b e l n g =
    let same : block_at (set xs at b) at ≡ b = get_or-set_same xs at b [] l in record {
      gains = subst (λ c. Gains c h (block_at old at)) (sym same) (subst (Gains b h) (read_at old xs at now e l n) g);
      others = ap (λ ys. set ys at b) e ∙ ap (set old at) (sym same);
    }

-- the last of blocks that have no heads is taken
pub last_taken : (xs ys : List (List HeadView)) (b : List HeadView) → xs ≡ ys ++ b ∷ [] → All (λ x. x ≡ []) xs → All (λ x. x ≡ []) ys × (b ≡ [])
last_taken xs ys b e none =
    let all : All (λ x. x ≡ []) (ys ++ b ∷ []) = subst (All (λ x. x ≡ [])) e none in
    (All-left (λ x. x ≡ []) ys (b ∷ []) all, All-right (λ x. x ≡ []) ys (b ∷ []) all 0 [] (omega arith))
