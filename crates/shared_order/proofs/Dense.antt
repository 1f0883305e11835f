-- Of two neighbours the heads together are more than half a block: before a call and after it.
use Rattle.std.proofs.Common.{ℕ, zero, suc, ◌≡◌, ◌+◌, ◌*◌, ◌<◌, ◌≤◌, List, [], ◌∷◌, ◌++◌, length, take, drop, arith, length-append}
use Rattle.std.proofs.lemmas.List.Elements.{All-head, All-tail}
use Rattle.shared_order.specs.Heads.{HeadView}
use Rattle.shared_order.specs.Blocks.{all_heads, block_at, NoneIsEmpty, IsDense}

abbrev pub IsFilled : List HeadView → Type 0
IsFilled b = 0 < length b

-- a block may get longer
pub dense-grown : (P : List (List HeadView)) (x y : List HeadView) (Q : List (List HeadView)) → length x ≤ length y → IsDense (P ++ x ∷ Q) → IsDense (P ++ y ∷ Q)
dense-grown [] x y [] le d = tt
dense-grown [] x y (q ∷ Q) le d = (omega (arith, d.0), d.1)
dense-grown (p ∷ []) x y Q le d = (omega (arith, d.0), dense-grown [] x y Q le d.1)
dense-grown (p ∷ r ∷ P) x y Q le d = (d.0, dense-grown (r ∷ P) x y Q le d.1)

-- two neighbours may become one that is as long as each
pub dense-joined : (P : List (List HeadView)) (x y z : List HeadView) (Q : List (List HeadView)) → length x ≤ length z → length y ≤ length z → IsDense (P ++ x ∷ y ∷ Q) → IsDense (P ++ z ∷ Q)
dense-joined [] x y z Q le me d = dense-grown [] y z Q me d.1
dense-joined (p ∷ []) x y z Q le me d = (omega (arith, d.0), dense-joined [] x y z Q le me d.1)
dense-joined (p ∷ r ∷ P) x y z Q le me d = (d.0, dense-joined (r ∷ P) x y z Q le me d.1)

-- one may become two halves
pub dense-halved : (P : List (List HeadView)) (x y z : List HeadView) (Q : List (List HeadView)) → length y ≡ 16 → length z ≡ 16 → NoneIsEmpty P → NoneIsEmpty Q → IsDense (P ++ x ∷ Q) → IsDense (P ++ y ∷ z ∷ Q)
dense-halved [] x y z [] e g f h d = (omega arith, tt)
dense-halved [] x y z (q ∷ Q) e g f h d = (omega arith, (omega (arith, All-head IsFilled q Q h), d.1))
dense-halved (p ∷ []) x y z Q e g f h d = (omega (arith, All-head IsFilled p [] f), dense-halved [] x y z Q e g (All-tail IsFilled p [] f) h d.1)
dense-halved (p ∷ r ∷ P) x y z Q e g f h d = (d.0, dense-halved (r ∷ P) x y z Q e g (All-tail IsFilled p (r ∷ P) f) h d.1)

-- a block of one head may go
pub dense-closed : (P : List (List HeadView)) (x : List HeadView) (Q : List (List HeadView)) → length x ≡ 1 → IsDense (P ++ x ∷ Q) → IsDense (P ++ Q)
dense-closed [] x [] e d = tt
dense-closed [] x (q ∷ Q) e d = d.1
dense-closed (p ∷ []) x [] e d = tt
dense-closed (p ∷ []) x (q ∷ Q) e d = (omega (arith, d.0, d.1.0), d.1.1)
dense-closed (p ∷ r ∷ P) x Q e d = (d.0, dense-closed (r ∷ P) x Q e d.1)

-- the last of these and a block are more than half a block together
abbrev pub MeetsLast : List (List HeadView) → List HeadView → Type 0
MeetsLast [] y = Unit {0}
MeetsLast (p ∷ []) y = 16 < length p + length y
MeetsLast (p ∷ r ∷ P) y = MeetsLast (r ∷ P) y

-- a block and the first of these are more than half a block together
abbrev pub MeetsFirst : List HeadView → List (List HeadView) → Type 0
MeetsFirst y [] = Unit {0}
MeetsFirst y (q ∷ Q) = 16 < length y + length q

pub dense-thinned : (P : List (List HeadView)) (x y : List HeadView) (Q : List (List HeadView)) → MeetsLast P y → MeetsFirst y Q → IsDense (P ++ x ∷ Q) → IsDense (P ++ y ∷ Q)
dense-thinned [] x y [] m n d = tt
dense-thinned [] x y (q ∷ Q) m n d = (n, d.1)
dense-thinned (p ∷ []) x y Q m n d = (m, dense-thinned [] x y Q tt n d.1)
dense-thinned (p ∷ r ∷ P) x y Q m n d = (d.0, dense-thinned (r ∷ P) x y Q m n d.1)

pub meets_last : (bs : List (List HeadView)) (k : ℕ) (y : List HeadView) → k < length bs → 16 < length (block_at bs k) + length y → MeetsLast (take (suc k) bs) y
meets_last [] k y l h = absurd (omega arith)
meets_last (b ∷ bs) zero y l h = h
meets_last (b ∷ []) (suc k) y l h = absurd (omega arith)
meets_last (b ∷ c ∷ bs) (suc k) y l h = meets_last (c ∷ bs) k y (omega arith) h

pub meets_first : (bs : List (List HeadView)) (k : ℕ) (y : List HeadView) → (k < length bs → 16 < length y + length (block_at bs k)) → MeetsFirst y (drop k bs)
meets_first [] zero y h = tt
meets_first [] (suc k) y h = tt
meets_first (b ∷ bs) zero y h = h (omega arith)
meets_first (b ∷ bs) (suc k) y h = meets_first bs k y (λ l. h (omega arith))

-- a bound on the blocks by the number of their heads
pub dense-count : (b : List HeadView) (bs : List (List HeadView)) → IsDense (b ∷ bs) → 17 * length bs + length b ≤ 2 * length (all_heads (b ∷ bs))
dense-count b [] d = omega (arith, length-append b (all_heads []))
dense-count b (c ∷ bs) d = omega (arith, d.0, dense-count c bs d.1, length-append b (all_heads (c ∷ bs)))
