-- Blocks in a row: their heads, and where a head stands to them.
use Rattle.std.proofs.Common.{ℕ, suc, ◌≡◌, ◌<◌, List, [], ◌∷◌, ◌++◌, length, get_or, take, drop, arith, refl, sym, ◌∙◌, ap, subst}
use Rattle.std.specs.List.{All}
use Rattle.std.proofs.lemmas.Int.{ints}
use Rattle.std.proofs.lemmas.List.{take-append-drop, get_or_default}
use Rattle.std.proofs.lemmas.List.Concat.{flat_map-append}
use Rattle.std.proofs.lemmas.List.Elements.{All-nil, All-head, All-append, All-weaker}
use Rattle.std.proofs.Math.Seq.{drop-cons}
use Rattle.shared_order.specs.Heads.{HeadView, HeadBefore, IsSorted}
use Rattle.shared_order.specs.Blocks.{all_heads, block_at, NoneIsEmpty}
use Rattle.shared_order.proofs.Sorting.{before_goes_on, sorted-split, sorted-head, before_all, All-left, All-right}

pub heads-append : (bs cs : List (List HeadView)) → all_heads (bs ++ cs) ≡ all_heads bs ++ all_heads cs
heads-append bs cs = flat_map-append (λ b. b) bs cs

-- the blocks before one, it, and those after it
pub parts : (bs : List (List HeadView)) (at : ℕ) → at < length bs → bs ≡ take at bs ++ block_at bs at ∷ drop (suc at) bs
parts bs at l = sym (take-append-drop at bs) ∙ ap (λ t. take at bs ++ t) (drop-cons bs at [] l)

pub heads_parts : (bs : List (List HeadView)) (at : ℕ) → at < length bs → all_heads bs ≡ all_heads (take at bs) ++ (block_at bs at ++ all_heads (drop (suc at) bs))
heads_parts bs at l = ap all_heads (parts bs at l) ∙ heads-append (take at bs) (block_at bs at ∷ drop (suc at) bs)

-- a head before the first of a block that does not come before another head
pub before_not_after : (x f h : HeadView) → HeadBefore x f → ¬ HeadBefore h f → HeadBefore x h
before_not_after x f h p n = grind (arith, ints)

-- a list that does not wholly come after a head: each head before the list comes before that head
pub before_list : (h : HeadView) (xs ys : List HeadView) → IsSorted (xs ++ ys) → ¬ All (HeadBefore h) ys → All (λ x. HeadBefore x h) xs
before_list h xs [] s n = absurd (n (All-nil (HeadBefore h)))
before_list h xs (f ∷ ys) s n =
    let t = sorted-split xs (f ∷ ys) s in
    let m : ¬ HeadBefore h f = λ p. n ((before_all h f ys t.second).0 p) in
    All-weaker (λ x. All (HeadBefore x) (f ∷ ys)) (λ x. HeadBefore x h) (λ x a. before_not_after x f h (All-head (HeadBefore x) f ys a) m) xs t.across

-- a list that comes after a head and has a first: so does all that comes after it
pub after_list : (h : HeadView) (ys zs : List HeadView) → IsSorted (ys ++ zs) → 0 < length ys → All (HeadBefore h) ys → All (HeadBefore h) zs
after_list h [] zs s l a = absurd (omega arith)
after_list h (f ∷ ys) zs s l a =
    let b = All-right (HeadBefore f) ys zs (sorted-head f (ys ++ zs) s) in
    let p = All-head (HeadBefore h) f ys a in
    All-weaker (HeadBefore f) (HeadBefore h) (λ z q. before_goes_on h f z p q) zs b

-- a block that was read
pub block_is : (bs : List (List HeadView)) (at : ℕ) (b : List HeadView) → at < length bs → b ≡ get_or bs at b → b ≡ block_at bs at
block_is bs at b l e = e ∙ get_or_default bs at b [] l

-- where a block comes after a head, so do the blocks from there on
pub after_from : (h : HeadView) (bs : List (List HeadView)) (at : ℕ) (b : List HeadView) → at < length bs → b ≡ block_at bs at → NoneIsEmpty bs → IsSorted (all_heads bs) → All (HeadBefore h) b → All (HeadBefore h) (all_heads (drop at bs))
after_from h bs at b l e f s a =
    let whole : IsSorted (all_heads (take at bs) ++ (block_at bs at ++ all_heads (drop (suc at) bs))) = rw (← heads_parts bs at l) s in
    let rest = (sorted-split (all_heads (take at bs)) (block_at bs at ++ all_heads (drop (suc at) bs)) whole).second in
    let there = subst (All (HeadBefore h)) e a in
    let back = after_list h (block_at bs at) (all_heads (drop (suc at) bs)) rest (f at [] l) there in
    rw (drop-cons bs at [] l) (All-append (HeadBefore h) (block_at bs at) (all_heads (drop (suc at) bs)) there back)

-- where a block does not wholly come after a head, the blocks before it come before the head
pub before_from : (h : HeadView) (bs : List (List HeadView)) (at : ℕ) (b : List HeadView) → at < length bs → b ≡ block_at bs at → IsSorted (all_heads bs) → ¬ All (HeadBefore h) b → All (λ x. HeadBefore x h) (all_heads (take at bs))
before_from h bs at b l e s n =
    let whole : IsSorted (all_heads (take at bs) ++ (block_at bs at ++ all_heads (drop (suc at) bs))) = rw (← heads_parts bs at l) s in
    before_list h (all_heads (take at bs)) (block_at bs at ++ all_heads (drop (suc at) bs)) whole
    (λ a. n (subst (All (HeadBefore h)) (sym e) (All-left (HeadBefore h) (block_at bs at) (all_heads (drop (suc at) bs)) a)))

-- a block that was read in its row
pub read_block : (bs us : List (List HeadView)) (at : ℕ) (r hs : List HeadView) → us ≡ bs → r ≡ get_or us at r → hs ≡ r → at < length bs → hs ≡ block_at bs at
read_block bs us at r hs u e h l = h ∙ block_is bs at r l (e ∙ ap (λ x. get_or x at r) u)

pub none_left : (xs : List HeadView) → length xs ≡ 0 → xs ≡ []
none_left [] e = refl
none_left (x ∷ xs) e = absurd (omega (arith, e))
