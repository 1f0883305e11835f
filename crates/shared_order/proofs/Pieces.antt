-- Lists put together of pieces.
use Rattle.std.proofs.Common.{ℕ, ◌+◌, ◌<◌, ◌≡◌, arith, refl, sym, ◌∙◌, ap, subst, List, [], ◌∷◌, ◌++◌, length, take, drop, get_or, append_assoc, length-append, append-nil, pos, ◌≤ℤ◌}
use Rattle.std.specs.List.{All, AllPairs, Contains}
use Rattle.std.proofs.lemmas.List.{get_or_append_left, get_or-append-add, get_or_default, take_more, drop_more, take-append-drop}
use Rattle.std.proofs.lemmas.List.Concat.{flat_map-append}
use Rattle.std.proofs.lemmas.List.Elements.{All-append, All-cons, Contains-append_right}
use Rattle.vt_fixed.specs.declared.limits.TheConstants.{GREATEST_LENGTH}
use Rattle.shared_order.specs.Heads.{HeadView, HeadBefore}
use Rattle.shared_order.specs.Blocks.{all_heads}
use Rattle.shared_order.specs.Search.{AreInOrder}

-- ---- pairs

pub front_pairs : {X : Type 0} (R : X → X → Type 0) (xs ys : List X) → AllPairs R (xs ++ ys) → AllPairs R xs
front_pairs R xs ys h = λ i j d lt within. subst (λ x. R x (get_or xs j d)) (get_or_append_left xs ys d i (omega (arith, lt, within))) (subst (λ y. R (get_or (xs ++ ys) i d) y) (get_or_append_left xs ys d j within) (h i j d lt (omega (arith, within, length-append xs ys))))

pub back_pairs : {X : Type 0} (R : X → X → Type 0) (xs ys : List X) → AllPairs R (xs ++ ys) → AllPairs R ys
back_pairs R xs ys h = λ i j d lt within. subst (λ x. R x (get_or ys j d)) (get_or-append-add xs ys i d) (subst (λ y. R (get_or (xs ++ ys) (length xs + i) d) y) (get_or-append-add xs ys j d) (h (length xs + i) (length xs + j) d (omega (arith, lt)) (omega (arith, within, length-append xs ys))))

-- each of the first piece goes with all of the second
pub across_pairs : {X : Type 0} (R : X → X → Type 0) (xs ys : List X) (x : X) → AllPairs R (xs ++ ys) → Contains xs x → All (R x) ys
across_pairs R xs ys x h has = λ j d within.
    let read = get_or_append_left xs ys d has.0 has.1 ∙ (get_or_default xs has.0 d x has.1 ∙ has.2) in
    subst (λ z. R z (get_or ys j d)) read (subst (λ y. R (get_or (xs ++ ys) has.0 d) y) (get_or-append-add xs ys j d) (h has.0 (length xs + j) d (omega (arith, has.1)) (omega (arith, within, length-append xs ys))))

-- ---- all

pub all_front : {X : Type 0} (P : X → Type 0) (xs ys : List X) → All P (xs ++ ys) → All P xs
all_front P xs ys h = λ k d within. subst P (get_or_append_left xs ys d k within) (h k d (omega (arith, within, length-append xs ys)))

pub all_back : {X : Type 0} (P : X → Type 0) (xs ys : List X) → All P (xs ++ ys) → All P ys
all_back P xs ys h = λ k d within. subst P (get_or-append-add xs ys k d) (h (length xs + k) d (omega (arith, within, length-append xs ys)))

pub all_middle : {X : Type 0} (P : X → Type 0) (front : List X) (x : X) (back : List X) → All P front → P x → All P back → All P (front ++ x ∷ back)
all_middle P front x back f p b = All-append P front (x ∷ back) f (All-cons P x back p b)

pub holds_middle : {X : Type 0} (front : List X) (x : X) (back : List X) → Contains (front ++ x ∷ back) x
holds_middle front x back = Contains-append_right front (x ∷ back) x (0, omega arith, refl)

-- ---- heads of which some stand before a part, and the rest after it

pub cut_pairs : (R : HeadView → HeadView → Type 0) (heads front part rest : List HeadView) → heads ≡ front ++ (part ++ rest) → AllPairs R heads → AllPairs R part
cut_pairs R heads front part rest cut h = front_pairs R part rest (back_pairs R front (part ++ rest) (subst (AllPairs R) cut h))

pub cut_all : (P : HeadView → Type 0) (heads front part rest : List HeadView) → heads ≡ front ++ (part ++ rest) → All P heads → All P part
cut_all P heads front part rest cut h = all_front P part rest (all_back P front (part ++ rest) (subst (All P) cut h))

-- the part and what stands before it
pub cut_so_far : (R : HeadView → HeadView → Type 0) (heads front part rest : List HeadView) → heads ≡ front ++ (part ++ rest) → AllPairs R heads → AllPairs R (front ++ part)
cut_so_far R heads front part rest cut h = front_pairs R (front ++ part) rest (subst (AllPairs R) (cut ∙ sym (append_assoc front part rest)) h)

-- ---- blocks

-- one block more
pub blocks_more : (blocks : List (List HeadView)) (i : ℕ) (block : List HeadView) → i < length blocks → block ≡ get_or blocks i block → all_heads (take (i + 1) blocks) ≡ all_heads (take i blocks) ++ block
blocks_more blocks i block within is =
    let e : take (i + 1) blocks ≡ take i blocks ++ block ∷ [] = take_more blocks i block within ∙ ap (λ b. take i blocks ++ b ∷ []) (sym is) in
    ap all_heads e ∙ (flat_map-append (λ b. b) (take i blocks) (block ∷ []) ∙ ap (λ t. all_heads (take i blocks) ++ t) (append-nil block))

-- the blocks before, the block, and the blocks after it
pub blocks_cut : (blocks : List (List HeadView)) (i : ℕ) (block : List HeadView) → i < length blocks → block ≡ get_or blocks i block → all_heads blocks ≡ all_heads (take i blocks) ++ (block ++ all_heads (drop (i + 1) blocks))
blocks_cut blocks i block within is =
    let e : drop i blocks ≡ block ∷ drop (i + 1) blocks = drop_more blocks i block within ∙ ap (λ b. b ∷ drop (i + 1) blocks) (sym is) in
    ap all_heads (sym (take-append-drop i blocks) ∙ ap (λ t. take i blocks ++ t) e) ∙ flat_map-append (λ b. b) (take i blocks) (block ∷ drop (i + 1) blocks)

pub block_pairs : (R : HeadView → HeadView → Type 0) (blocks : List (List HeadView)) (i : ℕ) (block : List HeadView) → i < length blocks → block ≡ get_or blocks i block → AllPairs R (all_heads blocks) → AllPairs R block
block_pairs R blocks i block within is = cut_pairs R _ _ block _ (blocks_cut blocks i block within is)

pub block_all : (P : HeadView → Type 0) (blocks : List (List HeadView)) (i : ℕ) (block : List HeadView) → i < length blocks → block ≡ get_or blocks i block → All P (all_heads blocks) → All P block
block_all P blocks i block within is = cut_all P _ _ block _ (blocks_cut blocks i block within is)

pub block_order : (blocks : List (List HeadView)) (i : ℕ) (block : List HeadView) → i < length blocks → block ≡ get_or blocks i block → AreInOrder (all_heads blocks) → AreInOrder block
block_order blocks i block within is r =
    record { sorted = block_pairs HeadBefore blocks i block within is r.sorted; in_range = block_all (λ (h : HeadView). (pos 0 ≤ℤ h.len) × (h.len ≤ℤ GREATEST_LENGTH)) blocks i block within is r.in_range }
