-- Blocks in a row, cut where a group begins and ends.
use Rattle.std.proofs.Common.{ℕ, zero, suc, ◌≡◌, ◌≢◌, ◌+◌, ◌-◌, ◌*◌, ◌/◌, ◌<◌, ◌≤◌, inl, inr, List, [], ◌∷◌, ◌++◌, length, set, slice_get, take, drop, min, arith, refl, sym, ◌∙◌, ap, append_assoc}
use Rattle.std.proofs.lemmas.Bool.{cases_lt}
use Rattle.std.proofs.lemmas.Grind.{div_ceil_times}
use Rattle.std.proofs.lemmas.List.{take_all, drop-take, take-append-drop, take-set-le, drop-set-lt, drop-set-add, get_or-take, get_or-drop}
use Rattle.std.proofs.Math.Seq.{take-add, take-set-lt, drop-cons}
use Rattle.shared_order.specs.Heads.{HeadView}
use Rattle.shared_order.specs.Blocks.{all_heads, block_at, NoneIsEmpty}
use Rattle.shared_order.specs.Groups.{group_count, group_at, group_heads}
use Rattle.shared_order.proofs.Rows.{heads-append}

-- ---- the row up to a group, and from it on

pub group_more : (bs : List (List HeadView)) (g : ℕ) → all_heads (take ((g + 1) * 32) bs) ≡ all_heads (take (g * 32) bs) ++ group_heads bs g
group_more bs g =
    let n : (g + 1) * 32 ≡ g * 32 + 32 = omega arith in
    ap (λ i. all_heads (take i bs)) n ∙ (ap all_heads (take-add (g * 32) 32 bs) ∙ heads-append (take (g * 32) bs) (group_at bs g))

pub group_cut : (bs : List (List HeadView)) (g : ℕ) → all_heads bs ≡ all_heads (take (g * 32) bs) ++ (group_heads bs g ++ all_heads (drop ((g + 1) * 32) bs))
group_cut bs g =
    let i = (g + 1) * 32 in
    let rest = all_heads (drop i bs) in
    ap all_heads (sym (take-append-drop i bs)) ∙ (heads-append (take i bs) (drop i bs) ∙ (ap (λ t. t ++ rest) (group_more bs g) ∙ append_assoc (all_heads (take (g * 32) bs)) (group_heads bs g) rest))

-- all groups are all blocks
pub all_groups : (bs : List (List HeadView)) (n : ℕ) → group_count (length bs) ≤ n → take (n * 32) bs ≡ bs
all_groups bs n le = take_all (n * 32) bs (omega (arith, (div_ceil_times (length bs) 32 (omega arith)).0, le))

-- a group begins within the row
pub begins : (blocks g : ℕ) → g < group_count blocks → g * 32 < blocks
begins blocks g l = omega (arith, (div_ceil_times blocks 32 (omega arith)).1, l)

pub known_group : (blocks at : ℕ) → at < blocks → at / 32 < group_count blocks
known_group blocks at l = omega (arith, (div_ceil_times blocks 32 (omega arith)).0, l)

-- ---- a group

-- its first head is that of its first block
first_head : (b : List HeadView) (bs : List (List HeadView)) → 0 < length b → slice_get (all_heads (b ∷ bs)) 0 ≡ slice_get b 0
first_head [] bs l = absurd (omega arith)
first_head (h ∷ b) bs l = refl

pub group_first : (bs : List (List HeadView)) (g : ℕ) → g * 32 < length bs → NoneIsEmpty bs → slice_get (group_heads bs g) 0 ≡ slice_get (block_at bs (g * 32)) 0
group_first bs g l filled =
    let parts : drop (g * 32) bs ≡ block_at bs (g * 32) ∷ drop (suc (g * 32)) bs = drop-cons bs (g * 32) [] l in
    ap (λ t. slice_get (all_heads (take 32 t)) 0) parts ∙ first_head (block_at bs (g * 32)) (take 31 (drop (suc (g * 32)) bs)) (filled (g * 32) [] l)

-- the slice of a group
pub sliced : (bs : List (List HeadView)) (g n : ℕ) → n ≡ min (length bs) (g * 32 + 32) → g * 32 < length bs → take (n - g * 32) (drop (g * 32) bs) ≡ group_at bs g
sliced bs g n e l = sym (drop-take (g * 32) (n - g * 32) bs) ∙ (ap (drop (g * 32)) (clipped bs (g * 32 + (n - g * 32)) (g * 32 + 32) (omega (arith, e))) ∙ drop-take (g * 32) 32 bs)
  where
    clipped : (bs : List (List HeadView)) (i j : ℕ) → i ≡ min (length bs) j → take i bs ≡ take j bs
    clipped bs i j e = elim (cases_lt j (length bs)) [
      | inl less ↦ ap (λ k. take k bs) (omega (arith, e, less))
      | inr more ↦ take_all i bs (omega (arith, e, more)) ∙ sym (take_all j bs (omega (arith, more)))
    ]

-- ---- another row

take_shorter : (m n : ℕ) (ys : List (List HeadView)) → m ≤ n → take m (take n ys) ≡ take m ys
take_shorter zero n ys l = refl
take_shorter (suc m) zero ys l = absurd (omega arith)
take_shorter (suc m) (suc n) [] l = refl
take_shorter (suc m) (suc n) (y ∷ ys) l = ap (λ t. y ∷ t) (take_shorter m n ys (omega arith))

take_front : (xs : List (List HeadView)) (i m n at : ℕ) → i + n ≡ at → m ≤ n → take m (drop i (take at xs)) ≡ take m (drop i xs)
take_front xs i m n at e l = ap (λ k. take m (drop i (take k xs))) (sym e) ∙ (ap (take m) (drop-take i n xs) ∙ take_shorter m n (drop i xs) l)

-- the groups before a place are the same where the rows are the same up to it
pub group_before : (bs cs : List (List HeadView)) (at g : ℕ) → take at cs ≡ take at bs → g < at / 32 → group_at cs g ≡ group_at bs g
group_before bs cs at g e l =
    let i = g * 32 in
    let front = λ (xs : List (List HeadView)). take_front xs i 32 (at - i) at (omega (arith, l)) (omega (arith, l)) in
    sym (front cs) ∙ (ap (λ t. take 32 (drop i t)) e ∙ front bs)

-- where a block is written, the other groups stay
pub other_group : (bs : List (List HeadView)) (at g : ℕ) (b : List HeadView) → g ≢ at / 32 → group_at (set bs at b) g ≡ group_at bs g
other_group bs at g b ne = elim (cases_lt g (at / 32)) [
  | inl less ↦ group_before bs (set bs at b) at g (take-set-le at bs at b (omega arith)) less
  | inr more ↦ ap (take 32) (drop-set-lt (g * 32) bs at b (after at g more ne))
]
  where
    after : (at g : ℕ) → at / 32 ≤ g → g ≢ at / 32 → at < g * 32
    after at g le ne = grind arith

-- where the block stands in its group
abbrev pub place_in : ℕ → ℕ
place_in at = at - at / 32 * 32

pub own_group : (bs : List (List HeadView)) (at : ℕ) (b : List HeadView) → group_at (set bs at b) (at / 32) ≡ set (group_at bs (at / 32)) (place_in at) b
own_group bs at b =
    let n : at ≡ at / 32 * 32 + place_in at = omega arith in
    ap (λ i. take 32 (drop (at / 32 * 32) (set bs i b))) n
    ∙ (ap (take 32) (drop-set-add (at / 32 * 32) bs (place_in at) b) ∙ take-set-lt 32 (drop (at / 32 * 32) bs) (place_in at) b (omega arith))

pub own_block : (bs : List (List HeadView)) (at : ℕ) → block_at (group_at bs (at / 32)) (place_in at) ≡ block_at bs at
own_block bs at =
    let n : at / 32 * 32 + place_in at ≡ at = omega arith in
    get_or-take 32 (drop (at / 32 * 32) bs) (place_in at) [] (omega arith) ∙ (get_or-drop (at / 32 * 32) bs (place_in at) [] ∙ ap (λ i. block_at bs i) n)
