-- An order with one head more or one less.
use Rattle.std.proofs.Common.{ℕ, zero, suc, ◌≡◌, ◌<◌, inl, inr, List, [], ◌∷◌, ◌++◌, length, get_or, set, take, drop, arith, refl, sym, ◌∙◌, ap, subst, length-append, append_assoc}
use Rattle.std.specs.List.{All, Contains}
use Rattle.std.proofs.lemmas.List.{length-set, take-set, drop-set-lt}
use Rattle.std.proofs.lemmas.List.Elements.{All-append, All-cons, All-take, All-drop, All-contains, Contains-append_cases}
use Rattle.shared_order.specs.Heads.{HeadView, HeadBefore, IsSorted, Gains}
use Rattle.shared_order.specs.Blocks.{all_heads, block_at, IsDense, IsBlockOf, IsThinned, HeadJoins, HeadLeaves, KeepsOrder}
use Rattle.shared_order.proofs.Sorting.{sorted-split, sorted-join, sorted-without, All-left, All-right, not_itself}
use Rattle.shared_order.proofs.Dense.{IsFilled, dense-grown}
use Rattle.shared_order.proofs.Rows.{heads-append, heads_parts, parts}

-- a head of the order is in its block
pub in_block : (h : HeadView) (bs : List (List HeadView)) (at : ℕ) → IsBlockOf h bs at → Contains (all_heads bs) h → Contains (block_at bs at) h
in_block h bs at p there =
    let front = all_heads (take at bs) in
    let b = block_at bs at in
    let back = all_heads (drop (suc at) bs) in
    let whole : Contains (front ++ (b ++ back)) h = subst (λ l. Contains l h) (heads_parts bs at p.known) there in
    elim (Contains-append_cases front (b ++ back) h whole) [
      | inl f ↦ absurd (not_itself h (All-contains (λ y. HeadBefore y h) front h p.before f))
      | inr r ↦ elim (Contains-append_cases b back h r) [
        | inl c ↦ c
        | inr c ↦ absurd (not_itself h (All-contains (HeadBefore h) back h p.after c))
      ]
    ]

-- one head more in a part of a list
gains_within : (front old new back : List HeadView) (h : HeadView) → Gains old h new → Gains (front ++ (old ++ back)) h (front ++ (new ++ back))
gains_within front old new back h g = record {
  front = front ++ g.front;
  back = g.back ++ back;
  before = ap (λ b. front ++ (b ++ back)) g.before ∙ ap (λ t. front ++ t) (append_assoc g.front g.back back) ∙ sym (append_assoc front g.front (g.back ++ back));
  after = ap (λ b. front ++ (b ++ back)) g.after ∙ ap (λ t. front ++ t) (append_assoc g.front (h ∷ g.back) back) ∙ sym (append_assoc front g.front (h ∷ (g.back ++ back)));
}

-- the row with another block in this place
pub set_parts : (bs : List (List HeadView)) (at : ℕ) (b : List HeadView) → at < length bs → set bs at b ≡ take at bs ++ b ∷ drop (suc at) bs
set_parts [] at b l = absurd (omega arith)
set_parts (x ∷ bs) zero b l = refl
set_parts (x ∷ bs) (suc at) b l = ap (λ t. x ∷ t) (set_parts bs at b (omega arith))

set_heads : (bs : List (List HeadView)) (at : ℕ) (b : List HeadView) → at < length bs → all_heads (set bs at b) ≡ all_heads (take at bs) ++ (b ++ all_heads (drop (suc at) bs))
set_heads bs at b l = ap all_heads (set_parts bs at b l) ∙ heads-append (take at bs) (b ∷ drop (suc at) bs)

-- ---- a head more

pub joins_gains : (bs cs : List (List HeadView)) (at : ℕ) (h : HeadView) → at < length bs → HeadJoins bs at h cs → Gains (all_heads bs) h (all_heads cs)
joins_gains bs cs at h l j =
    let g = gains_within (all_heads (take at bs)) (block_at bs at) (block_at cs at) (all_heads (drop (suc at) bs)) h j.gains in
    rw (heads_parts bs at l, ap all_heads j.others ∙ set_heads bs at (block_at cs at) l) g

pub gains_length : (xs ys : List HeadView) (h : HeadView) → Gains xs h ys → length ys ≡ suc (length xs)
gains_length xs ys h g = omega (arith, ap length g.before, ap length g.after, length-append g.front g.back, length-append g.front (h ∷ g.back))

-- a property of the head and of all others is a property of each
pub gains_all : (P : HeadView → Type 0) (xs ys : List HeadView) (h : HeadView) → Gains xs h ys → All P xs → P h → All P ys
gains_all P xs ys h g a p =
    let b : All P (g.front ++ g.back) = subst (All P) g.before a in
    subst (All P) (sym g.after) (All-append P g.front (h ∷ g.back) (All-left P g.front g.back b) (All-cons P h g.back p (All-right P g.front g.back b)))

joins_sorted : (bs cs : List (List HeadView)) (at : ℕ) (h : HeadView) → IsBlockOf h bs at → IsSorted (all_heads bs) → HeadJoins bs at h cs → IsSorted (all_heads cs)
joins_sorted bs cs at h p s j =
    let front = all_heads (take at bs) in
    let b = block_at bs at in
    let c = block_at cs at in
    let back = all_heads (drop (suc at) bs) in
    let whole : IsSorted (front ++ (b ++ back)) = rw (← heads_parts bs at p.known) s in
    let one = sorted-split front (b ++ back) whole in
    let two = sorted-split b back one.second in
    -- the block and the blocks that follow it
    let after : All (λ y. All (HeadBefore y) back) c = gains_all (λ y. All (HeadBefore y) back) b c h j.gains two.across p.after in
    let rest = sorted-join c back j.sorted two.second after in
    let across : All (λ x. All (HeadBefore x) (c ++ back)) front = λ k d l.
    let x = get_or front k d in
    let a = one.across k d l in
    All-append (HeadBefore x) c back (gains_all (HeadBefore x) b c h j.gains (All-left (HeadBefore x) b back a) (p.before k d l)) (All-right (HeadBefore x) b back a) in
    rw (ap all_heads j.others ∙ set_heads bs at c p.known) (sorted-join front (c ++ back) one.first rest across)

pub joins_keep : (bs cs : List (List HeadView)) (at : ℕ) (h : HeadView) → IsBlockOf h bs at → KeepsOrder bs → HeadJoins bs at h cs → KeepsOrder cs
joins_keep bs cs at h p k j =
    let c = block_at cs at in
    let e : cs ≡ take at bs ++ c ∷ drop (suc at) bs = j.others ∙ set_parts bs at c p.known in
    let n = gains_length (block_at bs at) c h j.gains in
    let d : IsDense (take at bs ++ block_at bs at ∷ drop (suc at) bs) = rw (← parts bs at p.known) (k.dense) in
    record {
      sorted = joins_sorted bs cs at h p k.sorted j;
      filled = rw e (All-append IsFilled (take at bs) (c ∷ drop (suc at) bs) (All-take IsFilled at bs k.filled) (All-cons IsFilled c (drop (suc at) bs) (omega (arith, n)) (All-drop IsFilled (suc at) bs k.filled)));
      dense = rw e (dense-grown (take at bs) (block_at bs at) c (drop (suc at) bs) (omega (arith, n)) d);
    }

-- the requests of a block are among all
pub block_requests : (P : HeadView → Type 0) (bs : List (List HeadView)) (at : ℕ) → at < length bs → All P (all_heads bs) → All P (block_at bs at)
block_requests P bs at l a =
    let whole : All P (all_heads (take at bs) ++ (block_at bs at ++ all_heads (drop (suc at) bs))) = subst (All P) (heads_parts bs at l) a in
    All-left P (block_at bs at) (all_heads (drop (suc at) bs)) (All-right P (all_heads (take at bs)) (block_at bs at ++ all_heads (drop (suc at) bs)) whole)

-- ---- a head less

pub leaves_gains : (bs cs : List (List HeadView)) (at : ℕ) (h : HeadView) → at < length bs → HeadLeaves bs at h cs → Gains (all_heads cs) h (all_heads bs)
leaves_gains bs cs at h l j =
    let g = gains_within (all_heads (take at bs)) (block_at cs at) (block_at bs at) (all_heads (drop (suc at) bs)) h j.gains in
    rw (heads_parts bs at l, ap all_heads j.others ∙ set_heads bs at (block_at cs at) l) g

pub leaves_count : (bs cs : List (List HeadView)) (at : ℕ) (h : HeadView) → HeadLeaves bs at h cs → length cs ≡ length bs
leaves_count bs cs at h j = ap length j.others ∙ length-set bs at (block_at cs at)

pub leaves_thin : (bs cs : List (List HeadView)) (at : ℕ) (h : HeadView) → at < length bs → KeepsOrder bs → HeadLeaves bs at h cs → IsThinned cs at
leaves_thin bs cs at h l k j =
    let c = block_at cs at in
    let front : take at cs ≡ take at bs = ap (take at) j.others ∙ take-set bs at c in
    let back : drop (suc at) cs ≡ drop (suc at) bs = ap (drop (suc at)) j.others ∙ drop-set-lt (suc at) bs at c (omega arith) in
    let g = leaves_gains bs cs at h l j in
    let s : IsSorted (g.front ++ h ∷ g.back) = rw (← g.after) (k.sorted) in
    record {
      known = omega (arith, leaves_count bs cs at h j);
      sorted = rw g.before (sorted-without g.front g.back h s);
      filled_before = rw front (All-take IsFilled at bs k.filled);
      filled_after = rw back (All-drop IsFilled (suc at) bs k.filled);
      fuller = block_at bs at;
      one_more = gains_length c (block_at bs at) h j.gains;
      dense = rw (front, back, ← parts bs at l) (k.dense);
    }
