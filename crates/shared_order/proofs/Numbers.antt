-- The lengths of the groups, after each change of the blocks.
use Rattle.std.proofs.Common.{ℕ, ◌≡◌, ◌≢◌, ◌+◌, ◌*◌, ◌/◌, ◌<◌, ◌≤◌, inl, inr, List, [], ◌∷◌, ◌++◌, length, get_or, set, take, drop, arith, refl, sym, ◌∙◌, ap, subst, ℤ, length-take, length-set, length-append, length-drop}
use Rattle.std.proofs.lemmas.Bool.{cases_order, cases_lt}
use Rattle.std.proofs.lemmas.List.{get_or_default, take_all, take-append-le, get_or-take, get_or-set_same, get_or-set_other, get_or_append_left, get_or-append-add}
use Rattle.shared_order.specs.Heads.{HeadView, Gains, lengths_of, with_length}
use Rattle.shared_order.specs.declared.lengths.Lengths.{Lengths}
use Rattle.shared_order.specs.Blocks.{BlocksView, block_count, all_heads, block_at, HeadJoins, HeadLeaves}
use Rattle.shared_order.specs.Groups.{group_count, group_at, group_heads, AreLengths, AreAllLengths}
use Rattle.shared_order.proofs.Ends.{lengths-gains, lengths_stay}
use Rattle.shared_order.proofs.Changes.{joins_gains, leaves_gains}
use Rattle.shared_order.proofs.Grouping.{group_before, other_group, own_group, own_block, place_in, known_group}

-- ---- a number more

pub number_more : (bs : List (List HeadView)) (ls : List Lengths) (v : Lengths) → AreLengths bs ls → v ≡ lengths_of (group_heads bs (length ls)) → AreLengths bs (ls ++ v ∷ [])
number_more bs ls v all is = λ g l. elim (cases_lt g (length ls)) [
  | inl less ↦ get_or_append_left ls (v ∷ []) (lengths_of []) g less ∙ all g less
  | inr more ↦
      let n : g ≡ length ls + 0 = omega (arith, more, l, length-append ls (v ∷ [])) in
      let m : length ls ≡ g = omega (arith, n) in
      ap (λ i. get_or (ls ++ v ∷ []) i (lengths_of [])) n ∙ (get_or-append-add ls (v ∷ []) 0 (lengths_of []) ∙ (is ∙ ap (λ i. lengths_of (group_heads bs i)) m))
]

-- ---- from a group on

-- where the blocks are the same up to a place, so are the numbers of the groups before it
pub numbers_before : (bs cs : List (List HeadView)) (at : ℕ) (ls : List Lengths) → take at cs ≡ take at bs → AreLengths bs ls → AreLengths cs (take (at / 32) ls)
numbers_before bs cs at ls e all = λ g l.
    let less : g < at / 32 = omega (arith, l, length-take (at / 32) ls) in
    let within : g < length ls = omega (arith, l, length-take (at / 32) ls) in
    get_or-take (at / 32) ls g (lengths_of []) less ∙ (all g within ∙ ap (λ t. lengths_of (all_heads t)) (sym (group_before bs cs at g e less)))

-- the blocks before this place stay
pub numbers_kept : (bs us cs ys : List (List HeadView)) (at : ℕ) (ls : List Lengths) → us ≡ cs → cs ≡ take at bs ++ ys → at < length bs → AreLengths bs ls → AreLengths us (take (at / 32) ls)
numbers_kept bs us cs ys at ls u e l all =
    let n = length-take at bs in
    numbers_before bs us at ls (ap (take at) (u ∙ e) ∙ (take-append-le at (take at bs) ys (omega (arith, l, n)) ∙ take_all at (take at bs) (omega (arith, n)))) all

-- ---- one block

one_number : (bs cs : List (List HeadView)) (at : ℕ) (b : List HeadView) (ls ms : List Lengths) → cs ≡ set bs at b → AreAllLengths bs ls → length ms ≡ length ls → ((g : ℕ) → g < length ls → g ≢ at / 32 → get_or ms g (lengths_of []) ≡ get_or ls g (lengths_of [])) → get_or ms (at / 32) (lengths_of []) ≡ lengths_of (group_heads cs (at / 32)) → AreAllLengths cs ms
one_number bs cs at b ls ms e all n others own = record {
  each = λ g l. elim (cases_order g (at / 32)) [
    | inl same ↦ subst (λ i. get_or ms i (lengths_of []) ≡ lengths_of (group_heads cs i)) (sym same) own
    | inr o ↦ other g (omega (arith, l, n)) (elim o [ inl less ↦ omega (arith, less) | inr more ↦ omega (arith, more) ])
  ];
  count = n ∙ (all.count ∙ ap group_count (sym (ap length e ∙ length-set bs at b)));
}
  where
    other : (g : ℕ) → g < length ls → g ≢ at / 32 → get_or ms g (lengths_of []) ≡ lengths_of (group_heads cs g)
    other g l ne = others g l ne ∙ (all.each g l ∙ ap (λ t. lengths_of (all_heads t)) (sym (ap (λ t. group_at t g) e ∙ other_group bs at g b ne)))

-- its number is written
pub number_set : (bs cs : List (List HeadView)) (at : ℕ) (b : List HeadView) (ls : List Lengths) (v : Lengths) → cs ≡ set bs at b → at < length bs → AreAllLengths bs ls → v ≡ lengths_of (group_heads cs (at / 32)) → AreAllLengths cs (set ls (at / 32) v)
number_set bs cs at b ls v e l all is =
    let known : at / 32 < length ls = omega (arith, known_group (length bs) at l, all.count) in
    one_number bs cs at b ls (set ls (at / 32) v) e all (length-set ls (at / 32) v) (λ g w ne. get_or-set_other ls (at / 32) g v (lengths_of []) ne) (get_or-set_same ls (at / 32) v (lengths_of []) known ∙ is)

-- its number stays
pub number_stays : (bs cs : List (List HeadView)) (at : ℕ) (b : List HeadView) (ls : List Lengths) → cs ≡ set bs at b → AreAllLengths bs ls → get_or ls (at / 32) (lengths_of []) ≡ lengths_of (group_heads cs (at / 32)) → AreAllLengths cs ls
number_stays bs cs at b ls e all is = one_number bs cs at b ls ls e all refl (λ g l ne. refl) is

-- ---- a head more, a head less

gains_lengths : (xs ys : List HeadView) (h : HeadView) → Gains xs h ys → lengths_of ys ≡ with_length (lengths_of xs) h.len
gains_lengths xs ys h g = ap lengths_of g.after ∙ (lengths-gains g.front g.back h ∙ ap (λ t. with_length (lengths_of t) h.len) (sym g.before))

-- in its group
in_group : (bs : List (List HeadView)) (at : ℕ) → at < length bs → place_in at < length (group_at bs (at / 32))
in_group bs at l = omega (arith, l, length-take 32 (drop (at / 32 * 32) bs), length-drop (at / 32 * 32) bs)

group_others : (bs cs : List (List HeadView)) (at : ℕ) → cs ≡ set bs at (block_at cs at) → group_at cs (at / 32) ≡ set (group_at bs (at / 32)) (place_in at) (block_at (group_at cs (at / 32)) (place_in at))
group_others bs cs at e = ap (λ t. group_at t (at / 32)) e ∙ (own_group bs at (block_at cs at) ∙ ap (set (group_at bs (at / 32)) (place_in at)) (sym (own_block cs at)))

pub lengths_with : (bs cs : List (List HeadView)) (at : ℕ) (h : HeadView) → at < length bs → HeadJoins bs at h cs → lengths_of (group_heads cs (at / 32)) ≡ with_length (lengths_of (group_heads bs (at / 32))) h.len
lengths_with bs cs at h l j = gains_lengths _ _ h (joins_gains (group_at bs (at / 32)) (group_at cs (at / 32)) (place_in at) h (in_group bs at l) (record {
  gains = subst (λ t. Gains t h (block_at (group_at cs (at / 32)) (place_in at))) (sym (own_block bs at)) (subst (Gains (block_at bs at) h) (sym (own_block cs at)) j.gains);
  sorted = rw (own_block cs at) (j.sorted);
  others = group_others bs cs at j.others;
}))

pub lengths_without : (bs cs : List (List HeadView)) (at : ℕ) (h : HeadView) → at < length bs → HeadLeaves bs at h cs → lengths_of (group_heads bs (at / 32)) ≡ with_length (lengths_of (group_heads cs (at / 32))) h.len
lengths_without bs cs at h l j = gains_lengths _ _ h (leaves_gains (group_at bs (at / 32)) (group_at cs (at / 32)) (place_in at) h (in_group bs at l) (record {
  gains = subst (λ t. Gains (block_at (group_at cs (at / 32)) (place_in at)) h t) (sym (own_block bs at)) (subst (λ t. Gains t h (block_at bs at)) (sym (own_block cs at)) j.gains);
  others = group_others bs cs at j.others;
}))

-- ---- as the code reads them

pub number_read : (bs : List (List HeadView)) (ls : List Lengths) (g : ℕ) (r : Lengths) → AreAllLengths bs ls → g < group_count (length bs) → r ≡ get_or ls g r → r ≡ lengths_of (group_heads bs g)
number_read bs ls g r all l e =
    let known : g < length ls = omega (arith, all.count, l) in
    e ∙ (get_or_default ls g r (lengths_of []) known ∙ all.each g known)

-- with a head more
pub number_joined : (bs cs : List (List HeadView)) (at : ℕ) (h : HeadView) (ls : List Lengths) (r v : Lengths) (len : ℤ) → at < length bs → HeadJoins bs at h cs → AreAllLengths bs ls → r ≡ get_or ls (at / 32) r → len ≡ h.len → v ≡ with_length r len → v ≡ lengths_of (group_heads cs (at / 32))
number_joined bs cs at h ls r v len l j all read len_is is =
    let old = number_read bs ls (at / 32) r all (known_group (length bs) at l) read in
    is ∙ (ap (λ x. with_length x len) old ∙ (ap (λ x. with_length (lengths_of (group_heads bs (at / 32))) x) len_is ∙ sym (lengths_with bs cs at h l j)))

-- with a head less, where that was neither the longest nor the shortest
pub number_left : (bs cs : List (List HeadView)) (at : ℕ) (h : HeadView) (ls : List Lengths) (r : Lengths) (len : ℤ) → at < length bs → HeadLeaves bs at h cs → AreAllLengths bs ls → r ≡ get_or ls (at / 32) r → len ≡ h.len → (r.longest ≢ len) × (r.shortest ≢ len) → get_or ls (at / 32) (lengths_of []) ≡ lengths_of (group_heads cs (at / 32))
number_left bs cs at h ls r len l j all read len_is differ =
    let group = known_group (length bs) at l in
    let old = number_read bs ls (at / 32) r all group read in
    let known : at / 32 < length ls = omega (arith, all.count, group) in
    let whole : r ≡ with_length (lengths_of (group_heads cs (at / 32))) len = old ∙ (lengths_without bs cs at h l j ∙ ap (λ x. with_length (lengths_of (group_heads cs (at / 32))) x) (sym len_is)) in
    sym (read ∙ get_or_default ls (at / 32) r (lengths_of []) known) ∙ lengths_stay (lengths_of (group_heads cs (at / 32))) r len whole differ

-- ---- their room

pub room_stays : (old new : BlocksView) (capacity : ℕ) → length new.used ≡ length old.used → new.spare ≡ old.spare → group_count (block_count old) ≤ capacity → group_count (block_count new) ≤ capacity
room_stays old new capacity used spare room = subst (λ n. group_count n ≤ capacity) (omega (arith, used, spare)) room
