-- A block after each of its calls.
use Rattle.std.proofs.Common.{ℕ, suc, ◌≡◌, ◌≢◌, ◌+◌, ◌-◌, ◌<◌, ◌≤◌, List, ◌∷◌, ◌++◌, length, take, drop, arith, sym, ◌∙◌, ap, subst, length-append, length-drop}
use Rattle.std.specs.List.{All, Contains}
use Rattle.std.proofs.lemmas.List.{take-append-drop, take_all}
use Rattle.shared_order.specs.Heads.{HeadView, HeadBefore, IsSorted, IsPlaceOf, Gains, lengths_of, with_length, joined_lengths}
use Rattle.shared_order.specs.declared.lengths.Lengths.{Lengths}
use Rattle.shared_order.specs.Blocks.{KeepsBlock}
use Rattle.shared_order.proofs.Ends.{lengths-append, lengths-gains}
use Rattle.std.specs.List.{insert, remove}
use Rattle.std.proofs.lemmas.List.Edits.{length-insert, length-remove}
use Rattle.std.proofs.lemmas.List.Elements.{All-drop}
use Rattle.shared_order.proofs.Places.{found_at, around}
use Rattle.shared_order.proofs.Sorting.{sorted-split, sorted-between, sorted-without, All-both, other_way}

pub absorbed : (xs ys zs : List HeadView) (m n capacity : ℕ) (k l r : Lengths) → zs ≡ xs ++ ys → KeepsBlock xs m k → KeepsBlock ys n l → IsSorted (xs ++ ys) → length xs + length ys ≤ 32 → m ≤ capacity → r ≡ joined_lengths k l → KeepsBlock zs capacity r
absorbed xs ys zs m n capacity k l r e p q s fit more h = record {
  sorted = rw e s;
  few = rw e (omega (arith, length-append xs ys));
  room = omega (arith, p.room);
  ends = h ∙ (ap (λ x. joined_lengths x l) p.ends ∙ (ap (λ x. joined_lengths (lengths_of xs) x) q.ends ∙ (sym (lengths-append xs ys) ∙ ap lengths_of (sym e))));
}

-- the second half of a list
pub rest_from : (xs ds : List HeadView) (n : ℕ) → ds ≡ xs → take (length ds - n) (drop n ds) ≡ drop n xs
rest_from xs ds n e = rw e (take_all (length xs - n) (drop n xs) (omega (arith, length-drop n xs)))

-- the second half of a block, in a block that had none
pub halved : (xs ys : List HeadView) (m capacity : ℕ) (k r : Lengths) → ys ≡ drop 16 xs → KeepsBlock xs m k → 32 ≤ capacity → r ≡ lengths_of ys → KeepsBlock ys capacity r
halved xs ys m capacity k r e p more h = record {
  sorted =
      let whole : IsSorted (take 16 xs ++ drop 16 xs) = rw (take-append-drop 16 xs) (p.sorted) in
      rw e ((sorted-split (take 16 xs) (drop 16 xs) whole).second);
  few = rw e (omega (arith, length-drop 16 xs, p.few));
  room = more;
  ends = h;
}

-- a head more, where it is to stand
grown : (xs ys : List HeadView) (h : HeadView) (at m capacity : ℕ) (k r : Lengths) → ys ≡ insert xs at h → KeepsBlock xs m k → IsPlaceOf h xs at → All (λ y. y.request ≢ h.request) xs → length xs < 32 → m ≤ capacity → r ≡ with_length k h.len → KeepsBlock ys capacity r
grown xs ys h at m capacity k r e p place new room more g =
    let whole : IsSorted (take at xs ++ drop at xs) = rw (take-append-drop at xs) (p.sorted) in
    let after = All-both (λ y. ¬ HeadBefore y h) (λ y. y.request ≢ h.request) (HeadBefore h) (drop at xs) (λ y n d. other_way y h n d) place.rest (All-drop (λ y. y.request ≢ h.request) at xs new) in
    record {
      sorted = rw e (sorted-between (take at xs) (drop at xs) h whole place.before after);
      few = rw e (omega (arith, length-insert xs at h place.within));
      room = omega (arith, p.room);
      ends = g ∙ (ap (λ x. with_length x h.len) p.ends ∙ (ap (λ l. with_length (lengths_of l) h.len) (sym (take-append-drop at xs)) ∙ (sym (lengths-gains (take at xs) (drop at xs) h) ∙ ap lengths_of (sym e))));
    }

pub grown_at : (xs ds ns ys : List HeadView) (h : HeadView) (at m capacity : ℕ) (k r : Lengths) → ds ≡ xs → xs ≡ ns → ys ≡ insert xs at h → KeepsBlock xs m k → IsPlaceOf h ds at → All (λ y. y.request ≢ h.request) ns → length ns < 32 → m ≤ capacity → r ≡ with_length k h.len → KeepsBlock ys capacity r
grown_at xs ds ns ys h at m capacity k r d n e p place new room more g =
    grown xs ys h at m capacity k r e p (subst (λ l. IsPlaceOf h l at) d place) (subst (All (λ y. y.request ≢ h.request)) (sym n) new) (rw n room) more g

-- a head less
pub shrunk : (xs ds ns ys : List HeadView) (h : HeadView) (at m capacity : ℕ) (k r : Lengths) → ds ≡ xs → xs ≡ ns → ys ≡ remove xs at → KeepsBlock xs m k → IsPlaceOf h ds at → Contains ns h → m ≤ capacity → r ≡ lengths_of ys → KeepsBlock ys capacity r
shrunk xs ds ns ys h at m capacity k r d n e p place there more g =
    let f = found_at xs ds ns h at d n p.sorted place there in
    let whole : IsSorted (take at xs ++ h ∷ drop (suc at) xs) = rw (← around h xs at f.0 f.1) (p.sorted) in
    record {
      sorted = rw e (sorted-without (take at xs) (drop (suc at) xs) h whole);
      few = rw e (omega (arith, length-remove xs at f.0, p.few));
      room = omega (arith, p.room);
      ends = g;
    }

-- the lengths with the head and without it
pub lengths_shrunk : (xs ds ns ys es : List HeadView) (h : HeadView) (at m : ℕ) (k : Lengths) → ds ≡ xs → xs ≡ ns → ys ≡ remove xs at → es ≡ ys → KeepsBlock xs m k → IsPlaceOf h ds at → Contains ns h → k ≡ with_length (lengths_of es) h.len
lengths_shrunk xs ds ns ys es h at m k d n e y p place there =
    let f = found_at xs ds ns h at d n p.sorted place there in
    p.ends ∙ (ap lengths_of (around h xs at f.0 f.1) ∙ (lengths-gains (take at xs) (drop (suc at) xs) h ∙ ap (λ l. with_length (lengths_of l) h.len) (sym (y ∙ e))))

-- the block with the head
pub shrunk_gains : (xs ds ns ys : List HeadView) (h : HeadView) (at m : ℕ) (k : Lengths) → ds ≡ xs → xs ≡ ns → ys ≡ remove xs at → KeepsBlock xs m k → IsPlaceOf h ds at → Contains ns h → Gains ys h ns
shrunk_gains xs ds ns ys h at m k d n e p place there =
    let f = found_at xs ds ns h at d n p.sorted place there in
    record { front = take at xs; back = drop (suc at) xs; before = e; after = sym n ∙ around h xs at f.0 f.1 }
