-- Lists of heads in order, and the lists with one head more or one less.
use Rattle.std.proofs.Common.{ℕ, zero, suc, ◌≡◌, ◌≢◌, ◌<◌, List, [], ◌∷◌, ◌++◌, length, get_or, inl, inr, arith, sym, subst, Some, slice_get}
use Rattle.std.specs.List.{All}
use Rattle.std.proofs.lemmas.Int.{ints, by_lt_z}
use Rattle.std.proofs.lemmas.Bool.{cases_order}
use Rattle.std.proofs.lemmas.List.Elements.{All-nil, All-cons, All-head, All-tail, All-append, All-weaker}
use Rattle.shared_order.specs.Heads.{HeadView, HeadBefore, IsSorted}

-- ---- the order of heads

pub before_goes_on : (a b c : HeadView) → HeadBefore a b → HeadBefore b c → HeadBefore a c
before_goes_on a b c p q = grind (arith, ints)

pub not_itself : (a : HeadView) → ¬ HeadBefore a a
not_itself a = λ p. grind (arith, ints)

-- ---- All over two lists

pub All-left : {X : Type 0} (P : X → Type 0) (xs ys : List X) → All P (xs ++ ys) → All P xs
All-left P [] ys h = All-nil P
All-left P (x ∷ xs) ys h = All-cons P x xs (All-head P x (xs ++ ys) h) (All-left P xs ys (All-tail P x (xs ++ ys) h))

pub All-right : {X : Type 0} (P : X → Type 0) (xs ys : List X) → All P (xs ++ ys) → All P ys
All-right P [] ys h = h
All-right P (x ∷ xs) ys h = All-right P xs ys (All-tail P x (xs ++ ys) h)

-- ---- sorted lists

pub sorted-head : (x : HeadView) (xs : List HeadView) → IsSorted (x ∷ xs) → All (HeadBefore x) xs
sorted-head x xs s = λ k d l. s 0 (suc k) d (omega arith) (omega arith)

pub sorted-tail : (x : HeadView) (xs : List HeadView) → IsSorted (x ∷ xs) → IsSorted xs
sorted-tail x xs s = λ i j d l m. s (suc i) (suc j) d (omega arith) (omega arith)

pub sorted-nil : IsSorted []
sorted-nil = λ i j d l m. absurd (omega arith)

cons_at : (x : HeadView) (xs : List HeadView) → All (HeadBefore x) xs → IsSorted xs → (i j : ℕ) (d : HeadView) → i < j → j < length (x ∷ xs) → HeadBefore (get_or (x ∷ xs) i d) (get_or (x ∷ xs) j d)
cons_at x xs a s i zero d l m = absurd (omega arith)
cons_at x xs a s zero (suc j) d l m = a j d (omega arith)
cons_at x xs a s (suc i) (suc j) d l m = s i j d (omega arith) (omega arith)

pub sorted-cons : (x : HeadView) (xs : List HeadView) → All (HeadBefore x) xs → IsSorted xs → IsSorted (x ∷ xs)
sorted-cons x xs a s = cons_at x xs a s

-- each of the first list comes before each of the second
abbrev pub AllBefore : List HeadView → List HeadView → Type 0
AllBefore xs ys = All (λ x. All (HeadBefore x) ys) xs

pub record IsSplit (xs ys : List HeadView) : Type 0 where
  pub first : IsSorted xs
  pub second : IsSorted ys
  pub across : AllBefore xs ys

pub sorted-split : (xs ys : List HeadView) → IsSorted (xs ++ ys) → IsSplit xs ys
sorted-split [] ys s = record { first = sorted-nil; second = s; across = All-nil _ }
sorted-split (x ∷ xs) ys s =
    let h = sorted-head x (xs ++ ys) s in
    let t = sorted-split xs ys (sorted-tail x (xs ++ ys) s) in
    record {
      first = sorted-cons x xs (All-left (HeadBefore x) xs ys h) t.first;
      second = t.second;
      across = All-cons (λ x. All (HeadBefore x) ys) x xs (All-right (HeadBefore x) xs ys h) t.across;
    }

pub sorted-join : (xs ys : List HeadView) → IsSorted xs → IsSorted ys → AllBefore xs ys → IsSorted (xs ++ ys)
sorted-join [] ys s t a = t
sorted-join (x ∷ xs) ys s t a =
    let P : HeadView → Type 0 = λ x. All (HeadBefore x) ys in
    sorted-cons x (xs ++ ys)
    (All-append (HeadBefore x) xs ys (sorted-head x xs s) (All-head P x xs a))
    (sorted-join xs ys (sorted-tail x xs s) t (All-tail P x xs a))

-- the first of a sorted list tells where another head stands to all of them
pub before_first : (h x : HeadView) (xs : List HeadView) → IsSorted (x ∷ xs) → HeadBefore h x → All (HeadBefore h) (x ∷ xs)
before_first h x xs s p = All-cons (HeadBefore h) x xs p (All-weaker (HeadBefore x) (HeadBefore h) (λ y q. before_goes_on h x y p q) xs (sorted-head x xs s))

pub before_all : (h x : HeadView) (xs : List HeadView) → IsSorted (x ∷ xs) → (HeadBefore h x → All (HeadBefore h) (x ∷ xs)) × (All (HeadBefore h) (x ∷ xs) → HeadBefore h x)
before_all h x xs s = (before_first h x xs s, All-head (HeadBefore h) x xs)

abbrev pub AndBack : Type 0 → Type 0 → Type 0
AndBack A B = (A → B) × (B → A)

pub after_first : (P : Type 0) (h f : HeadView) (xs : List HeadView) → IsSorted xs → slice_get xs 0 ≡ Some f → AndBack P (HeadBefore h f) → AndBack P (All (HeadBefore h) xs)
after_first P h f [] s e t = absurd (cc)
after_first P h f (x ∷ xs) s e t =
    let same : x ≡ f = cc in
    let both = before_all h x xs s in
    let there : HeadBefore h f → HeadBefore h x = λ b. subst (λ y. HeadBefore h y) (sym same) b in
    let back : HeadBefore h x → HeadBefore h f = λ b. subst (λ y. HeadBefore h y) same b in
    (λ p. both.0 (there (t.0 p)), λ a. t.1 (back (both.1 a)))

-- ---- a head more, a head less

pub All-both : {X : Type 0} (P Q R : X → Type 0) (xs : List X) → ((x : X) → P x → Q x → R x) → All P xs → All Q xs → All R xs
All-both P Q R xs f p q = λ k d l. f (get_or xs k d) (p k d l) (q k d l)

pub other_way : (y h : HeadView) → ¬ HeadBefore y h → y.request ≢ h.request → HeadBefore h y
other_way y h n ne = by_lt_z h.finish y.finish (λ l. inl l) (λ l. by_lt_z y.finish h.finish (λ m. absurd (n (inl m))) (λ m.
    let e : h.finish ≡ y.finish = omega (arith, ints) in
    elim (cases_order h.request y.request) [
      | inl same ↦ absurd (ne (sym same))
      | inr o ↦ elim o [ inl less ↦ inr (e, less) | inr more ↦ absurd (n (inr (sym e, more))) ]
    ]))

pub sorted-between : (front back : List HeadView) (h : HeadView) → IsSorted (front ++ back) → All (λ y. HeadBefore y h) front → All (HeadBefore h) back → IsSorted (front ++ h ∷ back)
sorted-between front back h s p q =
    let parts = sorted-split front back s in
    sorted-join front (h ∷ back) parts.first (sorted-cons h back q parts.second)
    (All-both (λ y. HeadBefore y h) (λ y. All (HeadBefore y) back) (λ y. All (HeadBefore y) (h ∷ back)) front (λ y a b. All-cons (HeadBefore y) h back a b) p parts.across)

pub sorted-without : (front back : List HeadView) (h : HeadView) → IsSorted (front ++ h ∷ back) → IsSorted (front ++ back)
sorted-without front back h s =
    let parts = sorted-split front (h ∷ back) s in
    sorted-join front back parts.first (sorted-tail h back parts.second)
    (All-weaker (λ y. All (HeadBefore y) (h ∷ back)) (λ y. All (HeadBefore y) back) (λ y a. All-tail (HeadBefore y) h back a) front parts.across)
