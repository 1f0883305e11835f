-- Lists over the numbers below a bound, and sums over lists.
use Rattle.std.proofs.Common.{ℕ, zero, suc, ◌+◌, ◌-◌, ◌<◌, ◌≤◌, ◌≡◌, List, [], ◌∷◌, ◌++◌, length, arith, refl, ap, ap₂, sym, ◌∙◌, subst, get_or, append-nil, append_assoc, sum_by, All, drop, map, replicate, take}
use Rattle.std.proofs.lemmas.List.{get_or_default, get_or-drop, length-drop, take_all}
use Rattle.std.proofs.lemmas.List.Sums.{sum_by-cons, sum_by_push}
use Rattle.std.specs.List.Sorted.{IsNonDecreasingBy}
use Rattle.fq_model.specs.Sums.{list_below, sum_below}
use Rattle.fq_laws.proofs.Lists.{list_length, list_more}

-- a list that goes on with equal elements
pub list_still : {A : Type 0} (f : ℕ → A) (x : A) (k n : ℕ) → ((i : ℕ) → k ≤ i → i < k + n → f i ≡ x) → list_below f k ++ replicate n x ≡ list_below f (k + n)
list_still f x k zero h = append-nil (list_below f k) ∙ ap (list_below f) (omega arith)
list_still f x k (suc n) h =
    ap (λ y. list_below f k ++ y ∷ replicate n x) (sym (h k (omega arith) (omega arith)))
    ∙ sym (append_assoc (list_below f k) (f k ∷ []) (replicate n x))
    ∙ ap (λ ys. ys ++ replicate n x) (sym (list_more f k))
    ∙ list_still f x (k + 1) n (λ i le lt. h i (omega (arith, le)) (omega (arith, lt)))
    ∙ ap (list_below f) (omega arith)

-- such a list, made longer
pub list_resized : (f : ℕ → ℕ) (x k n len : ℕ) (xs : List ℕ) → xs ≡ list_below f k → len ≡ length xs → k ≤ n → ((i : ℕ) → k ≤ i → i < n → f i ≡ x) → take n xs ++ replicate (n - len) x ≡ list_below f n
list_resized f x k n len xs is size le h =
    let long : length xs ≡ k = ap length is ∙ list_length f k in
    let more : n - len ≡ n - k = omega (arith, long, size) in
    let all : k + (n - k) ≡ n = omega (arith, le) in
    ap₂ (λ ys m. ys ++ replicate m x) (take_all n xs (omega (arith, long, le)) ∙ is) more
    ∙ list_still f x k (n - k) (λ i from to. h i from (omega (arith, to, all)))
    ∙ ap (list_below f) all

-- sums of equal numbers, and of zeros
pub sum_same : {X : Type 0} (f g : X → ℕ) (xs : List X) → All (λ x. f x ≡ g x) xs → sum_by f xs ≡ sum_by g xs
sum_same f g [] h = refl
sum_same f g (x ∷ xs) h = sum_by-cons f x xs ∙ ap₂ ◌+◌ (h 0 x (omega arith)) (sum_same f g xs (λ k d l. h (suc k) d (omega (arith, l)))) ∙ sym (sum_by-cons g x xs)

pub sum_none : {X : Type 0} (f : X → ℕ) (xs : List X) → All (λ x. f x ≡ 0) xs → sum_by f xs ≡ 0
sum_none f [] h = refl
sum_none f (x ∷ xs) h = sum_by-cons f x xs ∙ omega (arith, h 0 x (omega arith), sum_none f xs (λ k d l. h (suc k) d (omega (arith, l))))

-- sums over lists made of numbers
pub sum_of_list : {A : Type 0} (f : A → ℕ) (g : ℕ → A) (n : ℕ) → sum_by f (list_below g n) ≡ sum_below (λ k. f (g k)) n
unfolding list_below sum_below
sum_of_list f g zero = refl
sum_of_list f g (suc n) = omega (arith, sum_by_push f (list_below g n) (g n), sum_of_list f g n)

pub sum_of_map : {A B : Type 0} (f : B → ℕ) (g : A → B) (xs : List A) → sum_by f (map g xs) ≡ sum_by (λ x. f (g x)) xs
sum_of_map f g [] = refl
sum_of_map f g (x ∷ xs) = sum_by-cons f (g x) (map g xs) ∙ ap (λ n. f (g x) + n) (sum_of_map f g xs) ∙ sym (sum_by-cons (λ y. f (g y)) x xs)

-- in a list in order, the elements from a place on are above m where the element at that place is
pub beyond : {X : Type 0} (n : X → ℕ) (xs : List X) (j m : ℕ) (e : X) → IsNonDecreasingBy n xs → (j < length xs → m < n (get_or xs j e)) → All (λ x. m < n x) (drop j xs)
beyond n xs j m e order next k d l =
    let some : j < length xs = omega (arith, l, length-drop j xs) in
    let first : m < n (get_or xs j d) = subst (λ x. m < n x) (get_or_default xs j e d some) (next some) in
    let rise : n (get_or xs j d) ≤ n (get_or xs (j + k) d) = order j (j + k) d (omega arith) (omega (arith, l, length-drop j xs)) in
    subst (λ x. m < n x) (sym (get_or-drop j xs k d)) (omega (arith, first, rise))
