-- The heads in a list that has gained one.
use Rattle.std.proofs.Common.{ℕ, zero, suc, ◌≡◌, ◌≢◌, ◌<◌, inl, inr, List, [], ◌∷◌, arith, refl, sym, ap, subst}
use Rattle.std.specs.List.{All, Contains}
use Rattle.std.proofs.lemmas.Bool.{cases_lt}
use Rattle.std.proofs.lemmas.List.Elements.{Contains-append_cases, Contains-append_left, Contains-append_right}
use Rattle.shared_order.specs.Heads.{HeadView, Gains}
use Rattle.scheduler_tests.specs.Numbered.{numbered, HasNumbers}
use Rattle.shared_order.proofs.Changes.{gains_all}

only_one : (h x : HeadView) → Contains (h ∷ []) x → x ≡ h
only_one h x (zero, l, e) = sym e
only_one h x (suc k, l, e) = absurd (omega (arith, l))

pub gains_itself : (xs ys : List HeadView) (h : HeadView) → Gains xs h ys → Contains ys h
gains_itself xs ys h g = subst (λ l. Contains l h) (sym g.after) (Contains-append_right g.front (h ∷ g.back) h (Contains-append_left (h ∷ []) g.back h (0, omega arith, refl)))

pub gains_contains : (xs ys : List HeadView) (h x : HeadView) → Gains xs h ys → Contains xs x → Contains ys x
gains_contains xs ys h x g c = subst (λ l. Contains l x) (sym g.after) (elim (Contains-append_cases g.front g.back x (subst (λ l. Contains l x) g.before c)) [
  | inl a ↦ Contains-append_left g.front (h ∷ g.back) x a
  | inr b ↦ Contains-append_right g.front (h ∷ g.back) x (Contains-append_right (h ∷ []) g.back x b)
])

pub gains_others : (xs ys : List HeadView) (h x : HeadView) → Gains xs h ys → x ≢ h → Contains ys x → Contains xs x
gains_others xs ys h x g n c = subst (λ l. Contains l x) (sym g.before) (elim (Contains-append_cases g.front (h ∷ g.back) x (subst (λ l. Contains l x) g.after c)) [
  | inl a ↦ Contains-append_left g.front g.back x a
  | inr b ↦ elim (Contains-append_cases (h ∷ []) g.back x b) [
    | inl o ↦ absurd (n (only_one h x o))
    | inr r ↦ Contains-append_right g.front g.back x r
  ]
])

-- ---- the heads of the tests

apart : (k n : ℕ) → k ≢ n → numbered k ≢ numbered n
apart k n d = λ e. d (ap (λ h. h.request) e)

pub numbers_gain : (xs ys : List HeadView) (n m : ℕ) → m ≡ suc n → Gains xs (numbered n) ys → HasNumbers xs 0 n → HasNumbers ys 0 m
numbers_gain xs ys n m e g a = λ k low high. elim (cases_lt k n) [
  | inl less ↦ gains_contains xs ys (numbered n) (numbered k) g (a k low less)
  | inr more ↦
      let same : n ≡ k = omega arith in
      subst (λ i. Contains ys (numbered i)) same (gains_itself xs ys (numbered n) g)
]

pub numbers_leave : (xs ys : List HeadView) (n from to : ℕ) → n < from → Gains xs (numbered n) ys → HasNumbers ys from to → HasNumbers xs from to
numbers_leave xs ys n from to l g a = λ k low high. gains_others xs ys (numbered n) (numbered k) g (apart k n (omega arith)) (a k low high)

pub numbers_below : (xs ys : List HeadView) (n m : ℕ) → m ≡ suc n → Gains xs (numbered n) ys → All (λ h. h.request < n) xs → All (λ h. h.request < m) ys
numbers_below xs ys n m e g a = gains_all (λ h. h.request < m) xs ys (numbered n) g (λ k d l. omega (arith, a k d l)) (omega arith)
