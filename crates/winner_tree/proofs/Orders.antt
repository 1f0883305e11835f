-- The order of leaves with keys.
use Rattle.std.proofs.Common.{◌≡◌, ℕ, Some, arith, sym, ap, ◌∙◌, inl, inr, ◌⊎◌, ℤ}
use Rattle.std.proofs.lemmas.Int.{ints, by_lt_z}
use Rattle.std.proofs.lemmas.Bool.{cases_eq, cases_order}
use Rattle.winner_tree.specs.declared.key.Key.{Key}
use Rattle.winner_tree.specs.Order.{IsBefore}
use Rattle.winner_tree.specs.Laws.{OneComesFirst, NotBothComeFirst, OrderGoesOn, FirstIsUnique}

pub before_goes_on : (x y z : Key) → IsBefore x y → IsBefore y z → IsBefore x z
before_goes_on x y z p q = grind (arith, ints)

pub before_not_both : (x y : Key) → IsBefore x y → IsBefore y x → ⊥
before_not_both x y p q = grind (arith, ints)

same_key : (x y : Key) → x.a ≡ y.a → x.b ≡ y.b → x.c ≡ y.c → x ≡ y
same_key x y p q r =
    let first : ℤ → Key = λ v. record { a = v; b = x.b; c = x.c } in
    let second : ℤ → Key = λ v. record { a = y.a; b = v; c = x.c } in
    let third : ℕ → Key = λ v. record { a = y.a; b = y.b; c = v } in
    ap first p ∙ ap second q ∙ ap third r

pub before_cases : (x y : Key) → (x ≡ y) ⊎ (IsBefore x y ⊎ IsBefore y x)
before_cases x y = by_lt_z x.a y.a (λ p. inr (inl (inl p))) (λ p. by_lt_z y.a x.a (λ q. inr (inr (inl q))) (λ q.
    let e : x.a ≡ y.a = omega (arith, ints) in
    by_lt_z x.b y.b (λ r. inr (inl (inr (e, inl r)))) (λ r. by_lt_z y.b x.b (λ s. inr (inr (inr (sym e, inl s)))) (λ s.
    let f : x.b ≡ y.b = omega (arith, ints) in
    elim (cases_order x.c y.c) [
      | inl same ↦ inl (same_key x y e f same)
      | inr o ↦ elim o [ inl less ↦ inr (inl (inr (e, inr (f, less)))) | inr more ↦ inr (inr (inr (sym e, inr (sym f, more)))) ]
    ]))))

pub one_comes_first : OneComesFirst
one_comes_first x y leaf u = elim (before_cases x y) [
  | inl e ↦ elim (cases_order leaf u) [
    | inl same ↦ inl same
    | inr o ↦ elim o [ inl less ↦ inr (inl (inr (e, less))) | inr more ↦ inr (inr (inr (sym e, more))) ]
  ]
  | inr o ↦ elim o [ inl p ↦ inr (inl (inl p)) | inr p ↦ inr (inr (inl p)) ]
]

pub not_both_come_first : NotBothComeFirst
not_both_come_first x y leaf u p q = grind (arith, ints)

pub order_goes_on : OrderGoesOn
order_goes_on x y z leaf u t p q = grind (arith, ints)

pub some_is : (x y : Key) → Some x ≡ Some y → x ≡ y
some_is x y e = cc

pub first_is_unique : FirstIsUnique
first_is_unique map leaf u key other a b = elim (cases_eq leaf u) [
  | inl e ↦ (e, some_is key other cc)
  | inr ne ↦ absurd (not_both_come_first key other leaf u (a.before u other (λ e. ne (sym e)) b.found) (b.before leaf key ne a.found))
]
