-- Counts, sums, the least of the numbers that pass a test, and the greatest value.
use Rattle.std.proofs.Common.{ℕ, zero, suc, ◌+◌, ◌<◌, max, ◌≡◌, Bool, cond, arith, refl, ap, ◌∙◌, ◌≢◌, true, false, inl, inr, ◌≤◌, ◌*◌, Option, Some, None, subst, sym}
use Rattle.std.proofs.lemmas.Bool.{cases_eq, cases_Bool, cases_order, false≢true}
use Rattle.std.proofs.Math.Nat.{add-mul}
use Rattle.fq_model.specs.Sums.{count_below, sum_below, max_below, first_of, least_below}

-- equal tests, equal counts
pub count_same : (p q : ℕ → Bool) (n : ℕ) → ((r : ℕ) → r < n → p r ≡ q r) → count_below p n ≡ count_below q n
unfolding count_below
count_same p q zero h = refl
count_same p q (suc n) h =
    let e : p n ≡ q n = h n (omega arith) in
    let f : count_below p n ≡ count_below q n = count_same p q n (λ r b. h r (omega arith)) in
    ap (λ b. cond b 1 0 + count_below p n) e ∙ ap (λ k. cond (q n) 1 0 + k) f

-- where q passes r beside the numbers that p passes, its count is one more
pub count_more : (p q : ℕ → Bool) (r n : ℕ) → r < n → p r ≡ false → q r ≡ true → ((s : ℕ) → s ≢ r → p s ≡ q s) → count_below q n ≡ count_below p n + 1
unfolding count_below
count_more p q r zero b out inside h = absurd (omega arith)
count_more p q r (suc n) b out inside h = elim (cases_eq n r) [
  | inl e ↦
      let at_p : p n ≡ false = ap p e ∙ out in
      let at_q : q n ≡ true = ap q e ∙ inside in
      let rest : count_below p n ≡ count_below q n = count_same p q n (λ s c. h s (omega arith)) in
      rw (at_p, at_q, rest) (omega arith)
  | inr ne ↦
      let here : p n ≡ q n = h n ne in
      let rest : count_below q n ≡ count_below p n + 1 = count_more p q r n (omega arith) out inside h in
      rw (here, rest) (omega arith)
]

-- something passes
pub count_some : (p : ℕ → Bool) (r n : ℕ) → r < n → p r ≡ true → 1 ≤ count_below p n
unfolding count_below
count_some p r zero b inside = absurd (omega arith)
count_some p r (suc n) b inside = elim (cases_eq n r) [
  | inl e ↦ let at_p : p n ≡ true = ap p e ∙ inside in rw at_p (omega arith)
  | inr ne ↦ let rest : 1 ≤ count_below p n = count_some p r n (omega arith) inside in omega arith
]

-- equal numbers, equal sums
pub sum_same : (f g : ℕ → ℕ) (n : ℕ) → ((r : ℕ) → r < n → f r ≡ g r) → sum_below f n ≡ sum_below g n
unfolding sum_below
sum_same f g zero h = refl
sum_same f g (suc n) h =
    let e : f n ≡ g n = h n (omega arith) in
    let rest : sum_below f n ≡ sum_below g n = sum_same f g n (λ r b. h r (omega arith)) in
    omega arith

-- each number is part of the sum
pub part_of_sum : (f : ℕ → ℕ) (r n : ℕ) → r < n → f r ≤ sum_below f n
unfolding sum_below
part_of_sum f r zero b = absurd (omega arith)
part_of_sum f r (suc n) b = elim (cases_eq n r) [
  | inl e ↦ let one : f n ≡ f r = ap f e in omega arith
  | inr ne ↦ let rest : f r ≤ sum_below f n = part_of_sum f r n (omega arith) in omega arith
]

-- a sum where one number changes
pub sum_at : (f g : ℕ → ℕ) (r n : ℕ) → r < n → ((s : ℕ) → s ≢ r → f s ≡ g s) → sum_below g n + f r ≡ sum_below f n + g r
unfolding sum_below
sum_at f g r zero b h = absurd (omega arith)
sum_at f g r (suc n) b h = elim (cases_eq n r) [
  | inl e ↦
      let rest : sum_below f n ≡ sum_below g n = sum_same f g n (λ s c. h s (omega arith)) in
      let one : f n ≡ f r = ap f e in
      let two : g n ≡ g r = ap g e in
      omega arith
  | inr ne ↦
      let here : f n ≡ g n = h n ne in
      let rest : sum_below g n + f r ≡ sum_below f n + g r = sum_at f g r n (omega arith) h in
      omega arith
]

-- a sum of numbers that are at most bound where they count, and else 0
pub sum_at_most : (f : ℕ → ℕ) (p : ℕ → Bool) (bound n : ℕ) → ((r : ℕ) → f r ≤ cond (p r) bound 0) → sum_below f n ≤ count_below p n * bound
unfolding sum_below count_below
sum_at_most f p bound zero h = omega arith
sum_at_most f p bound (suc n) h =
    let rest : sum_below f n ≤ count_below p n * bound = sum_at_most f p bound n h in
    let here : f n ≤ cond (p n) bound 0 = h n in
    elim (cases_Bool (p n)) [
      | inl e ↦ let h2 : f n ≤ bound = rw e at here in rw e (omega (arith, add-mul 1 (count_below p n) bound))
      | inr e ↦ let h2 : f n ≤ 0 = rw e at here in rw e (omega arith)
    ]

-- the option is the least number below n that passes the test, or None where no number does
abbrev pub IsLeast : (ℕ → Bool) → ℕ → Option ℕ → Type 0
IsLeast test n None = (s : ℕ) → s < n → test s ≡ false
IsLeast test n (Some r) = (test r ≡ true) × (r < n) × ((s : ℕ) → s < r → test s ≡ false)

least_new : (test : ℕ → Bool) (n : ℕ) (b : Bool) → test n ≡ b → IsLeast test n None → IsLeast test (suc n) (cond b (Some n) None)
least_new test n true e h = (e, omega arith, h)
least_new test n false e h = λ s b. elim (cases_eq s n) [ inl same ↦ ap test same ∙ e | inr ne ↦ h s (omega arith) ]

least_step : (test : ℕ → Bool) (n : ℕ) (o : Option ℕ) → IsLeast test n o → IsLeast test (suc n) (first_of o (cond (test n) (Some n) None))
least_step test n None h = least_new test n (test n) refl h
least_step test n (Some r) h = (h.0, omega (arith, h.1), h.2)

pub least_is : (test : ℕ → Bool) (n : ℕ) → IsLeast test n (least_below test n)
unfolding least_below
least_is test zero = λ s b. absurd (omega arith)
least_is test (suc n) = least_step test n (least_below test n) (least_is test n)

pub least_some : (test : ℕ → Bool) (n r : ℕ) → least_below test n ≡ Some r → IsLeast test n (Some r)
least_some test n r e = subst (IsLeast test n) e (least_is test n)

pub least_none : (test : ℕ → Bool) (n : ℕ) → least_below test n ≡ None → IsLeast test n None
least_none test n e = subst (IsLeast test n) e (least_is test n)

one_least : (test : ℕ → Bool) (n : ℕ) (a b : Option ℕ) → IsLeast test n a → IsLeast test n b → a ≡ b
one_least test n None None h k = refl
one_least test n None (Some s) h k = absurd (false≢true (sym (h s k.1) ∙ k.0))
one_least test n (Some r) None h k = absurd (false≢true (sym (k r h.1) ∙ h.0))
one_least test n (Some r) (Some s) h k = ap Some (elim (cases_order r s) [
  | inl e ↦ e
  | inr o ↦ elim o [
    | inl less ↦ absurd (false≢true (sym (k.2 r less) ∙ h.0))
    | inr more ↦ absurd (false≢true (sym (h.2 s more) ∙ k.0))
  ]
])

-- an option with the properties of the least is the least
pub least_by : (test : ℕ → Bool) (n : ℕ) (o : Option ℕ) → IsLeast test n o → least_below test n ≡ o
least_by test n o h = one_least test n (least_below test n) o (least_is test n) h

-- equal tests have one least
pub least_same : (p q : ℕ → Bool) (n : ℕ) → ((r : ℕ) → p r ≡ q r) → least_below p n ≡ least_below q n
unfolding least_below
least_same p q zero h = refl
least_same p q (suc n) h = cc (least_same p q n h, h n)

-- where something passes there is a least
pub least_exists : (test : ℕ → Bool) (n r : ℕ) → r < n → test r ≡ true → (s : ℕ) × (least_below test n ≡ Some s)
least_exists test n r b e = go (least_below test n) refl
  where
    go : (o : Option ℕ) → least_below test n ≡ o → (s : ℕ) × (least_below test n ≡ Some s)
    go None is = absurd (false≢true (sym (least_none test n is r b) ∙ e))
    go (Some s) is = (s, is)

-- where the count is 1 at least, some number passes
pub count_found : (p : ℕ → Bool) (n : ℕ) → 1 ≤ count_below p n → (r : ℕ) × (r < n) × (p r ≡ true)
unfolding count_below
count_found p zero h = absurd (omega arith)
count_found p (suc n) h = elim (cases_Bool (p n)) [
  | inl e ↦ (n, omega arith, e)
  | inr e ↦ (let h2 : 1 ≤ count_below p n = (let k : 1 ≤ cond false 1 0 + count_below p n = rw e at h in omega arith) in let x = count_found p n h2 in (x.0, omega (arith, x.1), x.2))
]

pub count_zero : (p : ℕ → Bool) (n : ℕ) → ((r : ℕ) → p r ≡ false) → count_below p n ≡ 0
unfolding count_below
count_zero p zero h = refl
count_zero p (suc n) h = rw (h n) (omega (arith, count_zero p n h))

pub sum_zero : (f : ℕ → ℕ) (n : ℕ) → ((r : ℕ) → f r ≡ 0) → sum_below f n ≡ 0
unfolding sum_below
sum_zero f zero h = refl
sum_zero f (suc n) h = omega (arith, h n, sum_zero f n h)

-- ---- counts

-- a test that fails where another does passes no more often
pub count_at_most : (p q : ℕ → Bool) (n : ℕ) → ((r : ℕ) → p r ≡ true → q r ≡ true) → count_below p n ≤ count_below q n
unfolding count_below
count_at_most p q zero h = omega arith
count_at_most p q (suc n) h =
    let rest : count_below p n ≤ count_below q n = count_at_most p q n h in
    elim (cases_Bool (p n)) [ inl e ↦ rw (e, h n e) (omega arith) | inr e ↦ rw e (omega arith) ]

-- each value is no more than the greatest
pub max_covers : (f : ℕ → ℕ) (r n : ℕ) → r < n → f r ≤ max_below f n
unfolding max_below
max_covers f r zero b = absurd (omega arith)
max_covers f r (suc n) b = elim (cases_eq n r) [
  | inl e ↦ let one : f n ≡ f r = ap f e in omega arith
  | inr ne ↦ let rest : f r ≤ max_below f n = max_covers f r n (omega arith) in omega arith
]

-- and a bound of all values bounds the greatest
pub max_under : (f : ℕ → ℕ) (n bound : ℕ) → ((r : ℕ) → r < n → f r ≤ bound) → max_below f n ≤ bound
unfolding max_below
max_under f zero bound h = omega arith
max_under f (suc n) bound h =
    let here : f n ≤ bound = h n (omega arith) in
    let rest : max_below f n ≤ bound = max_under f n bound (λ r b. h r (omega arith)) in
    omega arith

-- equal numbers, equal greatest
pub max_same : (f g : ℕ → ℕ) (n : ℕ) → ((r : ℕ) → r < n → f r ≡ g r) → max_below f n ≡ max_below g n
unfolding max_below
max_same f g zero h = refl
max_same f g (suc n) h =
    let e : f n ≡ g n = h n (omega arith) in
    let rest : max_below f n ≡ max_below g n = max_same f g n (λ r b. h r (omega arith)) in
    omega arith

-- the greatest where one value rises
pub max_at : (f g : ℕ → ℕ) (r x n : ℕ) → r < n → g r ≡ max x (f r) → ((s : ℕ) → s < n → s ≢ r → g s ≡ f s) → max_below g n ≡ max x (max_below f n)
unfolding max_below
max_at f g r x zero b here others = absurd (omega arith)
max_at f g r x (suc n) b here others = elim (cases_eq n r) [
  | inl e ↦
      let one : g n ≡ max x (f n) = ap g e ∙ (here ∙ ap (λ k. max x (f k)) (sym e)) in
      let rest : max_below g n ≡ max_below f n = max_same g f n (λ s c. others s (omega arith) (λ same. omega (arith, c, same, e))) in
      rw (one, rest) (omega arith)
  | inr ne ↦
      let one : g n ≡ f n = others n (omega arith) ne in
      let rest : max_below g n ≡ max x (max_below f n) = max_at f g r x n (omega arith) here (λ s c. others s (omega arith)) in
      rw (one, rest) (omega arith)
]
