-- Sums over the requests of one tenant.
use Rattle.std.proofs.Common.{ℕ, ◌+◌, ◌≡◌, Bool, nat_eq, List, [], ◌∷◌, refl, ap, ap₂, sym, ◌∙◌, inl, inr, sum_by, zero-add, ◌≤◌, arith}
use Rattle.std.specs.List.{filter}
use Rattle.std.proofs.lemmas.Bool.{cases_Bool, cond-true, cond-false}
use Rattle.std.proofs.lemmas.List.Sums.{sum_by-cons, sum_by-le-sum_by}
use Rattle.lag_report.specs.declared.course.Course.{Course}
use Rattle.lag_report.specs.Courses.{own}

abbrev pub is_own : ℕ → Course → Bool
is_own t c = nat_eq c.tenant t

-- sums over the courses of one tenant
pub own_sum : (t : ℕ) (f : Course → ℕ) (cs : List Course) → sum_by f (filter (is_own t) cs) ≡ sum_by (own t f) cs
own_sum t f [] = refl
own_sum t f (c ∷ cs) = elim (cases_Bool (is_own t c)) [
  | inl e ↦ ap (sum_by f) (cond-true (is_own t c) _ _ e) ∙ sum_by-cons f c (filter (is_own t) cs) ∙ ap₂ ◌+◌ (sym (cond-true (is_own t c) (f c) 0 e)) (own_sum t f cs) ∙ sym (sum_by-cons (own t f) c cs)
  | inr e ↦ ap (sum_by f) (cond-false (is_own t c) _ _ e) ∙ own_sum t f cs ∙ sym (zero-add (sum_by (own t f) cs)) ∙ ap (λ n. n + sum_by (own t f) cs) (sym (cond-false (is_own t c) (f c) 0 e)) ∙ sym (sum_by-cons (own t f) c cs)
]

-- are no more than those over all
pub own_low : (t : ℕ) (f : Course → ℕ) (cs : List Course) → sum_by f (filter (is_own t) cs) ≤ sum_by f cs
own_low t f cs = omega (
  arith,
  own_sum t f cs,
  sum_by-le-sum_by (own t f) f cs (λ c. elim (cases_Bool (is_own t c)) [
    | inl e ↦ omega (arith, cond-true (is_own t c) (f c) 0 e)
    | inr e ↦ omega (arith, cond-false (is_own t c) (f c) 0 e)
  ]),
)
