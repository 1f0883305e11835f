-- Sums by window.
use Rattle.std.proofs.Common.{ℕ, zero, suc, ◌≡◌, ◌+◌, ◌-◌, ◌*◌, ◌%◌, ◌^◌, ◌<◌, ◌≤◌, ◌⊎◌, min, List, [], ◌∷◌, All, get_or, arith, refl, sym, ap, ◌∙◌, subst, inl, inr}
use Rattle.std.proofs.lemmas.Bool.{cases_lt}
use Rattle.std.proofs.lemmas.Bool.Decides.{nat_tests}
use Rattle.std.proofs.lemmas.List.Sums.{sum_by-cons}
use Rattle.std.proofs.lemmas.Nat.{mul-le}
use Rattle.worker_reserve.specs.declared.demand.Ended.{Ended}
use Rattle.worker_reserve.specs.declared.demand.Sums.{Sums}
use Rattle.worker_reserve.specs.Demand.{window_of, ran_of, ran_in, class_demand, demand, lowered}
use Rattle.worker_reserve.specs.Kept.{AreSums, HasWindows, Keeps, weighed}

-- nothing ended after the last window
pub ran_later : (past : List Ended) (latest window class : ℕ) → All (λ e. window_of e.moment ≤ latest) past → latest < window → ran_in past window class ≡ 0
ran_later [] latest window class a h = refl
ran_later (e ∷ past) latest window class a h =
    let rest : ran_in past window class ≡ 0 = ran_later past latest window class (λ k d l. a (suc k) d (omega (arith, l))) h in
    let over : window_of e.moment ≤ latest = a 0 e (omega arith) in
    let one : ran_of window class e ≡ 0 = grind (arith, nat_tests) in
    sum_by-cons (ran_of window class) e past ∙ omega (arith, rest, one)

later_sums : (past : List Ended) (latest window : ℕ) (zeros : List ℕ) → All (λ e. window_of e.moment ≤ latest) past → latest < window → ((class : ℕ) → class < 30 → get_or zeros class 0 ≡ 0) → AreSums past window zeros
later_sums past latest window zeros a h z class few = omega (arith, z class few, ran_later past latest window class a h)

pub opened : (current previous : List ℕ) → ((class : ℕ) → class < 30 → get_or current class 0 ≡ 0) → ((class : ℕ) → class < 30 → get_or previous class 0 ≡ 0) → Keeps [] (record { latest = 0; current = current; previous = previous })
opened current previous c p = record {
  windows = record {
    over = λ k d l. absurd (omega (arith, l));
    sums = λ class few. c class few;
    older = λ class few. p class few;
  };
  reached = λ moment past. omega arith;
}

pub moved_by_one : (past : List Ended) (s : Sums) (window : ℕ) (zeros : List ℕ) → HasWindows past s → window ≡ s.latest + 1 → ((class : ℕ) → class < 30 → get_or zeros class 0 ≡ 0) → HasWindows past (record { latest = window; current = zeros; previous = s.current })
moved_by_one past s window zeros k e z =
    let same : window - 1 ≡ s.latest = omega (arith, e) in
    record {
      over = λ i d l. omega (arith, k.over i d l, e);
      sums = later_sums past s.latest window zeros k.over (omega (arith, e)) z;
      older = subst (λ w. AreSums past w s.current) (sym same) k.sums;
    }

pub moved_on : (past : List Ended) (s : Sums) (window : ℕ) (zeros others : List ℕ) → HasWindows past s → s.latest + 1 < window → ((class : ℕ) → class < 30 → get_or zeros class 0 ≡ 0) → ((class : ℕ) → class < 30 → get_or others class 0 ≡ 0) → HasWindows past (record { latest = window; current = zeros; previous = others })
moved_on past s window zeros others k far z o = record {
  over = λ i d l. omega (arith, k.over i d l, far);
  sums = later_sums past s.latest window zeros k.over (omega (arith, far)) z;
  older = later_sums past s.latest (window - 1) others k.over (omega (arith, far)) o;
}

-- Two numbers that are equal, or of which neither is below a third, can't be told apart once they are lowered to it.
abbrev AreAlike : ℕ → ℕ → ℕ → Type 0
AreAlike most x y = (x ≡ y) ⊎ ((most ≤ x) × (most ≤ y))

alike_lowered : (most x y : ℕ) → AreAlike most x y → min x most ≡ min y most
alike_lowered most x y (inl e) = ap (λ n. min n most) e
alike_lowered most x y (inr h) = omega (arith, h.0, h.1)

alike_sum : (most x y v w : ℕ) → AreAlike most x y → AreAlike most v w → AreAlike most (x + v) (y + w)
alike_sum most x y v w (inl e) (inl d) = inl (omega (arith, e, d))
alike_sum most x y v w (inl e) (inr h) = inr (omega (arith, h.0), omega (arith, h.1))
alike_sum most x y v w (inr h) d = inr (omega (arith, h.0), omega (arith, h.1))

-- a sum that 64 bits don't hold is more than the rule can tell, times any part
alike_part : (sum part : ℕ) → 1 ≤ part → AreAlike 70368744177664 (min sum (2 ^ 64 - 1) * part) (sum * part)
alike_part sum part low = elim (cases_lt sum (2 ^ 64)) [
  | inl l ↦ inl (ap (λ n. n * part) (let e : min sum (2 ^ 64 - 1) ≡ sum = omega (arith, l) in e))
  | inr l ↦
      inr (
        (let m : 70368744177664 * 1 ≤ min sum (2 ^ 64 - 1) * part = mul-le 70368744177664 1 (min sum (2 ^ 64 - 1)) part (omega (arith, l)) low in omega (arith, m)),
        (let m : 70368744177664 * 1 ≤ sum * part = mul-le 70368744177664 1 sum part (omega (arith, l)) low in omega (arith, m)),
      )
]

module _ (past : List Ended) (s : Sums) (moment part : ℕ) (k : HasWindows past s) (at : s.latest ≡ window_of moment) (is : part ≡ 131072 - moment % 131072) (low : 1 ≤ part) where
  alike_class : (class : ℕ) → class < 30 → AreAlike 70368744177664 (get_or s.previous class 0 * part + get_or s.current class 0 * 131072) (class_demand past moment class)
  alike_class class few =
      let older : get_or s.previous class 0 ≡ min (ran_in past (window_of moment - 1) class) (2 ^ 64 - 1) = subst (λ w. get_or s.previous class 0 ≡ min (ran_in past (w - 1) class) (2 ^ 64 - 1)) at (k.older class few) in
      let newer : get_or s.current class 0 ≡ min (ran_in past (window_of moment) class) (2 ^ 64 - 1) = subst (λ w. get_or s.current class 0 ≡ min (ran_in past w class) (2 ^ 64 - 1)) at (k.sums class few) in
      rw (older, newer, ← is) (alike_sum 70368744177664 _ _ _ _ (alike_part (ran_in past (window_of moment - 1) class) part low) (alike_part (ran_in past (window_of moment) class) 131072 (omega arith)))

  alike_demand : (class : ℕ) → class ≤ 30 → AreAlike 70368744177664 (weighed s part class) (demand past moment class)
  unfolding weighed demand
  alike_demand zero few = inl refl
  alike_demand (suc class) few = alike_sum 70368744177664 _ _ _ _ (alike_demand class (omega (arith, few))) (alike_class class (omega (arith, few)))

  pub is_demand : (class : ℕ) → class ≤ 30 → min (weighed s part class) 70368744177664 ≡ lowered (demand past moment class)
  is_demand class few = alike_lowered 70368744177664 _ _ (alike_demand class few)

pub weighed_more : (s : Sums) (part class : ℕ) → weighed s part (class + 1) ≡ weighed s part class + (get_or s.previous class 0 * part + get_or s.current class 0 * 131072)
unfolding weighed
weighed_more s part class = let e : class + 1 ≡ suc class = omega arith in ap (weighed s part) e

pub weighed_none : (s : Sums) (part : ℕ) → weighed s part 0 ≡ 0
unfolding weighed
weighed_none s part = refl
