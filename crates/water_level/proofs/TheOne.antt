-- Backlogs with a weight of 1 or more have one level.
use Rattle.std.proofs.Common.{ℕ, zero, suc, ◌+◌, ◌*◌, ◌<◌, ◌≤◌, ◌≡◌, Bool, true, false, List, [], ◌∷◌, All, arith, ap, sym, ◌∙◌, subst, inl, inr, Some, unwrap_or, nat_le}
use Rattle.std.proofs.lemmas.List.Sums.{sum_by-cons}
use Rattle.std.proofs.lemmas.Nat.{le-div, mul-le}
use Rattle.std.proofs.lemmas.Bool.{cases_Bool, cases_eq, cases_lt, false≢true, leb-true, leb-false, le-leb, cond-true, cond-false}
use Rattle.fq_model.specs.declared.level.Backlog.{Backlog}
use Rattle.fq_model.specs.declared.level.Level.{Level}
use Rattle.fq_model.specs.declared.level.Level.TheVariants as levels
use Rattle.fq_model.specs.Sums.{greatest_below}
use Rattle.fq_model.specs.Level.{gift_at, gifts_at, gifts_fit, total_units, IsGreatestLevel, IsLevel, greatest_level, level, LevelIsTheOne}
use Rattle.water_level.specs.Backlogs.{IsBacklog}
use Rattle.water_level.proofs.Sums.{gifts_mono, gifts_none}

-- from 1024 times its units on a level serves a backlog whole
gift_all : (x : ℕ) (b : Backlog) → 1 ≤ b.weight → 1024 * b.units ≤ x → b.units ≤ gift_at x b
gift_all x b r h =
    let m : b.units * 1024 * 1 ≤ x * b.weight = mul-le (b.units * 1024) 1 x b.weight (omega arith) r in
    omega (arith, le-div b.units (x * b.weight) 1024 (omega arith) (omega arith))

gifts_all : (x : ℕ) (rows : List Backlog) → All (λ b. 1 ≤ b.weight) rows → 1024 * total_units rows ≤ x → total_units rows ≤ gifts_at x rows
gifts_all x [] a h = omega arith
gifts_all x (b ∷ rows) a h =
    let c : total_units (b ∷ rows) ≡ b.units + total_units rows = sum_by-cons (λ c. c.units) b rows in
    let one = gift_all x b (a 0 b (omega arith)) (omega (arith, c)) in
    let rest : total_units rows ≤ gifts_at x rows = gifts_all x rows (λ k d l. a (suc k) d (omega arith)) (omega (arith, c)) in
    rw (sum_by-cons (gift_at x) b rows) (omega (arith, c, one, rest))

-- at the highest level all backlogs in their limits are served whole
pub gifts_highest : (rows : List Backlog) → All IsBacklog rows → total_units rows ≤ gifts_at 2048000000000000000 rows
gifts_highest [] a = omega arith
gifts_highest (b ∷ rows) a =
    let r : IsBacklog b = a 0 b (omega arith) in
    let one = gift_all 2048000000000000000 b r.weight.0 (omega (arith, r.units)) in
    let rest : total_units rows ≤ gifts_at 2048000000000000000 rows = gifts_highest rows (λ k d l. a (suc k) d (omega (arith, l))) in
    rw (sum_by-cons (gift_at 2048000000000000000) b rows, sum_by-cons (λ c. c.units) b rows) (omega (arith, one, rest))

-- the greatest number below n that passes, where 0 does
abbrev IsFound : (ℕ → Bool) → ℕ → ℕ → Type 0
IsFound test n x = (greatest_below test n ≡ Some x) × (x < n) × (test x ≡ true) × ((y : ℕ) → x < y → y < n → test y ≡ false)

found : (test : ℕ → Bool) (n : ℕ) → 0 < n → test 0 ≡ true → (x : ℕ) × IsFound test n x
unfolding greatest_below
found test zero b h = absurd (omega arith)
found test (suc n) b h = elim (cases_Bool (test n)) [
  | inl e ↦ (n, (cond-true (test n) _ _ e, omega arith, e, λ y l m. absurd (omega arith)))
  | inr e ↦ elim (cases_eq n 0) [
    | inl z ↦ absurd (false≢true (sym (subst (λ k. test k ≡ false) z e) ∙ h))
    | inr nz ↦ (let r = found test n (omega arith) h in (r.0, (cond-false (test n) _ _ e ∙ r.1.0, omega (arith, r.1.1), r.1.2, λ y l m. elim (cases_eq y n) [ inl s ↦ subst (λ k. test k ≡ false) (sym s) e | inr ne ↦ r.1.3 y l (omega arith) ])))
  ]
]

level_sound : (cap : ℕ) (rows : List Backlog) → All (λ b. 1 ≤ b.weight) rows → IsLevel cap rows (level cap rows)
unfolding level greatest_level
level_sound cap rows a = elim (cases_Bool (nat_le (total_units rows) cap)) [
  | inl e ↦ subst (IsLevel cap rows) (sym (cond-true (nat_le (total_units rows) cap) _ _ e)) (leb-true _ _ e)
  | inr e ↦
      (let over : cap < total_units rows = leb-false _ _ e in
      let f = found (gifts_fit cap rows) (1024 * total_units rows) (omega (arith, over)) (le-leb _ _ (omega (arith, gifts_none rows))) in
      let whole : total_units rows ≤ gifts_at (1024 * total_units rows) rows = gifts_all _ rows a (omega arith) in
      let is : greatest_level cap rows ≡ f.0 = ap (λ o. unwrap_or o 0) f.1.0 in
      subst (IsLevel cap rows) (sym (cond-false (nat_le (total_units rows) cap) _ _ e ∙ ap levels.At is)) (
        over,
        record {
          fits = leb-true _ _ f.1.2;
          greatest = λ y h. elim (cases_lt f.0 y) [
            | inl l ↦ elim (cases_lt y (1024 * total_units rows)) [
              | inl m ↦ absurd (omega (arith, leb-false _ _ (f.1.3 y l m), h))
              | inr m ↦ absurd (omega (arith, whole, gifts_mono (1024 * total_units rows) y rows m, h, over))
            ]
            | inr l ↦ l
          ];
        },
      ))
]

level_unique : (cap : ℕ) (rows : List Backlog) (l k : Level) → IsLevel cap rows l → IsLevel cap rows k → l ≡ k
level_unique cap rows levels.All levels.All h g = Rattle.std.proofs.Common.refl
level_unique cap rows levels.All (levels.At y) h g = absurd (omega (arith, h, g.0))
level_unique cap rows (levels.At x) levels.All h g = absurd (omega (arith, h.0, g))
level_unique cap rows (levels.At x) (levels.At y) h g = ap levels.At (omega (arith, h.1.greatest y g.1.fits, g.1.greatest x h.1.fits))

pub the_one : LevelIsTheOne
the_one cap rows l a = (λ h. level_unique cap rows l (level cap rows) h (level_sound cap rows a), λ e. subst (IsLevel cap rows) (sym e) (level_sound cap rows a))

-- the greatest level is found by looking at it and at a number above which no gifts fit
pub next_over : (cap : ℕ) (rows : List Backlog) (x z : ℕ) → gifts_at x rows ≤ cap → cap < gifts_at z rows → z ≤ suc x → IsGreatestLevel cap rows x
next_over cap rows x z fits next close = record {
  fits = fits;
  greatest = λ y h. elim (cases_lt x y) [
    | inl l ↦ absurd (omega (arith, gifts_mono z y rows (omega (arith, l, close)), h, next))
    | inr l ↦ l
  ];
}
