-- The work that requests gain in each slot.
use Rattle.std.proofs.Common.{ℕ, zero, suc, ◌+◌, ◌-◌, ◌*◌, ◌/◌, ◌<◌, ◌≤◌, ◌≡◌, nat_le, min, List, length, take, get_or, slice_set, arith, refl, ap, sym, ◌∙◌, inl, inr, sum, sum_by, replicate, [], pos, ◌-ℤ◌}
use Rattle.fluid_reference.specs.Slots.{number_at}
use Rattle.std.proofs.lemmas.Bool.{cases_Bool, cond-true, cond-false, leb-true, leb-false, le-leb, lt-leb}
use Rattle.std.proofs.lemmas.List.{take-set-le, length-take-le, get_or-take, length-take, length-replicate, get_or-replicate, take_all}
use Rattle.std.proofs.lemmas.List.Sums.{sum_by-set, sum_by_more, sum_by-le-sum_by}
use Rattle.std.proofs.lemmas.Nat.{le-div}
use Rattle.std.proofs.Math.Seq.{take-set-lt}
use Rattle.std.proofs.Math.Nat.{div-le_of_le-mul, mul-le-mul_left, mul-le-mul_right, div-mul-le_self}
use Rattle.fq_laws.proofs.Lists.{list_same}
use Rattle.fluid_reference.proofs.Lists.{sum_none}
use Rattle.fq_model.specs.Lag.{work_between}
use Rattle.lag_report.specs.declared.course.Course.{Course}
use Rattle.lag_report.specs.Work.{work_in, GainsAre, samples_from, lags_from}

-- ---- the work on one request

-- all of it from the end on, none up to the start, and a part in between
pub whole : (taken ended cost m : ℕ) → ended ≤ m → work_between taken ended cost m ≡ cost
whole taken ended cost m h = cond-true (nat_le ended m) _ _ (le-leb _ _ h)

pub none : (taken ended cost m : ℕ) → m < ended → m ≤ taken → work_between taken ended cost m ≡ 0
none taken ended cost m h g = cond-false (nat_le ended m) _ _ (lt-leb _ _ h) ∙ cond-true (nat_le m taken) _ _ (le-leb _ _ g)

pub part : (taken ended cost m : ℕ) → m < ended → taken < m → work_between taken ended cost m ≡ cost * (m - taken) / (ended - taken)
part taken ended cost m h g = cond-false (nat_le ended m) _ _ (lt-leb _ _ h) ∙ cond-false (nat_le m taken) _ _ (lt-leb _ _ g)

pub part_low : (taken ended cost m : ℕ) → m < ended → cost * (m - taken) / (ended - taken) ≤ cost
part_low taken ended cost m h = div-le_of_le-mul (ended - taken) (omega (arith, mul-le-mul_left {m = m - taken} {n = ended - taken} cost (omega arith)))

low : (taken ended cost m : ℕ) → work_between taken ended cost m ≤ cost
low taken ended cost m = elim (cases_Bool (nat_le ended m)) [
  | inl e ↦ omega (arith, whole taken ended cost m (leb-true _ _ e))
  | inr e ↦ elim (cases_Bool (nat_le m taken)) [
    | inl g ↦ omega (arith, none taken ended cost m (leb-false _ _ e) (leb-true _ _ g))
    | inr g ↦ omega (arith, part taken ended cost m (leb-false _ _ e) (leb-false _ _ g), part_low taken ended cost m (leb-false _ _ e))
  ]
]

-- a greater dividend has no smaller quotient
pub quotients : (a b d : ℕ) → 0 < d → a ≤ b → a / d ≤ b / d
quotients a b d some h = le-div (a / d) b d some (omega (arith, div-mul-le_self a d))

-- more by a later moment
rises : (taken ended cost m n : ℕ) → m ≤ n → work_between taken ended cost m ≤ work_between taken ended cost n
rises taken ended cost m n h = elim (cases_Bool (nat_le ended n)) [
  | inl e ↦ omega (arith, whole taken ended cost n (leb-true _ _ e), low taken ended cost m)
  | inr e ↦
      let soon : n < ended = leb-false _ _ e in
      elim (cases_Bool (nat_le m taken)) [
        | inl g ↦ omega (arith, none taken ended cost m (omega (arith, soon)) (leb-true _ _ g))
        | inr g ↦
            let begun : taken < m = leb-false _ _ g in
            let more : cost * (m - taken) ≤ cost * (n - taken) = mul-le-mul_left cost (omega arith) in
            omega (arith, part taken ended cost m (omega (arith, soon)) begun, part taken ended cost n soon (omega (arith, begun)), quotients (cost * (m - taken)) (cost * (n - taken)) (ended - taken) (omega (arith, begun, soon)) more)
      ]
]

-- ---- by slots

pub in_low : (Q k : ℕ) (c : Course) → work_in Q k c ≤ c.cost
in_low Q zero c = omega arith
in_low Q (suc k) c = low c.taken c.ended c.cost (suc k * Q)

pub in_rises : (Q k : ℕ) (c : Course) → work_in Q k c ≤ work_in Q (suc k) c
in_rises Q zero c = omega arith
in_rises Q (suc k) c = rises c.taken c.ended c.cost (suc k * Q) (suc (suc k) * Q) (omega (arith, mul-le-mul_right {m = suc k} {n = suc (suc k)} Q (omega arith)))

-- none before the slot of the start, and all from the slot of the end on
pub in_none : (Q k : ℕ) (c : Course) → 1 ≤ Q → c.taken ≤ c.ended → k ≤ (c.taken - 1) / Q → work_in Q k c ≡ 0
in_none Q zero c some order h = refl
in_none Q (suc k) c some order h =
    let before : suc k * Q ≤ c.taken - 1 = omega (arith, mul-le-mul_right {m = suc k} {n = (c.taken - 1) / Q} Q h, div-mul-le_self (c.taken - 1) Q) in
    let one : Q ≤ suc k * Q = omega (arith, mul-le-mul_right {m = 1} {n = suc k} Q (omega arith)) in
    none c.taken c.ended c.cost (suc k * Q) (omega (arith, before, one)) (omega (arith, before))

pub in_whole : (Q k : ℕ) (c : Course) → 1 ≤ Q → (c.ended - 1) / Q < k → work_in Q k c ≡ c.cost
in_whole Q zero c some h = absurd (omega (arith, h))
in_whole Q (suc k) c some h =
    let more : ((c.ended - 1) / Q + 1) * Q ≤ suc k * Q = mul-le-mul_right Q (omega (arith, h)) in
    whole c.taken c.ended c.cost (suc k * Q) (omega (arith, more))

-- ---- one gain more

sum_before : (gains : List ℕ) (i j v : ℕ) → j ≤ i → sum (take j (slice_set gains i v)) ≡ sum (take j gains)
sum_before gains i j v h = ap sum (take-set-le j gains i v h)

sum_after : (gains : List ℕ) (i j v : ℕ) → i < j → j ≤ length gains → sum (take j (slice_set gains i v)) + get_or gains i 0 ≡ sum (take j gains) + v
sum_after gains i j v h l =
    let inside : i < length (take j gains) = omega (arith, h, l, length-take-le j gains l) in
    omega (arith, ap sum (take-set-lt j gains i v h), sum_by-set (λ x. x) (take j gains) i v 0 inside, get_or-take j gains i 0 h)

-- the work of one request in the first i slots was added to the gains, and its work in slot i is added now
pub gained_more : (gains old : List ℕ) (i j before after : ℕ) (work : ℕ → ℕ) → length gains ≡ length old → i < length old → before ≡ work i → after ≡ work (suc i) → before ≤ after →
    ((k : ℕ) → k ≤ length old → sum (take k gains) ≡ sum (take k old) + work (min k i)) →
    j ≤ length old → sum (take j (slice_set gains i (get_or gains i 0 + (after - before)))) ≡ sum (take j old) + work (min j (i + 1))
gained_more gains old i j before after work len some is then more so_far l = elim (cases_Bool (nat_le j i)) [
  | inl e ↦
      let early : j ≤ i = leb-true _ _ e in
      let same : min j (i + 1) ≡ min j i = omega (arith, early) in
      omega (arith, sum_before gains i j (get_or gains i 0 + (after - before)) early, so_far j l, ap work same)
  | inr e ↦
      let late : i < j = leb-false _ _ e in
      let last : min j (i + 1) ≡ suc i = omega (arith, late) in
      let first : min j i ≡ i = omega (arith, late) in
      omega (arith, sum_after gains i j (get_or gains i 0 + (after - before)) late (omega (arith, l, len)), so_far j l, ap work last, ap work first, is, then, more)
]

-- ---- the gains of many requests

pub gains_none : (Q n : ℕ) (gains : List ℕ) → gains ≡ replicate n 0 → GainsAre Q [] gains
gains_none Q n gains is k l = ap (λ xs. sum (take k xs)) is ∙ sum_none (λ x. x) (take k (replicate n 0)) (λ i d m.
    let shorter : i < min k (length (replicate n (zero))) = omega (arith, m, length-take k (replicate n (zero))) in
    get_or-take k (replicate n 0) i d (omega (arith, shorter)) ∙ get_or-replicate n i 0 d (omega (arith, shorter, length-replicate {A = ℕ} n 0)))

pub gains_step : (Q i : ℕ) (courses : List Course) (gains new : List ℕ) (d : Course) → i < length courses → length new ≡ length gains → GainsAre Q (take i courses) gains →
    ((k : ℕ) → k ≤ length gains → sum (take k new) ≡ sum (take k gains) + work_in Q k (get_or courses i d)) → GainsAre Q (take (i + 1) courses) new
gains_step Q i courses gains new d some same are more k l =
    more k (omega (arith, l, same)) ∙ ap (λ n. n + work_in Q k (get_or courses i d)) (are k (omega (arith, l, same))) ∙ sym (sum_by_more (work_in Q k) courses i d some)

-- are few, as the costs are
pub gains_low : (Q : ℕ) (courses : List Course) (gains : List ℕ) → sum_by (λ c. c.cost) courses ≤ 2000000000000000 → GainsAre Q courses gains → sum gains ≤ 2000000000000000
gains_low Q courses gains few are =
    let all : sum (take (length gains) gains) ≡ sum gains = ap sum (take_all (length gains) gains (omega arith)) in
    let each : sum_by (work_in Q (length gains)) courses ≤ sum_by (λ c. c.cost) courses = sum_by-le-sum_by (work_in Q (length gains)) (λ (c : Course). c.cost) courses (in_low Q (length gains)) in
    omega (arith, all, each, are (length gains) (omega arith), few)

-- the lags by the gains are those by the work
pub lags_are : (Q : ℕ) (served gains : List ℕ) (courses : List Course) → length gains ≡ length served → GainsAre Q courses gains → samples_from served (λ k. sum (take k gains)) ≡ lags_from served courses Q
lags_are Q served gains courses same are = list_same _ _ (length served) (λ k l. ap (λ n. pos (number_at served k) -ℤ pos n) (are (suc k) (omega (arith, l, same))))
