-- The tenants that have a backlog stand for all.
use Rattle.std.proofs.Common.{ℕ, zero, suc, ◌+◌, ◌*◌, ◌<◌, ◌≤◌, ◌≡◌, ◌≢◌, Bool, true, false, nat_eq, List, [], ◌∷◌, map, filter, length, arith, refl, ap, sym, ◌∙◌, subst, inl, inr, cond, All, take, get_or, replicate, slice_set, sum_by, count_by, get_or-set_same, get_or-set_other}
use Rattle.std.proofs.lemmas.Bool.{cases_Bool, cases_eq, cases_lt, eq-eqb, ne_eqb, ltb-true, ltb-false, lt-ltb, le-ltb, cond-true, cond-false, false≢true}
use Rattle.std.proofs.lemmas.List.{get_or_past, get_or-map, get_or-replicate, length-map, length-replicate, ext_get_or}
use Rattle.std.proofs.lemmas.List.Sums.{sum_by-cons, sum_by_more, sum_by_more_le}
use Rattle.std.proofs.Math.Nat.{add-mul}
use Rattle.fq_model.specs.declared.level.Backlog.{Backlog}
use Rattle.fq_model.specs.declared.level.Level.{Level}
use Rattle.fq_model.specs.declared.level.Level.TheVariants as levels
use Rattle.fq_model.specs.Level.{gift, gift_at, gifts_at, level, IsLevel}
use Rattle.fq_model.specs.Sums.{sum_below}
use Rattle.fq_laws.proofs.Sums.{sum_same, sum_at, sum_zero}
use Rattle.water_level.specs.Backlogs.{IsBacklog}
use Rattle.fluid_reference.specs.Slots.{AreBacklogged, CanShare, has_backlog, number_at, want_of, wants_of, served_after, served_next}
use Rattle.fq_laws.proofs.Lists.{list_at, list_length}
use Rattle.fluid_reference.proofs.Lists.{sum_of_list, sum_of_map}
use Rattle.fluid_reference.proofs.Known.{wants_in_range, level_of_wants}
use Rattle.fluid_reference.proofs.Within.{gift_low}

-- how often tenant t is named
abbrev times : ℕ → List ℕ → ℕ
times t tenants = count_by (λ u. nat_eq u t) tenants

times_own : (t : ℕ) (w : List ℕ) → times t (t ∷ w) ≡ suc (times t w)
times_own t w = omega (arith, sum_by-cons (λ u. cond (nat_eq u t) 1 0) t w, ap (λ b. cond {A = ℕ} b 1 0) (eq-eqb t t refl))

times_other : (t u : ℕ) (w : List ℕ) → t ≢ u → times t (u ∷ w) ≡ times t w
times_other t u w other = omega (arith, sum_by-cons (λ v. cond (nat_eq v t) 1 0) u w, ap (λ b. cond {A = ℕ} b 1 0) (ne_eqb u t (λ e. other (sym e))))

times_here : (w : List ℕ) (k d : ℕ) → k < length w → 1 ≤ times (get_or w k d) w
times_here [] k d l = absurd (omega (arith, l))
times_here (u ∷ w) zero d l = omega (arith, times_own u w)
times_here (u ∷ w) (suc k) d l = elim (cases_eq (get_or w k d) u) [
  | inl e ↦ subst (λ t. 1 ≤ times t (u ∷ w)) (sym e) (omega (arith, times_own u w))
  | inr ne ↦ omega (arith, times_other (get_or w k d) u w ne, times_here w k d (omega (arith, l)))
]

-- a sum over tenants takes each as often as it is named
sum_each : (f : ℕ → ℕ) (n : ℕ) (w : List ℕ) → All (λ u. u < n) w → sum_by f w ≡ sum_below (λ t. times t w * f t) n
sum_each f n [] known = sym (sum_zero (λ t. times t [] * f t) n (λ r. omega arith))
sum_each f n (u ∷ w) known =
    let rest : sum_by f w ≡ sum_below (λ t. times t w * f t) n = sum_each f n w (λ k d l. known (suc k) d (omega (arith, l))) in
    let one : sum_below (λ t. times t w * f t) n + times u (u ∷ w) * f u ≡ sum_below (λ t. times t (u ∷ w) * f t) n + times u w * f u =
    sum_at (λ t. times t (u ∷ w) * f t) (λ t. times t w * f t) u n (known 0 u (omega arith)) (λ s other. ap (λ c. c * f s) (times_other s u w other)) in
    let own : times u (u ∷ w) * f u ≡ f u + times u w * f u = ap (λ c. c * f u) (times_own u w) ∙ omega (arith, add-mul 1 (times u w) (f u)) in
    omega (arith, sum_by-cons f u w, rest, one, own)

-- a tenant that has no backlog isn't named, and a tenant that has one is named once
times_none : (costs served w : List ℕ) (t : ℕ) → AreBacklogged costs served w → has_backlog costs served t ≡ false → times t w ≡ 0
times_none costs served w t are none = are t ∙ ap (λ b. cond {A = ℕ} b 1 0) none

times_once : (costs served w : List ℕ) (t : ℕ) → AreBacklogged costs served w → has_backlog costs served t ≡ true → times t w ≡ 1
times_once costs served w t are some = are t ∙ ap (λ b. cond {A = ℕ} b 1 0) some

no_tenant : (costs served : List ℕ) (t : ℕ) → length costs ≤ t → has_backlog costs served t ≡ false
no_tenant costs served t past = le-ltb _ _ (omega (arith, get_or_past costs t 0 past))

pub known_tenants : (costs served w : List ℕ) → AreBacklogged costs served w → All (λ t. t < length costs) w
known_tenants costs served w are k d l = elim (cases_lt (get_or w k d) (length costs)) [
  | inl here ↦ here
  | inr past ↦ absurd (omega (arith, times_here w k d l, times_none costs served w (get_or w k d) are (no_tenant costs served (get_or w k d) past)))
]

-- so a sum to which the others add nothing is the sum over all
sum_backlogged : (costs served w : List ℕ) (f : ℕ → ℕ) → AreBacklogged costs served w → ((t : ℕ) → has_backlog costs served t ≡ false → f t ≡ 0) → sum_by f w ≡ sum_below f (length costs)
sum_backlogged costs served w f are none = sum_each f (length costs) w (known_tenants costs served w are) ∙ sum_same _ f (length costs) (λ t l. elim (cases_Bool (has_backlog costs served t)) [
  | inl e ↦ ap (λ c. c * f t) (times_once costs served w t are e) ∙ omega arith
  | inr e ↦ ap (λ c. c * f t) (times_none costs served w t are e) ∙ omega (arith, none t e)
])

-- they are no more than all tenants
sum_ones : (w : List ℕ) → sum_by (λ _. 1) w ≡ length w
sum_ones [] = refl
sum_ones (u ∷ w) = sum_by-cons (λ _. 1) u w ∙ omega (arith, sum_ones w)

sum_low : (f : ℕ → ℕ) (n : ℕ) → ((t : ℕ) → f t ≤ 1) → sum_below f n ≤ n
unfolding sum_below
sum_low f zero low = omega arith
sum_low f (suc n) low = omega (arith, low n, sum_low f n low)

pub no_more : (costs served w : List ℕ) → AreBacklogged costs served w → length w ≤ length costs
no_more costs served w are = omega (
  arith,
  sum_ones w,
  sum_each (λ _. 1) (length costs) w (known_tenants costs served w are),
  sum_low (λ t. times t w * 1) (length costs) (λ t. elim (cases_Bool (has_backlog costs served t)) [
    | inl e ↦ omega (arith, times_once costs served w t are e)
    | inr e ↦ omega (arith, times_none costs served w t are e)
  ]),
)

-- ---- the level

-- a tenant that has no backlog wants no units
no_units : (costs served weights : List ℕ) (t : ℕ) → has_backlog costs served t ≡ false → (want_of costs served weights t).units ≡ 0
no_units costs served weights t none = omega (arith, ltb-false (number_at served t) (number_at costs t) none)

no_gift : (l : Level) (b : Backlog) → b.units ≡ 0 → gift l b ≡ 0
no_gift l b none = omega (arith, none, gift_low l b)

sum_wants : (costs served weights w : List ℕ) (f : Backlog → ℕ) → AreBacklogged costs served w → ((b : Backlog) → b.units ≡ 0 → f b ≡ 0) → sum_by f (map (want_of costs served weights) w) ≡ sum_by f (wants_of costs served weights)
sum_wants costs served weights w f are none = sum_of_map f (want_of costs served weights) w
    ∙ sum_backlogged costs served w (λ t. f (want_of costs served weights t)) are (λ t e. none _ (no_units costs served weights t e))
    ∙ sym (sum_of_list f (want_of costs served weights) (length costs))

-- the backlogs of the tenants that have one have the level of all backlogs
pub level_of_all : (cap : ℕ) (costs served weights w : List ℕ) (l : Level) → AreBacklogged costs served w → IsLevel cap (map (want_of costs served weights) w) l → IsLevel cap (wants_of costs served weights) l
level_of_all cap costs served weights w levels.All are is = omega (arith, is, sum_wants costs served weights w (λ b. b.units) are (λ b e. e))
level_of_all cap costs served weights w (levels.At x) are is =
    let gifts : (y : ℕ) → gifts_at y (map (want_of costs served weights) w) ≡ gifts_at y (wants_of costs served weights) = λ y. sum_wants costs served weights w (gift_at y) are (λ b e. no_gift (levels.At y) b e) in (
      omega (arith, is.0, sum_wants costs served weights w (λ b. b.units) are (λ b e. e)),
      record { fits = omega (arith, is.1.fits, gifts x); greatest = λ y h. is.1.greatest y (omega (arith, h, gifts y)) },
    )

pub backlogs_in_range : (costs served weights w : List ℕ) → CanShare costs served weights → All (λ t. t < length costs) w → All IsBacklog (map (want_of costs served weights) w)
backlogs_in_range costs served weights w can known k d l =
    let here : k < length w = omega (arith, l, length-map w (want_of costs served weights)) in
    let tenant : get_or w k 0 < length costs = known k 0 here in
    subst IsBacklog (sym (get_or-map (want_of costs served weights) w k 0 d here)) (record {
      units = omega (arith, can.costs_low (get_or w k 0) tenant);
      weight = can.in_range (get_or w k 0) 0 (omega (arith, tenant, can.weights_len));
    })

-- ---- the gifts to the tenants that have a backlog

-- the gift of a slot of this level to tenant u, counted for tenant t
abbrev pub given_to : Level → List ℕ → List ℕ → List ℕ → ℕ → ℕ → ℕ
given_to l costs served weights t u = cond (nat_eq u t) (gift l (want_of costs served weights u)) 0

given_own : (l : Level) (costs served weights : List ℕ) (t : ℕ) → given_to l costs served weights t t ≡ gift l (want_of costs served weights t)
given_own l costs served weights t = cond-true (nat_eq t t) _ _ (eq-eqb t t refl)

given_other : (l : Level) (costs served weights : List ℕ) (t u : ℕ) → t ≢ u → given_to l costs served weights t u ≡ 0
given_other l costs served weights t u other = cond-false (nat_eq u t) _ _ (ne_eqb u t (λ e. other (sym e)))

-- the gifts that count for tenant t are together its gift
given_all : (l : Level) (costs served weights w : List ℕ) (t : ℕ) → AreBacklogged costs served w → t < length costs → sum_by (given_to l costs served weights t) w ≡ gift l (want_of costs served weights t)
given_all l costs served weights w t are here =
    let all : sum_by (given_to l costs served weights t) w ≡ sum_below (given_to l costs served weights t) (length costs) = sum_backlogged costs served w (given_to l costs served weights t) are (λ u e. elim (cases_eq t u) [
      | inl own ↦ subst (λ v. given_to l costs served weights t v ≡ 0) own (given_own l costs served weights t ∙ no_gift l _ (no_units costs served weights t (subst (λ v. has_backlog costs served v ≡ false) (sym own) e)))
      | inr other ↦ given_other l costs served weights t u other
    ]) in
    let one : sum_below (λ _. 0) (length costs) + given_to l costs served weights t t ≡ sum_below (given_to l costs served weights t) (length costs) + 0 = sum_at (given_to l costs served weights t) (λ _. 0) t (length costs) here (λ s other. given_other l costs served weights t s (λ e. other (sym e))) in
    omega (arith, all, one, sum_zero (λ _. 0) (length costs) (λ r. refl), given_own l costs served weights t)

-- `now` is the service of each tenant once the tenants in w were given their gifts
abbrev pub IsGiven : Level → List ℕ → List ℕ → List ℕ → List ℕ → List ℕ → Type 0
IsGiven l costs served weights w now = (t : ℕ) → t < length served → number_at now t ≡ number_at served t + sum_by (given_to l costs served weights t) w

pub given_one : (l : Level) (costs served weights w now : List ℕ) (k : ℕ) → k < length w → get_or w k 0 < length served → length now ≡ length served → IsGiven l costs served weights (take k w) now →
    IsGiven l costs served weights (take (k + 1) w) (slice_set now (get_or w k 0) (number_at now (get_or w k 0) + gift l (want_of costs served weights (get_or w k 0))))
given_one l costs served weights w now k some known same are t here =
    let T : ℕ = get_or w k 0 in
    let v : ℕ = number_at now T + gift l (want_of costs served weights T) in
    elim (cases_eq t T) [
      | inl own ↦ subst (λ u. number_at (slice_set now T v) u ≡ number_at served u + sum_by (given_to l costs served weights u) (take (k + 1) w)) (sym own)
          (get_or-set_same now T v 0 (omega (arith, known, same)) ∙ omega (arith, are T known, sum_by_more (given_to l costs served weights T) w k 0 some, given_own l costs served weights T))
      | inr other ↦ get_or-set_other now T t v 0 other ∙ omega (arith, are t here, sum_by_more (given_to l costs served weights t) w k 0 some, given_other l costs served weights t T other)
    ]

-- the gift to the next tenant leaves its service within the limits
pub given_low : (l : Level) (costs served weights w now : List ℕ) (k : ℕ) → CanShare costs served weights → AreBacklogged costs served w → k < length w → IsGiven l costs served weights (take k w) now →
    number_at now (get_or w k 0) + gift l (want_of costs served weights (get_or w k 0)) ≤ 2000000000000000
given_low l costs served weights w now k can backlogged some are =
    let T : ℕ = get_or w k 0 in
    let known : T < length costs = known_tenants costs served w backlogged k 0 some in
    omega (
      arith,
      are T (omega (arith, known, can.served_len)),
      sum_by_more_le (given_to l costs served weights T) w k 0 some,
      given_own l costs served weights T,
      given_all l costs served weights w T backlogged known,
      gift_low l (want_of costs served weights T),
      can.costs_low T known,
      can.served_low T known,
    )

-- the level of those that have a backlog is that of all tenants
pub level_is : (cap : ℕ) (l : Level) (costs served weights w : List ℕ) → CanShare costs served weights → AreBacklogged costs served w → IsLevel cap (map (want_of costs served weights) w) l → l ≡ level cap (wants_of costs served weights)
level_is cap l costs served weights w can backlogged is = level_of_wants cap (wants_of costs served weights) l (wants_in_range costs served weights can.costs_low can.weights_len can.in_range) (level_of_all cap costs served weights w l backlogged is)

-- the service once all tenants that have a backlog were given their gifts
pub served_is : (cap : ℕ) (l : Level) (costs served weights w now : List ℕ) → CanShare costs served weights → AreBacklogged costs served w → IsLevel cap (map (want_of costs served weights) w) l → length now ≡ length served → IsGiven l costs served weights w now →
    now ≡ served_next cap costs served weights
served_is cap l costs served weights w now can backlogged is same are =
    let wants : List Backlog = wants_of costs served weights in
    let at : l ≡ level cap wants = level_is cap l costs served weights w can backlogged is in
    let len : length now ≡ length (served_next cap costs served weights) = same ∙ can.served_len ∙ sym (list_length (served_after (level cap wants) wants served) (length costs)) in
    ext_get_or 0 now (served_next cap costs served weights) len (λ t here.
    (let known : t < length costs = omega (arith, here, same, can.served_len) in
    are t (omega (arith, here, same)) ∙ ap (λ n. number_at served t + n) (given_all l costs served weights w t backlogged known)
    ∙ ap (λ m. number_at served t + gift m (want_of costs served weights t)) at
    ∙ ap (λ b. number_at served t + gift (level cap wants) b) (sym (list_at (want_of costs served weights) (length costs) t (record { units = 0; weight = 0 }) known))
    ∙ sym (list_at (served_after (level cap wants) wants served) (length costs) t 0 known)))

-- ---- those that have a backlog after a change

times_left : (p : ℕ → Bool) (t : ℕ) (w : List ℕ) → times t (filter p w) ≡ cond (p t) (times t w) 0
times_left p t [] = elim (cases_Bool (p t)) [ inl e ↦ rw e refl | inr e ↦ rw e refl ]
times_left p t (u ∷ w) = elim (cases_eq t u) [
  | inl own ↦ subst (λ v. times v (filter p (u ∷ w)) ≡ cond (p v) (times v (u ∷ w)) 0) (sym own) (elim (cases_Bool (p u)) [
    | inl e ↦ ap (times u) (cond-true (p u) _ _ e) ∙ times_own u (filter p w) ∙ ap suc (times_left p u w ∙ cond-true (p u) _ _ e) ∙ sym (times_own u w) ∙ sym (cond-true (p u) _ _ e)
    | inr e ↦ ap (times u) (cond-false (p u) (u ∷ filter p w) (filter p w) e) ∙ times_left p u w ∙ cond-false (p u) _ _ e ∙ sym (cond-false (p u) _ _ e)
  ])
  | inr other ↦ elim (cases_Bool (p u)) [
    | inl e ↦ ap (times t) (cond-true (p u) _ _ e) ∙ times_other t u (filter p w) other ∙ times_left p t w ∙ ap (λ n. cond (p t) n 0) (sym (times_other t u w other))
    | inr e ↦ ap (times t) (cond-false (p u) (u ∷ filter p w) (filter p w) e) ∙ times_left p t w ∙ ap (λ n. cond (p t) n 0) (sym (times_other t u w other))
  ]
]

-- after gifts, the tenants that have a backlog are those in w that still have one
pub still_are : (l : Level) (costs served weights w now : List ℕ) → length served ≡ length costs → AreBacklogged costs served w → IsGiven l costs served weights w now → AreBacklogged costs now (filter (has_backlog costs now) w)
still_are l costs served weights w now same are given t = times_left (has_backlog costs now) t w ∙ elim (cases_Bool (has_backlog costs now t)) [
  | inl e ↦ cond-true (has_backlog costs now t) _ _ e ∙ times_once costs served w t are (had t e) ∙ sym (cond-true (has_backlog costs now t) _ _ e)
  | inr e ↦ cond-false (has_backlog costs now t) _ _ e ∙ sym (cond-false (has_backlog costs now t) _ _ e)
]
  where
    had : (t : ℕ) → has_backlog costs now t ≡ true → has_backlog costs served t ≡ true
    had t e = elim (cases_lt t (length costs)) [
      | inl here ↦ lt-ltb _ _ (omega (arith, given t (omega (arith, here, same)), ltb-true (number_at now t) (number_at costs t) e))
      | inr past ↦ absurd (false≢true (sym (no_tenant costs now t past) ∙ e))
    ]

-- at first there are none
pub none_at_first : (n : ℕ) (costs served : List ℕ) → costs ≡ replicate n 0 → AreBacklogged costs served []
none_at_first n costs served is t =
    let none : number_at costs t ≡ 0 = ap (λ xs. number_at xs t) is ∙ elim (cases_lt t n) [
      | inl here ↦ get_or-replicate n t 0 0 here
      | inr past ↦ get_or_past (replicate n 0) t 0 (omega (arith, past, length-replicate {A = ℕ} n 0))
    ] in
    sym (ap (λ b. cond {A = ℕ} b 1 0) (le-ltb (number_at served t) (number_at costs t) (omega (arith, none))))
