-- The weight that counts is that over which virtual time goes on, and the times of a history are right once all tenants
-- are settled.
use Rattle.std.proofs.Common.{ℕ, ◌+◌, ◌<◌, ◌≤◌, ◌≡◌, ◌⊎◌, true, false, cond, nat_lt, arith, refl, sym, ◌∙◌, ap, inl, inr, List, Option, Some, None, is_some, length, slice_index, slice_set, ℤ, pos, ◌<ℤ◌, length-set, get_or-set_same, get_or-set_other}
use Rattle.std.proofs.Math.ListN.{get_or-eq_default}
use Rattle.std.proofs.lemmas.Int.{ints}
use Rattle.std.proofs.lemmas.Bool.{cases_Bool, cases_lt, cases_eq, eq-eqb, ne_eqb, false≢true, lt-ltb}
use Rattle.fq_model.specs.declared.config.Config.{Config}
use Rattle.fq_model.specs.declared.config.Policy.TheVariants.{TwoDfqPlus}
use Rattle.fq_model.specs.Sums.{count_below}
use Rattle.fq_model.specs.History.{History, weight_at, pool_at}
use Rattle.fq_model.specs.Time.{open_requests, is_active, weight_if_active, active_weight}
use Rattle.fq_model.specs.Pace.{pace, weight_if_served, served_weight, virtual_time}
use Rattle.fq_model.specs.Keys.{tag}
use Rattle.fq_laws.specs.Words.{rate_weight}
use Rattle.fq_laws.proofs.Sums.{sum_same, count_more}
use Rattle.fq_laws.proofs.Keys.Pace.{paced_or_not, base_by_pace, rate_paced, rate_by_clock}
use Rattle.fq_laws.proofs.Keys.Tags.{tag_is}
use Rattle.fq_laws.proofs.Keys.Served.{rate_part, part_paced, part_by_clock}
use Rattle.winner_tree.specs.declared.key.Key.{Key}
use Rattle.winner_tree.specs.Order.{key_of, Precedes, IsFirst}
use Rattle.virtual_clock.specs.declared.times.Times.{Times}
use Rattle.virtual_clock.specs.Clock.{ClockView, cap_for, left}
use Rattle.virtual_clock.specs.Idles.{idle_of, is_asleep}
use Rattle.virtual_clock.specs.Lingering.{IsReached, IsAhead, Settled, IsReachedAt, NoneIsReached, counted, counted_weight, IsCounted, Settles}
use Rattle.virtual_clock.specs.Histories.{WeightsAre, IdlesAt, LingeringAre, lingering_key, TimesAt}
use Rattle.virtual_clock.proofs.Counting.{counted_still, counts_awake, counts_lingering, counts_nothing, counted_part}
use Rattle.virtual_clock.proofs.Lingerings.{active_not, by_clock_not, inactive_lingers, no_key, with_key, settled_alike}

-- ---- the weight

-- the lists that are kept are those of a history
pub record ListsAre (C : Config) (P : History) (m : ℕ) (x : Times) : Type 0 where
  pub weights_are : WeightsAre C P x.weights
  pub idles_are : IdlesAt C P m x.idles
  pub lingering_are : LingeringAre C P x.lingering

active_some : (P : History) (t : ℕ) → is_active P t ≡ true → 1 ≤ open_requests P t
unfolding is_active
active_some P t on = elim (cases_lt 0 (open_requests P t)) [ inl more ↦ omega (arith, more) | inr none ↦ absurd (false≢true (sym (le_lt_false none) ∙ on)) ]
  where
    le_lt_false : open_requests P t ≤ 0 → nat_lt 0 (open_requests P t) ≡ false
    le_lt_false h = let z : open_requests P t ≡ 0 = omega (arith, h) in rw z refl

inactive_none : (P : History) (t : ℕ) → is_active P t ≡ false → open_requests P t ≡ 0
unfolding is_active
inactive_none P t idle = elim (cases_lt 0 (open_requests P t)) [ inl more ↦ absurd (false≢true (sym idle ∙ lt-ltb 0 (open_requests P t) more)) | inr none ↦ omega (arith, none) ]

pub asleep_if_inactive : (C : Config) (P : History) (m t : ℕ) (x : Times) → ListsAre C P m x → t < length C.weights → is_active P t ≡ false → is_asleep (idle_of x.idles t) ≡ true
asleep_if_inactive C P m t x is b idle = eq-eqb _ 0 ((is.idles_are.each t b).undone ∙ inactive_none P t idle)

pub awake_if_active : (C : Config) (P : History) (m t : ℕ) (x : Times) → ListsAre C P m x → t < length C.weights → is_active P t ≡ true → is_asleep (idle_of x.idles t) ≡ false
awake_if_active C P m t x is b on = ne_eqb _ 0 (λ e. absurd (omega (arith, e, (is.idles_are.each t b).undone, active_some P t on)))

served_by_tag : (C : Config) (P : History) (t : ℕ) → C.policy ≡ TwoDfqPlus → is_active P t ≡ false → weight_if_served C P (pace C P) t ≡ cond (nat_lt (pace C P).now (tag C P t)) (weight_at C P t) 0
served_by_tag C P t is idle = rw (idle, tag_is C P t, base_by_pace C P t is) refl

-- a tenant counts by its part in the weight over which virtual time goes on
pub counted_is : (C : Config) (P : History) (m t : ℕ) (x : Times) → ListsAre C P m x → t < length C.weights → counted x t ≡ rate_part C P t
counted_is C P m t x is b =
    let weight = is.weights_are.each t b in
    elim (cases_Bool (is_active P t)) [
      | inl on ↦ counts_awake x t (awake_if_active C P m t x is b on) ∙ (weight ∙ sym (active_part_is C P t on))
      | inr idle ↦ elim (paced_or_not C.policy) [
        | inl plus ↦ elim (cases_Bool (nat_lt (pace C P).now (tag C P t))) [
          | inl above ↦ counts_lingering x t (rw (is.lingering_are.each t b, with_key C P t (inactive_lingers C P t plus idle ∙ above)) refl) ∙ (weight ∙ sym (part_paced C P t plus ∙ (served_by_tag C P t plus idle ∙ rw above refl)))
          | inr below ↦ counts_nothing x t (asleep_if_inactive C P m t x is b idle) (rw (is.lingering_are.each t b, no_key C P t (inactive_lingers C P t plus idle ∙ below)) refl) ∙ sym (part_paced C P t plus ∙ (served_by_tag C P t plus idle ∙ rw below refl))
        ]
        | inr ne ↦ counts_nothing x t (asleep_if_inactive C P m t x is b idle) (rw (is.lingering_are.each t b, no_key C P t (by_clock_not C P t ne)) refl) ∙ sym (part_by_clock C P t ne ∙ rw idle refl)
      ]
    ]
  where
    active_part_is : (C : Config) (P : History) (t : ℕ) → is_active P t ≡ true → rate_part C P t ≡ weight_at C P t
    active_part_is C P t on = elim (paced_or_not C.policy) [ inl plus ↦ part_paced C P t plus ∙ rw on refl | inr ne ↦ part_by_clock C P t ne ∙ rw on refl ]

-- so their sum is that weight
pub counted_weight_is : (C : Config) (P : History) (m : ℕ) (x : Times) → ListsAre C P m x → counted_weight x ≡ rate_weight C P
unfolding counted_weight active_weight served_weight
counted_weight_is C P m x is = rw is.weights_are.tenants (elim (paced_or_not C.policy) [
  | inl plus ↦ sum_same (counted x) (weight_if_served C P (pace C P)) (length C.weights) (λ t b. counted_is C P m t x is b ∙ part_paced C P t plus) ∙ sym (rate_paced C P plus)
  | inr ne ↦ sum_same (counted x) (weight_if_active C P) (length C.weights) (λ t b. counted_is C P m t x is b ∙ part_by_clock C P t ne) ∙ sym (rate_by_clock C P ne)
])

pub lists_at : (C : Config) (P : History) (m : ℕ) (x : Times) → TimesAt C P m x → ListsAre C P m x
lists_at C P m x is = record { weights_are = is.weights_are; idles_are = is.idles_are; lingering_are = is.lingering_are }

key_within : (keys : List (Option Key)) (t : ℕ) → is_some (key_of keys t) ≡ true → t < length keys
key_within keys t some = elim (cases_lt t (length keys)) [ inl b ↦ b | inr out ↦ absurd (false≢true (sym (ap is_some (get_or-eq_default keys None out)) ∙ some)) ]

-- the times of a history are counted
pub counted_at : (C : Config) (P : History) (m : ℕ) (x : Times) → TimesAt C P m x → IsCounted x
counted_at C P m x is = record {
  idles_sized = is.idles_are.tenants ∙ sym is.weights_are.tenants;
  keys_sized = is.lingering_are.tenants ∙ sym is.weights_are.tenants;
  apart = λ t some. apart_at t some (omega (arith, key_within x.lingering t some, is.lingering_are.tenants));
  weight_is = is.clock_is.weights ∙ sym (counted_weight_is C P m x (lists_at C P m x is));
}
  where
    apart_at : (t : ℕ) → is_some (key_of x.lingering t) ≡ true → t < length C.weights → is_asleep (idle_of x.idles t) ≡ true
    apart_at t some b = elim (cases_Bool (is_active P t)) [
      | inl on ↦ absurd (false≢true (sym (ap is_some (is.lingering_are.each t b ∙ no_key C P t (active_not C P t on))) ∙ some))
      | inr idle ↦ asleep_if_inactive C P m t x (lists_at C P m x is) b idle
    ]

-- ---- after an entry

-- the times of a history, but for the clock's weight and the tenants that virtual time has come to
pub record Unsettled (C : Config) (P : History) (m : ℕ) (x : Times) : Type 0 where
  pub workers : x.clock.workers ≡ pool_at C P
  pub moment : x.clock.moment ≡ m
  pub time : x.clock.time ≡ pos (virtual_time C P m)
  pub cap : x.clock.cap ≡ cap_for C.policy (pace C P).reached
  pub weights_are : WeightsAre C P x.weights
  pub idles_are : IdlesAt C P m x.idles
  pub keys_sized : length x.lingering ≡ length C.weights
  pub each : (t : ℕ) → t < length C.weights → Settled (pos (virtual_time C P m)) (key_of x.lingering t) (lingering_key C P t)

-- are right once these are settled
pub times_settled : (C : Config) (P : History) (m : ℕ) (old new : Times) → Unsettled C P m old → Settles old new → TimesAt C P m new
times_settled C P m old new is s = record {
  clock_is = record {
    workers = ap (λ (k : ClockView). k.workers) s.clock_is ∙ is.workers;
    moment = ap (λ (k : ClockView). k.moment) s.clock_is ∙ is.moment;
    weights = s.is_counted.weight_is ∙ counted_weight_is C P m new lists;
    time = ap (λ (k : ClockView). k.time) s.clock_is ∙ is.time;
    cap = ap (λ (k : ClockView). k.cap) s.clock_is ∙ is.cap;
  };
  weights_are = lists.weights_are;
  idles_are = lists.idles_are;
  lingering_are = lists.lingering_are;
}
  where
    weights_still : WeightsAre C P new.weights
    weights_still = rw s.weights_are is.weights_are

    lingering_still : LingeringAre C P new.lingering
    lingering_still = record {
      tenants = s.is_counted.keys_sized ∙ weights_still.tenants;
      each = λ t b. settled_alike (pos (virtual_time C P m)) (key_of old.lingering t) _ _ (rw is.time at (s.each t)) (is.each t b);
    }

    lists : ListsAre C P m new
    lists = record { weights_are = weights_still; idles_are = rw s.idles_are is.idles_are; lingering_are = lingering_still }

-- ---- one tenant after another lingers no more

-- without the tenant among those that linger
abbrev pub without : ℕ → Times → Times
without t x = record { clock = left x.clock (slice_index x.weights t); weights = x.weights; idles = x.idles; lingering = slice_set x.lingering t None }

reached_some : (v : ℤ) (o : Option Key) → IsReached v o → is_some o ≡ true
reached_some v None r = absurd r
reached_some v (Some key) r = refl

pub reached_within : (x : Times) (t : ℕ) → IsCounted x → IsReachedAt x t → t < length x.weights
reached_within x t is r = omega (arith, is.keys_sized, key_within x.lingering t (reached_some _ _ r))

pub reached_weight : (x : Times) (t : ℕ) → IsCounted x → IsReachedAt x t → slice_index x.weights t ≤ x.clock.weights
reached_weight x t is r = omega (arith, counts_lingering x t (reached_some _ _ r), counted_part x t is (reached_within x t is r))

counted_without : (x : Times) (t : ℕ) → IsCounted x → IsReachedAt x t → IsCounted (without t x)
counted_without x t is r =
    let b = reached_within x t is r in
    let gone : key_of (slice_set x.lingering t None) t ≡ None = get_or-set_same x.lingering t None None (omega (arith, is.keys_sized, b)) in
    counted_still x (without t x) t is (record {
      known = b;
      weights_sized = refl;
      idles_sized = refl;
      keys_sized = length-set x.lingering t None;
      others = λ u ne. record { asleep_same = refl; key_same = get_or-set_other x.lingering t u None None ne; weight_same = refl };
      apart = λ some. absurd (false≢true (sym (ap is_some gone) ∙ some));
      weight_is = omega (arith, counts_lingering x t (reached_some _ _ r), counts_nothing (without t x) t (is.apart t (reached_some _ _ r)) (ap is_some gone), reached_weight x t is r);
    })

-- of the tenants that lingered before, some that virtual time has come to linger no more
pub record Settling (before now : Times) : Type 0 where
  pub is_counted : IsCounted now
  pub each : (t : ℕ) → (key_of now.lingering t ≡ key_of before.lingering t) ⊎ (IsReached before.clock.time (key_of before.lingering t) × (key_of now.lingering t ≡ None))
  pub clock_is : now.clock ≡ record before.clock { weights = now.clock.weights }
  pub weights_are : now.weights ≡ before.weights
  pub idles_are : now.idles ≡ before.idles

pub settling_first : (x : Times) → IsCounted x → Settling x x
settling_first x is = record { is_counted = is; each = λ t. inl refl; clock_is = refl; weights_are = refl; idles_are = refl }

pub settling_step : (before now : Times) (t : ℕ) → Settling before now → IsReachedAt now t → Settling before (without t now)
settling_step before now t s r = record {
  is_counted = counted_without now t s.is_counted r;
  each = λ u. elim (cases_eq u t) [
    | inl own ↦ rw own (inr (reached_before, get_or-set_same now.lingering t None None (omega (arith, s.is_counted.keys_sized, reached_within now t s.is_counted r))))
    | inr other ↦ rw (get_or-set_other now.lingering t u None None other) (s.each u)
  ];
  clock_is = rw s.clock_is refl;
  weights_are = s.weights_are;
  idles_are = s.idles_are;
}
  where
    time_same : now.clock.time ≡ before.clock.time
    time_same = ap (λ (k : ClockView). k.time) s.clock_is

    reached_before : IsReached before.clock.time (key_of before.lingering t)
    reached_before = elim (s.each t) [
      | inl same ↦ (let now_reached : IsReached before.clock.time (key_of now.lingering t) = rw time_same at r in rw same at now_reached)
      | inr gone ↦ gone.0
    ]

-- until none is left that it has come to
pub settled_all : (before now : Times) → Settling before now → NoneIsReached now → Settles before now
settled_all before now s none = record {
  is_counted = s.is_counted;
  each = λ t. elim (s.each t) [
    | inl same ↦ inl (rw same at (rw (ap (λ (k : ClockView). k.time) s.clock_is) at (none t)), same)
    | inr gone ↦ inr gone
  ];
  clock_is = s.clock_is;
  weights_are = s.weights_are;
  idles_are = s.idles_are;
}

-- how many linger
abbrev pub lingering_count : Times → ℕ
lingering_count x = count_below (λ t. is_some (key_of x.lingering t)) (length x.lingering)

pub one_less : (x : Times) (t : ℕ) → IsReachedAt x t → lingering_count (without t x) < lingering_count x
one_less x t r =
    let b = key_within x.lingering t (reached_some _ _ r) in
    let gone : key_of (slice_set x.lingering t None) t ≡ None = get_or-set_same x.lingering t None None b in
    let step : count_below (λ u. is_some (key_of x.lingering u)) (length x.lingering) ≡ count_below (λ u. is_some (key_of (slice_set x.lingering t None) u)) (length x.lingering) + 1 = count_more (λ u. is_some (key_of (slice_set x.lingering t None) u)) (λ u. is_some (key_of x.lingering u)) t (length x.lingering) b (ap is_some gone) (reached_some _ _ r) (λ u ne. ap is_some (get_or-set_other x.lingering t u None None ne)) in
    rw (length-set x.lingering t None) (omega (arith, step))

-- ---- the first of them

ahead_of : (v : ℤ) (key : Key) (leaf u : ℕ) (o : Option Key) → v <ℤ key.a → ((other : Key) → o ≡ Some other → Precedes key leaf other u) → IsAhead v o
ahead_of v key leaf u None above before = cc
ahead_of v key leaf u (Some other) above before = go (before other refl)
  where
    go : Precedes key leaf other u → v <ℤ other.a
    go (inl (inl less)) = omega (arith, ints, less, above)
    go (inl (inr same)) = omega (arith, ints, same.0, above)
    go (inr same) = rw (← same.0) above

-- where virtual time has not come to the first key, it has come to none
pub none_come : (x : Times) (leaf : ℕ) (key : Key) → IsFirst x.lingering leaf key → x.clock.time <ℤ key.a → NoneIsReached x
none_come x leaf key first above t = elim (cases_eq t leaf) [
  | inl own ↦ rw (own, first.found) above
  | inr other ↦ ahead_of x.clock.time key leaf t (key_of x.lingering t) above (λ k has. first.before t k other has)
]
