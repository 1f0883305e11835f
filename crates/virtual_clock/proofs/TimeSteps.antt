-- The times of a history at first, at a later moment, and at a Report, a Close or a Submit more.
use Rattle.std.proofs.Common.{ℕ, ◌+◌, ◌<◌, ◌≤◌, ◌≡◌, ◌≢◌, Bool, List, Option, Some, None, is_some, true, false, arith, refl, sym, subst, ◌∙◌, inl, inr, ◌∷◌, [], length, replicate, slice_set, slice_index, if◌then◌else◌, ℤ, pos, ◌≤ℤ◌, ap, length-set, get_or-set_same, get_or-set_other}
use Rattle.std.proofs.lemmas.Bool.{cases_eq, cases_Bool, eq-eqb, ne_eqb, false≢true}
use Rattle.std.proofs.lemmas.Int.{ints}
use Rattle.vt_fixed.specs.declared.limits.TheConstants.{GREATEST_ACTIVE_WEIGHT, GREATEST_MOMENT}
use Rattle.fq_model.specs.Limits.{InLimits}
use Rattle.fq_model.specs.Time.{is_active, last_moment}
use Rattle.fq_model.specs.Pace.{pace, virtual_time}
use Rattle.fq_model.specs.Rules.{IsLegal}
use Rattle.fq_model.specs.declared.config.Config.{Config}
use Rattle.fq_model.specs.declared.event.Act.{Act}
use Rattle.fq_model.specs.declared.event.Act.TheVariants.{Submit, Report, Close}
use Rattle.fq_model.specs.declared.event.Entry.{Entry}
use Rattle.fq_model.specs.History.{History, weight_at, pool_at}
use Rattle.fq_laws.specs.Words.{is_take, concerns}
use Rattle.fq_laws.specs.Steps.{is_passing, Passes, Submits, Awaits, Follows}
use Rattle.fq_laws.proofs.Time.Clock.{SameWeight}
use Rattle.fq_laws.proofs.Time.Open.{open_requests_low, active_of_open}
use Rattle.fq_laws.proofs.Rules.Limits.{submits_low}
use Rattle.fq_laws.proofs.History.Weights.{weight_high}
use Rattle.fq_laws.proofs.Keys.Served.{rate_room}
use Rattle.winner_tree.specs.declared.key.Key.{Key}
use Rattle.winner_tree.specs.Order.{key_of}
use Rattle.virtual_clock.specs.declared.times.Times.{Times}
use Rattle.virtual_clock.specs.declared.idles.Idle.{Idle}
use Rattle.virtual_clock.specs.Clock.{cap_for, at_start, moved_to, entered}
use Rattle.virtual_clock.specs.Idles.{asleep_at_first, idle_of, is_asleep, opened}
use Rattle.virtual_clock.specs.Lingering.{Settled, IsCounted, HasRoomFor, with_opened, submitted, Settles}
use Rattle.virtual_clock.specs.Histories.{WeightsAre, lingers, lingering_key, LingeringAre, TimesAt, TimesAre}
use Rattle.virtual_clock.proofs.Opening.{submits_open, passes, passes_leave}
use Rattle.virtual_clock.proofs.Counting.{counted_still, counts_awake, counts_lingering, counts_nothing}
use Rattle.virtual_clock.proofs.ClockSteps.{clock_nil, clock_moved, next_time, next_cap}
use Rattle.virtual_clock.proofs.IdleSteps.{idles_nil, idles_later, idles_stay, idles_written, idle_opened}
use Rattle.virtual_clock.proofs.Lingerings.{active_not, no_key, none_settled, key_left, key_settled, tag_passed, lingering_nil}
use Rattle.virtual_clock.proofs.Settling.{ListsAre, lists_at, Unsettled, times_settled, counted_at, counted_is, asleep_if_inactive}

-- the times of the empty history
pub times_nil : (C : Config) → TimesAre C [] (record { clock = at_start C.policy C.workers; weights = C.weights; idles = replicate (length C.weights) asleep_at_first; lingering = replicate (length C.weights) None })
unfolding weight_at
times_nil C = record {
  clock_is = clock_nil C;
  weights_are = record { tenants = refl; each = λ t b. refl };
  idles_are = idles_nil C;
  lingering_are = lingering_nil C;
}

-- the weights stay where no entry changes them
pub weights_stay : (C : Config) (P : History) (e : Entry) (weights : List ℕ) → ((t : ℕ) → t < length C.weights → weight_at C (e ∷ P) t ≡ weight_at C P t) → WeightsAre C P weights → WeightsAre C (e ∷ P) weights
weights_stay C P e weights same is = record { tenants = is.tenants; each = λ t b. is.each t b ∙ sym (same t b) }

-- the clock alone has come to a moment
abbrev pub come : ℕ → Times → Times
come m x = record { clock = moved_to x.clock m; weights = x.weights; idles = x.idles; lingering = x.lingering }

-- the times come to a moment
pub times_come : (C : Config) (P : History) (m : ℕ) (old : Times) → InLimits C → IsLegal C P → last_moment P ≤ m → m ≤ GREATEST_MOMENT → TimesAre C P old → TimesAt C P m (come m old)
times_come C P m old lim l later small is = record {
  clock_is = clock_moved C P m old.clock lim l later small is.clock_is;
  weights_are = is.weights_are;
  idles_are = idles_later C P m old.idles is.idles_are;
  lingering_are = is.lingering_are;
}

-- as they do at each entry
pub comes_to : (C : Config) (P : History) (e : Entry) (m : ℕ) (old : Times) → InLimits C → IsLegal C (e ∷ P) → e.moment ≡ m → TimesAre C P old → TimesAt C P e.moment (come m old)
comes_to C P e m old lim l same is = rw (← same) (times_come C P e.moment old lim l.0 l.1 l.2 is)

-- the clock moves on to an entry no later than the greatest moment
pub record MayMove (m : ℕ) (old : Times) : Type 0 where
  pub later : old.clock.moment ≤ m
  pub in_range : m ≤ GREATEST_MOMENT

pub may_move : (C : Config) (P : History) (e : Entry) (m : ℕ) (old : Times) → IsLegal C (e ∷ P) → e.moment ≡ m → TimesAre C P old → MayMove m old
may_move C P e m old l same is = record { later = rw (is.clock_is.moment, ← same) l.1; in_range = rw (← same) l.2 }

-- ---- a Report or a Close

passing : (a : Act) → is_passing a ≡ true → (passes a ≡ true) × (is_take a ≡ false)
passing (Report worker request used) h = (refl, refl)
passing Close h = (refl, refl)
passing _ h = absurd (false≢true h)

-- the times after an act that passes, but for what is to be settled
pub passed : (C : Config) (P : History) (e : Entry) (now : Times) → InLimits C → IsLegal C (e ∷ P) → passes e.act ≡ true → now.clock.time ≡ pos (virtual_time C (e ∷ P) e.moment) → now.clock.cap ≡ cap_for C.policy (pace C (e ∷ P)).reached → now.clock.workers ≡ pool_at C P → now.clock.moment ≡ e.moment → ListsAre C P e.moment now → Unsettled C (e ∷ P) e.moment now
passed C P e now lim l p time cap workers moment is =
    let s = passes_leave C P e p in
    record {
      workers = workers ∙ sym s.pool_stays;
      moment = moment;
      time = time;
      cap = cap;
      weights_are = weights_stay C P e now.weights (λ t b. (s.all_stay t).weight_same) is.weights_are;
      idles_are = idles_stay C P e now.idles (λ t. (s.all_stay t).open_same) is.idles_are;
      keys_sized = is.lingering_are.tenants;
      each = λ t b. rw (is.lingering_are.each t b) (key_settled C P e t (s.all_stay t).open_same (tag_passed C P e t lim l p));
    }

pub may_pass : (m : ℕ) (old : Times) → Awaits TimesAre (Passes m) old → MayMove m old × IsCounted (come m old)
may_pass m old w = (
  may_move w.config w.history w.entry m old w.legal w.comes.moment_is w.kept_is,
  counted_at w.config w.history w.entry.moment (come m old) (comes_to w.config w.history w.entry m old w.limits w.legal w.comes.moment_is w.kept_is),
)

pub follows_pass : (m : ℕ) (old new : Times) → Settles (come m old) new → Follows TimesAre (Passes m) old new
follows_pass m old new made = λ C P e lim l s is.
    let p = passing e.act s.passes in
    let at = comes_to C P e m old lim l s.moment_is is in
    times_settled C (e ∷ P) e.moment (come m old) new
    (passed C P e (come m old) lim l p.0 (next_time C P e _ p.1 at.clock_is) (next_cap C P e _ p.1 at.clock_is) at.clock_is.workers at.clock_is.moment (lists_at C P e.moment (come m old) at)) made

-- ---- a Submit

-- one tenant's weight stays, and so do the others'
pub own_and_others : (C : Config) (P : History) (e : Entry) (t : ℕ) → weight_at C (e ∷ P) t ≡ weight_at C P t → ((u : ℕ) → u ≢ t → SameWeight C P (e ∷ P) u) → (u : ℕ) → u < length C.weights → weight_at C (e ∷ P) u ≡ weight_at C P u
own_and_others C P e t own others u b = elim (cases_eq u t) [ inl same ↦ rw same own | inr other ↦ (others u other).weight_same ]

-- a tenant fell asleep or woke no later than the clock that is moved to an entry
pub since_moved : (C : Config) (P : History) (e : Entry) (m t : ℕ) (old : Times) → InLimits C → IsLegal C (e ∷ P) → e.moment ≡ m → t < length C.weights → TimesAre C P old → (idle_of old.idles t).since ≤ℤ (moved_to old.clock m).time
since_moved C P e m t old lim l same known is =
    let at = comes_to C P e m old lim l same is in
    omega (arith, ints, (at.idles_are.each t known).earlier, at.clock_is.time)

-- the preconditions of the calls at a Submit, of the times before it
pub record MaySubmit (m : ℕ) (old : Times) (t : ℕ) : Type 0 where
  pub moves : MayMove m old
  pub kept : t < length old.idles
  pub keyed : t < length old.lingering
  pub earlier : (idle_of old.idles t).since ≤ℤ (moved_to old.clock m).time
  pub weighed : t < length old.weights
  pub few : (idle_of old.idles t).undone < 4294967295
  pub room : is_asleep (idle_of old.idles t) ≡ true → HasRoomFor t (with_opened m t old)
  pub is_counted : IsCounted (submitted m t old)

opened_awake : (i : Idle) (v : ℤ) → is_asleep (opened i v) ≡ false
opened_awake i v = elim (cases_eq i.undone 0) [ inl none ↦ rw (eq-eqb i.undone 0 none) refl | inr some ↦ rw (ne_eqb i.undone 0 some) (ne_eqb (i.undone + 1) 0 (λ e. absurd (omega (arith, e)))) ]

-- the tenant is awake after it
now_awake : (m t : ℕ) (x : Times) → t < length x.idles → is_asleep (idle_of (with_opened m t x).idles t) ≡ false
now_awake m t x b = ap is_asleep (get_or-set_same x.idles t (opened (idle_of x.idles t) (moved_to x.clock m).time) asleep_at_first b) ∙ opened_awake (idle_of x.idles t) (moved_to x.clock m).time

other_idle : (m t u : ℕ) (x : Times) → u ≢ t → idle_of (with_opened m t x).idles u ≡ idle_of x.idles u
other_idle m t u x ne = get_or-set_other x.idles t u (opened (idle_of x.idles t) (moved_to x.clock m).time) asleep_at_first ne

no_longer_awake : (x : Times) (t : ℕ) → IsCounted x → is_asleep (idle_of x.idles t) ≡ false → is_some (key_of x.lingering t) ≡ true → ⊥
no_longer_awake x t is awake some = false≢true (sym awake ∙ is.apart t some)

pub choose_first : (b : Bool) (x y : Times) → b ≡ true → (if b then x else y) ≡ x
choose_first b x y h = rw h refl

pub choose_second : (b : Bool) (x y : Times) → b ≡ false → (if b then x else y) ≡ y
choose_second b x y h = rw h refl

-- the three ways of it: the tenant lingered, it was asleep and did not linger, or it was awake
abbrev rejoined_at : ℕ → ℕ → Times → Times
rejoined_at m t x = record { clock = moved_to x.clock m; weights = x.weights; idles = (with_opened m t x).idles; lingering = slice_set x.lingering t None }

abbrev entered_at : ℕ → ℕ → Times → Times
entered_at m t x = record { clock = entered (moved_to x.clock m) (slice_index x.weights t); weights = x.weights; idles = (with_opened m t x).idles; lingering = x.lingering }

if_lingering : (m t : ℕ) (x : Times) → is_asleep (idle_of x.idles t) ≡ true → is_some (key_of x.lingering t) ≡ true → submitted m t x ≡ rejoined_at m t x
if_lingering m t x asleep some = choose_first _ _ _ asleep ∙ choose_first _ (rejoined_at m t x) (entered_at m t x) some

if_asleep : (m t : ℕ) (x : Times) → is_asleep (idle_of x.idles t) ≡ true → is_some (key_of x.lingering t) ≡ false → submitted m t x ≡ entered_at m t x
if_asleep m t x asleep none = choose_first _ _ _ asleep ∙ choose_second _ (rejoined_at m t x) (entered_at m t x) none

if_awake : (m t : ℕ) (x : Times) → is_asleep (idle_of x.idles t) ≡ false → submitted m t x ≡ with_opened m t x
if_awake m t x up = choose_second _ _ _ up

-- what it counts
counted_submitted : (m t : ℕ) (x : Times) → t < length x.weights → IsCounted (come m x) → IsCounted (submitted m t x)
counted_submitted m t x b is =
    let i : t < length x.idles = omega (arith, is.idles_sized, b) in
    let k : t < length x.lingering = omega (arith, is.keys_sized, b) in
    let awake = now_awake m t x i in
    elim (cases_Bool (is_asleep (idle_of x.idles t))) [
      | inl asleep ↦ elim (cases_Bool (is_some (key_of x.lingering t))) [
        | inl some ↦ subst IsCounted (sym (if_lingering m t x asleep some)) (counted_still (come m x) (rejoined_at m t x) t is (record {
          known = b;
          weights_sized = refl;
          idles_sized = length-set x.idles t _;
          keys_sized = length-set x.lingering t None;
          others = λ u ne. record { asleep_same = ap is_asleep (other_idle m t u x ne); key_same = get_or-set_other x.lingering t u None None ne; weight_same = refl };
          apart = λ h. absurd (false≢true (sym (ap is_some (get_or-set_same x.lingering t None None k)) ∙ h));
          weight_is = omega (arith, counts_lingering (come m x) t some, counts_awake (rejoined_at m t x) t awake);
        }))
        | inr none ↦ subst IsCounted (sym (if_asleep m t x asleep none)) (counted_still (come m x) (entered_at m t x) t is (record {
          known = b;
          weights_sized = refl;
          idles_sized = length-set x.idles t _;
          keys_sized = refl;
          others = λ u ne. record { asleep_same = ap is_asleep (other_idle m t u x ne); key_same = refl; weight_same = refl };
          apart = λ h. absurd (false≢true (sym none ∙ h));
          weight_is = omega (arith, counts_nothing (come m x) t asleep none, counts_awake (entered_at m t x) t awake);
        }))
      ]
      | inr up ↦ subst IsCounted (sym (if_awake m t x up)) (counted_still (come m x) (with_opened m t x) t is (record {
        known = b;
        weights_sized = refl;
        idles_sized = length-set x.idles t _;
        keys_sized = refl;
        others = λ u ne. record { asleep_same = ap is_asleep (other_idle m t u x ne); key_same = refl; weight_same = refl };
        apart = λ h. absurd (no_longer_awake (come m x) t is up h);
        weight_is = omega (arith, counts_awake (come m x) t up, counts_awake (with_opened m t x) t awake);
      }))
    ]

-- there is room for a tenant that does not count
room_if_asleep : (C : Config) (P : History) (m t : ℕ) (x : Times) → InLimits C → IsLegal C P → t < length C.weights → TimesAt C P m x → is_asleep (idle_of x.idles t) ≡ true → is_some (key_of x.lingering t) ≡ false → x.clock.weights + slice_index x.weights t ≤ GREATEST_ACTIVE_WEIGHT
room_if_asleep C P m t x lim l b is asleep none =
    let part = sym (counted_is C P m t x (lists_at C P m x is) b) ∙ counts_nothing x t asleep none in
    omega (arith, is.clock_is.weights, is.weights_are.each t b, part, rate_room C P t (weight_at C P t) lim l b (weight_high C P t lim l))

pub may_submit : (m t : ℕ) (old : Times) → Awaits TimesAre (Submits m t) old → MaySubmit m old t
may_submit m t old w =
    let C = w.config in
    let o = submits_open C w.history w.entry m t w.limits w.legal w.comes in
    let is = w.kept_is.idles_are.each t o.known in
    let at = comes_to C w.history w.entry m old w.limits w.legal w.comes.moment_is w.kept_is in
    record {
      moves = may_move C w.history w.entry m old w.legal w.comes.moment_is w.kept_is;
      kept = omega (arith, w.kept_is.idles_are.tenants, o.known);
      keyed = omega (arith, w.kept_is.lingering_are.tenants, o.known);
      earlier = since_moved C w.history w.entry m t old w.limits w.legal w.comes.moment_is o.known w.kept_is;
      weighed = omega (arith, w.kept_is.weights_are.tenants, o.known);
      few = omega (arith, is.undone, open_requests_low C w.history t w.limits w.legal.0, (submits_low C w.history w.limits w.legal.0).1);
      room = λ asleep none. room_if_asleep C w.history w.entry.moment t (come m old) w.limits w.legal.0 o.known at asleep none;
      is_counted = counted_submitted m t old (omega (arith, w.kept_is.weights_are.tenants, o.known)) (counted_at C w.history w.entry.moment (come m old) at);
    }

-- where no key of another tenant changes, and this one is active now
pub keys_active : (C : Config) (P : History) (e : Entry) (t : ℕ) (before after : List (Option Key)) → InLimits C → IsLegal C (e ∷ P) → ((u : ℕ) → u ≢ t → concerns P u e.act ≡ false) → is_active (e ∷ P) t ≡ true → ((u : ℕ) → u ≢ t → key_of after u ≡ key_of before u) → key_of after t ≡ None → LingeringAre C P before → (u : ℕ) → u < length C.weights → Settled (pos (virtual_time C (e ∷ P) e.moment)) (key_of after u) (lingering_key C (e ∷ P) u)
keys_active C P e t before after lim l others on same none is u b = elim (cases_eq u t) [
  | inl own ↦ rw own (none_settled _ _ _ none (no_key C (e ∷ P) t (active_not C (e ∷ P) t on)))
  | inr other ↦ rw (same u other, is.each u b) (key_left C P e u lim l (others u other))
]

-- the keys after a Submit
pub record KeysSubmitted (t : ℕ) (before after : List (Option Key)) : Type 0 where
  pub sized : length after ≡ length before
  pub others : (u : ℕ) → u ≢ t → key_of after u ≡ key_of before u
  pub none : key_of after t ≡ None

-- the clock after it, but for its weight, and the lists
pub record HasSubmitted (m t : ℕ) (old new : Times) : Type 0 where
  pub workers : new.clock.workers ≡ old.clock.workers
  pub moment : new.clock.moment ≡ m
  pub time : new.clock.time ≡ (moved_to old.clock m).time
  pub cap : new.clock.cap ≡ old.clock.cap
  pub weights_are : new.weights ≡ old.weights
  pub idles_are : new.idles ≡ (with_opened m t old).idles
  pub keys_are : KeysSubmitted t old.lingering new.lingering

has_submitted : (C : Config) (P : History) (m t : ℕ) (x : Times) → t < length C.weights → TimesAre C P x → HasSubmitted m t x (submitted m t x)
has_submitted C P m t x b is =
    let k : t < length x.lingering = omega (arith, is.lingering_are.tenants, b) in
    elim (cases_Bool (is_asleep (idle_of x.idles t))) [
      | inl asleep ↦ elim (cases_Bool (is_some (key_of x.lingering t))) [
        | inl some ↦ subst (HasSubmitted m t x) (sym (if_lingering m t x asleep some)) (record { workers = refl; moment = refl; time = refl; cap = refl; weights_are = refl; idles_are = refl; keys_are = record { sized = length-set x.lingering t None; others = λ u ne. get_or-set_other x.lingering t u None None ne; none = get_or-set_same x.lingering t None None k } })
        | inr none ↦ subst (HasSubmitted m t x) (sym (if_asleep m t x asleep none)) (record { workers = refl; moment = refl; time = refl; cap = refl; weights_are = refl; idles_are = refl; keys_are = record { sized = refl; others = λ u ne. refl; none = is_none_of _ none } })
      ]
      | inr up ↦ subst (HasSubmitted m t x) (sym (if_awake m t x up)) (record { workers = refl; moment = refl; time = refl; cap = refl; weights_are = refl; idles_are = refl; keys_are = record { sized = refl; others = λ u ne. refl; none = is.lingering_are.each t b ∙ no_key C P t (awake_not up) } })
    ]
  where
    is_none_of : (o : Option Key) → is_some o ≡ false → o ≡ None
    is_none_of None h = refl
    is_none_of (Some key) h = absurd (false≢true (sym h))

    awake_not : is_asleep (idle_of x.idles t) ≡ false → lingers C P t ≡ false
    awake_not up = elim (cases_Bool (is_active P t)) [
      | inl on ↦ active_not C P t on
      | inr idle ↦ absurd (false≢true (sym up ∙ asleep_if_inactive C P (last_moment P) t x (lists_at C P (last_moment P) x is) b idle))
    ]

submit_concerns : (P : History) (a : Act) (t u r k d x : ℕ) → a ≡ Submit r t k d x → u ≢ t → concerns P u a ≡ false
submit_concerns P a t u r k d x is ne = rw is (ne_eqb t u (λ e. ne (sym e)))

pub follows_submit : (m t : ℕ) (old new : Times) → Settles (submitted m t old) new → Follows TimesAre (Submits m t) old new
follows_submit m t old new made = λ C P e lim l s is.
    let o = submits_open C P e m t lim l s in
    let at = comes_to C P e m old lim l s.moment_is is in
    let has = has_submitted C P m t old o.known is in
    let other : is_take e.act ≡ false = rw s.act_is refl in
    times_settled C (e ∷ P) e.moment (submitted m t old) new (record {
      workers = has.workers ∙ (is.clock_is.workers ∙ sym o.pool_stays);
      moment = has.moment ∙ sym s.moment_is;
      time = has.time ∙ next_time C P e _ other at.clock_is;
      cap = has.cap ∙ next_cap C P e _ other at.clock_is;
      weights_are = rw (has.weights_are) (weights_stay C P e old.weights (own_and_others C P e t o.weight_stays o.others_stay) is.weights_are);
      idles_are = rw (has.idles_are, next_time C P e (moved_to old.clock m) other at.clock_is) (idles_written C P e t old.idles _ o.known (λ u ne. (o.others_stay u ne).open_same) at.idles_are (idle_opened C P e t (idle_of old.idles t) o.more (at.idles_are.each t o.known)));
      keys_sized = has.keys_are.sized ∙ is.lingering_are.tenants;
      each = keys_active C P e t old.lingering _ lim l (λ u ne. submit_concerns P e.act t u _ _ _ _ s.act_is ne) (active_of_open (e ∷ P) t (omega (arith, o.more))) has.keys_are.others has.keys_are.none is.lingering_are;
    }) made
