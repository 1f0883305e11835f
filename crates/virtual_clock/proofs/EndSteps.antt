-- The times of a history at a Done or a Withdraw more.
use Rattle.std.proofs.Common.{ℕ, ◌-◌, ◌<◌, ◌≤◌, ◌≡◌, ◌≢◌, ◌⊎◌, Some, None, is_some, true, false, arith, refl, sym, ◌∙◌, inl, inr, ◌∷◌, length, slice_set, slice_index, ℤ, pos, ◌≤ℤ◌, ap, length-set, get_or-set_same, get_or-set_other}
use Rattle.std.proofs.lemmas.Bool.{cases_eq, cases_Bool, ne_eqb, eqb-true, eqb-false, false≢true, lt-ltb, le-ltb}
use Rattle.std.proofs.lemmas.Int.{ints}
use Rattle.fq_model.specs.Time.{open_requests, is_active}
use Rattle.fq_model.specs.Pace.{pace, virtual_time}
use Rattle.fq_model.specs.Keys.{tag}
use Rattle.fq_model.specs.Rules.{IsLegal}
use Rattle.fq_model.specs.Limits.{InLimits}
use Rattle.fq_model.specs.declared.config.Config.{Config}
use Rattle.fq_model.specs.declared.config.Policy.{Policy}
use Rattle.fq_model.specs.declared.config.Policy.TheVariants.{TwoDfqPlus}
use Rattle.fq_model.specs.declared.event.Act.{Act}
use Rattle.fq_model.specs.declared.event.Act.TheVariants.{Submit, Take, Report, Done, Close, Weight, Workers, Withdraw}
use Rattle.fq_model.specs.declared.event.Entry.{Entry}
use Rattle.fq_model.specs.History.{History, request_at, is_of_tenant, is_end_of}
use Rattle.fq_laws.specs.Words.{is_take, concerns}
use Rattle.fq_laws.specs.Steps.{Ends}
use Rattle.fq_laws.proofs.History.Asked.{of_other}
use Rattle.fq_laws.proofs.Time.Open.{active_of_open, inactive_of_open}
use Rattle.fq_laws.proofs.Keys.Pace.{paced_or_not, now_is_time}
use Rattle.winner_tree.specs.Order.{key_of}
use Rattle.virtual_clock.specs.declared.times.Times.{Times}
use Rattle.virtual_clock.specs.declared.idles.Idle.{Idle}
use Rattle.virtual_clock.specs.Clock.{moved_to}
use Rattle.virtual_clock.specs.Idles.{asleep_at_first, idle_of, is_asleep, is_at_last, closed}
use Rattle.virtual_clock.specs.Lingering.{key_for, Settled, IsCounted, Retires, lingers_on, leaves_at_once, with_closed, Ended, Settles}
use Rattle.virtual_clock.specs.Histories.{lingering_key, TimesAt, TimesAre, AwaitsEnd, FollowsEnd}
use Rattle.virtual_clock.proofs.Opening.{Closes, ends_close, end_no_take}
use Rattle.virtual_clock.proofs.Counting.{counted_still, counts_awake, counts_lingering, counts_nothing, counted_part}
use Rattle.virtual_clock.proofs.ClockSteps.{next_time, next_cap}
use Rattle.virtual_clock.proofs.IdleSteps.{idles_written, idle_closed}
use Rattle.virtual_clock.proofs.Lingerings.{active_not, by_clock_not, inactive_lingers, no_key, with_key, none_settled, key_left}
use Rattle.virtual_clock.proofs.Settling.{times_settled, counted_at}
use Rattle.virtual_clock.proofs.TimeSteps.{weights_stay, come, comes_to, MayMove, may_move, own_and_others, since_moved}

-- the preconditions of the calls at a Done or a Withdraw, of the times before it
pub record MayEnd (policy : Policy) (m t : ℕ) (start : ℤ) (old : Times) : Type 0 where
  pub moves : MayMove m old
  pub weighed : t < length old.weights
  pub kept : t < length old.idles
  pub keyed : t < length old.lingering
  pub some : 1 ≤ (idle_of old.idles t).undone
  pub earlier : (idle_of old.idles t).since ≤ℤ (moved_to old.clock m).time
  pub entered : slice_index old.weights t ≤ old.clock.weights
  pub is_counted : (new : Times) → Ended policy m t start old new → IsCounted new

-- ---- what counts

closed_asleep : (i : Idle) (v : ℤ) → is_at_last i ≡ true → is_asleep (closed i v) ≡ true
closed_asleep i v last = rw last refl

closed_awake : (i : Idle) (v : ℤ) → 1 ≤ i.undone → is_at_last i ≡ false → is_asleep (closed i v) ≡ false
closed_awake i v some more = rw more (ne_eqb (i.undone - 1) 0 (λ z. absurd (eqb-false i.undone 1 more (omega (arith, some, z)))))

own_idle : (m t : ℕ) (x : Times) → t < length x.idles → idle_of (with_closed m t x).idles t ≡ closed (idle_of x.idles t) (moved_to x.clock m).time
own_idle m t x b = get_or-set_same x.idles t (closed (idle_of x.idles t) (moved_to x.clock m).time) asleep_at_first b

other_idle : (m t u : ℕ) (x : Times) → u ≢ t → idle_of (with_closed m t x).idles u ≡ idle_of x.idles u
other_idle m t u x ne = get_or-set_other x.idles t u (closed (idle_of x.idles t) (moved_to x.clock m).time) asleep_at_first ne

up : (x : Times) (t : ℕ) → 1 ≤ (idle_of x.idles t).undone → is_asleep (idle_of x.idles t) ≡ false
up x t some = ne_eqb (idle_of x.idles t).undone 0 (λ e. absurd (omega (arith, some, e)))

none_up : (x : Times) (t : ℕ) → IsCounted x → is_asleep (idle_of x.idles t) ≡ false → is_some (key_of x.lingering t) ≡ false
none_up x t is awake = elim (cases_Bool (is_some (key_of x.lingering t))) [ inl some ↦ absurd (false≢true (sym awake ∙ is.apart t some)) | inr none ↦ none ]

counted_lingering : (m t : ℕ) (start : ℤ) (x : Times) → t < length x.weights → IsCounted (come m x) → 1 ≤ (idle_of x.idles t).undone → is_at_last (idle_of x.idles t) ≡ true → IsCounted (lingers_on t start (with_closed m t x))
counted_lingering m t start x b is some last =
    let k : t < length x.lingering = omega (arith, is.keys_sized, b) in
    let asleep = ap is_asleep (own_idle m t x (omega (arith, is.idles_sized, b))) ∙ closed_asleep (idle_of x.idles t) _ last in
    let key : is_some (key_of (slice_set x.lingering t (Some (key_for start))) t) ≡ true = ap is_some (get_or-set_same x.lingering t (Some (key_for start)) None k) in
    counted_still (come m x) (lingers_on t start (with_closed m t x)) t is (record {
      known = b;
      weights_sized = refl;
      idles_sized = length-set x.idles t _;
      keys_sized = length-set x.lingering t _;
      others = λ u ne. record { asleep_same = ap is_asleep (other_idle m t u x ne); key_same = get_or-set_other x.lingering t u (Some (key_for start)) None ne; weight_same = refl };
      apart = λ h. asleep;
      weight_is = omega (arith, counts_awake (come m x) t (up x t some), counts_lingering (lingers_on t start (with_closed m t x)) t key);
    })

counted_left : (m t : ℕ) (x : Times) → t < length x.weights → IsCounted (come m x) → 1 ≤ (idle_of x.idles t).undone → is_at_last (idle_of x.idles t) ≡ true → IsCounted (leaves_at_once t (with_closed m t x))
counted_left m t x b is some last =
    let asleep = ap is_asleep (own_idle m t x (omega (arith, is.idles_sized, b))) ∙ closed_asleep (idle_of x.idles t) _ last in
    let none = none_up (come m x) t is (up x t some) in
    counted_still (come m x) (leaves_at_once t (with_closed m t x)) t is (record {
      known = b;
      weights_sized = refl;
      idles_sized = length-set x.idles t _;
      keys_sized = refl;
      others = λ u ne. record { asleep_same = ap is_asleep (other_idle m t u x ne); key_same = refl; weight_same = refl };
      apart = λ h. absurd (false≢true (sym none ∙ h));
      weight_is = omega (arith, counts_awake (come m x) t (up x t some), counts_nothing (leaves_at_once t (with_closed m t x)) t asleep none, counted_part (come m x) t is b);
    })

counted_active : (m t : ℕ) (x : Times) → t < length x.weights → IsCounted (come m x) → 1 ≤ (idle_of x.idles t).undone → is_at_last (idle_of x.idles t) ≡ false → IsCounted (with_closed m t x)
counted_active m t x b is some more =
    let awake = ap is_asleep (own_idle m t x (omega (arith, is.idles_sized, b))) ∙ closed_awake (idle_of x.idles t) _ some more in
    counted_still (come m x) (with_closed m t x) t is (record {
      known = b;
      weights_sized = refl;
      idles_sized = length-set x.idles t _;
      keys_sized = refl;
      others = λ u ne. record { asleep_same = ap is_asleep (other_idle m t u x ne); key_same = refl; weight_same = refl };
      apart = λ h. absurd (false≢true (sym (none_up (come m x) t is (up x t some)) ∙ h));
      weight_is = omega (arith, counts_awake (come m x) t (up x t some), counts_awake (with_closed m t x) t awake);
    })

counted_ended : (policy : Policy) (m t : ℕ) (start : ℤ) (x new : Times) → t < length x.weights → IsCounted (come m x) → 1 ≤ (idle_of x.idles t).undone → Ended policy m t start x new → IsCounted new
counted_ended policy m t start x new b is some made = elim (cases_Bool (is_at_last (idle_of x.idles t))) [
  | inl last ↦ elim (made.retired last) [
    | inl on ↦ rw on.2 (counted_lingering m t start x b is some last)
    | inr out ↦ rw out.1 (counted_left m t x b is some last)
  ]
  | inr more ↦ rw (made.stays_active more) (counted_active m t x b is some more)
]

pub may_end : (policy : Policy) (m t : ℕ) (start : ℤ) (old : Times) → AwaitsEnd policy m t start old → MayEnd policy m t start old
may_end policy m t start old w =
    let C = w.config in
    let c = ends_close C w.history w.entry m t w.limits w.legal w.ends in
    let is = w.times_are.idles_are.each t c.known in
    let at = comes_to C w.history w.entry m old w.limits w.legal w.ends.moment_is w.times_are in
    let counts = counted_at C w.history w.entry.moment (come m old) at in
    let b : t < length old.weights = omega (arith, w.times_are.weights_are.tenants, c.known) in
    let some : 1 ≤ (idle_of old.idles t).undone = omega (arith, is.undone, c.less) in
    record {
      moves = may_move C w.history w.entry m old w.legal w.ends.moment_is w.times_are;
      weighed = b;
      kept = omega (arith, w.times_are.idles_are.tenants, c.known);
      keyed = omega (arith, w.times_are.lingering_are.tenants, c.known);
      some = some;
      earlier = since_moved C w.history w.entry m t old w.limits w.legal w.ends.moment_is c.known w.times_are;
      entered = omega (arith, counts_awake (come m old) t (up old t some), counted_part (come m old) t counts b);
      is_counted = λ new made. counted_ended policy m t start old new b counts some made;
    }

-- ---- the keys

end_concerns : (P : History) (a : Act) (r u : ℕ) → is_end_of r a ≡ true → concerns P u a ≡ is_of_tenant u (request_at P r)
end_concerns P (Done worker request cost) r u h = rw (eqb-true request r h) refl
end_concerns P (Withdraw request) r u h = rw (eqb-true request r h) refl
end_concerns P (Submit request tenant kind declared label) r u h = absurd (false≢true h)
end_concerns P (Take worker request estimate) r u h = absurd (false≢true h)
end_concerns P (Report worker request used) r u h = absurd (false≢true h)
end_concerns P Close r u h = absurd (false≢true h)
end_concerns P (Weight tenant weight) r u h = absurd (false≢true h)
end_concerns P (Workers count) r u h = absurd (false≢true h)

others_unconcerned : (P : History) (e : Entry) (m t : ℕ) → Ends m t P e → (u : ℕ) → u ≢ t → concerns P u e.act ≡ false
others_unconcerned P e m t s u ne = end_concerns P e.act s.request u s.ends ∙ of_other P u s.request s.asked s.asked_is (λ same. ne (sym same ∙ s.tenant_is))

-- the tenant that is active no more has its key, or none
own_settled : (C : Config) (P : History) (e : Entry) (policy : Policy) (t : ℕ) (start : ℤ) (before after : Times) → policy ≡ C.policy → is_active (e ∷ P) t ≡ false → (C.policy ≡ TwoDfqPlus → start ≡ pos (tag C (e ∷ P) t)) → before.clock.time ≡ pos (virtual_time C (e ∷ P) e.moment) → t < length before.lingering → key_of before.lingering t ≡ None → Retires policy t start before after → Settled (pos (virtual_time C (e ∷ P) e.moment)) (key_of after.lingering t) (lingering_key C (e ∷ P) t)
own_settled C P e policy t start before after same idle starts time b none (inl on) =
    let plus : C.policy ≡ TwoDfqPlus = sym same ∙ on.0 in
    let begins = starts plus in
    let now = now_is_time C (e ∷ P) plus in
    let above : virtual_time C (e ∷ P) e.moment < tag C (e ∷ P) t = omega (arith, ints, on.1, begins, time) in
    let key : key_of after.lingering t ≡ Some (key_for (pos (tag C (e ∷ P) t))) = ap (λ (x : Times). key_of x.lingering t) on.2 ∙ (get_or-set_same before.lingering t (Some (key_for start)) None b ∙ ap (λ x. Some (key_for x)) begins) in
    rw (key, with_key C (e ∷ P) t (inactive_lingers C (e ∷ P) t plus idle ∙ lt-ltb _ _ (omega (arith, now, above)))) (inl (omega (arith, ints, above), refl))
own_settled C P e policy t start before after same idle starts time b none (inr out) =
    none_settled _ _ _ (ap (λ (x : Times). key_of x.lingering t) out.1 ∙ none) (no_key C (e ∷ P) t (elim (paced_or_not C.policy) [
      | inl plus ↦ inactive_lingers C (e ∷ P) t plus idle ∙ le-ltb _ _ (come_to plus out.0)
      | inr ne ↦ by_clock_not C (e ∷ P) t ne
    ]))
  where
    come_to : C.policy ≡ TwoDfqPlus → (policy ≢ TwoDfqPlus) ⊎ (start ≤ℤ before.clock.time) → tag C (e ∷ P) t ≤ (pace C (e ∷ P)).now
    come_to plus (inl ne) = absurd (ne (same ∙ plus))
    come_to plus (inr low) = omega (arith, ints, low, starts plus, time, now_is_time C (e ∷ P) plus)

-- ---- the times

-- the clock, but for its weight, and the lists of the other tenants
record HasEnded (m t : ℕ) (old new : Times) : Type 0 where
  workers : new.clock.workers ≡ old.clock.workers
  moment : new.clock.moment ≡ m
  time : new.clock.time ≡ (moved_to old.clock m).time
  cap : new.clock.cap ≡ old.clock.cap
  weights_are : new.weights ≡ old.weights
  idles_are : new.idles ≡ (with_closed m t old).idles
  keys_sized : length new.lingering ≡ length old.lingering
  others : (u : ℕ) → u ≢ t → key_of new.lingering u ≡ key_of old.lingering u

has_retired : (policy : Policy) (m t : ℕ) (start : ℤ) (old new : Times) → Retires policy t start (with_closed m t old) new → HasEnded m t old new
has_retired policy m t start old new (inl on) = rw on.2 (record { workers = refl; moment = refl; time = refl; cap = refl; weights_are = refl; idles_are = refl; keys_sized = length-set old.lingering t _; others = λ u ne. get_or-set_other old.lingering t u (Some (key_for start)) None ne })
has_retired policy m t start old new (inr out) = rw out.1 (record { workers = refl; moment = refl; time = refl; cap = refl; weights_are = refl; idles_are = refl; keys_sized = refl; others = λ u ne. refl })

has_ended : (policy : Policy) (m t : ℕ) (start : ℤ) (old new : Times) → Ended policy m t start old new → HasEnded m t old new
has_ended policy m t start old new made = elim (cases_Bool (is_at_last (idle_of old.idles t))) [
  | inl last ↦ has_retired policy m t start old new (made.retired last)
  | inr more ↦ rw (made.stays_active more) (record { workers = refl; moment = refl; time = refl; cap = refl; weights_are = refl; idles_are = refl; keys_sized = refl; others = λ u ne. refl })
]

keys_ended : (C : Config) (P : History) (e : Entry) (policy : Policy) (m t : ℕ) (start : ℤ) (old new : Times) → policy ≡ C.policy → InLimits C → IsLegal C (e ∷ P) → Ends m t P e → (C.policy ≡ TwoDfqPlus → start ≡ pos (tag C (e ∷ P) t)) → Closes C P (e ∷ P) t → TimesAre C P old → Ended policy m t start old new → (u : ℕ) → u < length C.weights → Settled (pos (virtual_time C (e ∷ P) e.moment)) (key_of new.lingering u) (lingering_key C (e ∷ P) u)
keys_ended C P e policy m t start old new same lim l s starts c is made u b = elim (cases_eq u t) [
  | inl own ↦ rw own (elim (cases_Bool (is_at_last (idle_of old.idles t))) [
    | inl last ↦ own_settled C P e policy t start (with_closed m t old) new same (inactive_of_open (e ∷ P) t (omega (arith, c.less, undone, eqb-true _ 1 last))) starts (next_time C P e (moved_to old.clock m) (end_no_take s.request e.act s.ends) at.clock_is) (omega (arith, is.lingering_are.tenants, c.known)) none (made.retired last)
    | inr more ↦ none_settled _ _ _ (ap (λ (x : Times). key_of x.lingering t) (made.stays_active more) ∙ none) (no_key C (e ∷ P) t (active_not C (e ∷ P) t (active_of_open (e ∷ P) t (still more))))
  ])
  | inr other ↦ rw ((has_ended policy m t start old new made).others u other, is.lingering_are.each u b) (key_left C P e u lim l (others_unconcerned P e m t s u other))
]
  where
    at : TimesAt C P e.moment (come m old)
    at = comes_to C P e m old lim l s.moment_is is

    undone : (idle_of old.idles t).undone ≡ open_requests P t
    undone = (is.idles_are.each t c.known).undone

    none : key_of old.lingering t ≡ None
    none = is.lingering_are.each t c.known ∙ no_key C P t (active_not C P t (active_of_open P t (omega (arith, c.less))))

    still : is_at_last (idle_of old.idles t) ≡ false → 1 ≤ open_requests (e ∷ P) t
    still more = let k : (idle_of old.idles t).undone ≢ 1 = eqb-false _ 1 more in omega (arith, k, undone, c.less)

pub follows_end : (policy : Policy) (m t : ℕ) (start : ℤ) (old mid new : Times) → Ended policy m t start old mid → Settles mid new → FollowsEnd policy m t start old new
follows_end policy m t start old mid new ended made = λ C P e same lim l s starts is.
    let c = ends_close C P e m t lim l s in
    let at = comes_to C P e m old lim l s.moment_is is in
    let has = has_ended policy m t start old mid ended in
    let other : is_take e.act ≡ false = end_no_take s.request e.act s.ends in
    times_settled C (e ∷ P) e.moment mid new (record {
      workers = has.workers ∙ (is.clock_is.workers ∙ sym c.pool_stays);
      moment = has.moment ∙ sym s.moment_is;
      time = has.time ∙ next_time C P e _ other at.clock_is;
      cap = has.cap ∙ next_cap C P e _ other at.clock_is;
      weights_are = rw (has.weights_are) (weights_stay C P e old.weights (own_and_others C P e t c.weight_stays c.others_stay) is.weights_are);
      idles_are = rw (has.idles_are, next_time C P e (moved_to old.clock m) other at.clock_is) (idles_written C P e t old.idles _ c.known (λ u ne. (c.others_stay u ne).open_same) at.idles_are (idle_closed C P e t (idle_of old.idles t) c.less (at.idles_are.each t c.known)));
      keys_sized = has.keys_sized ∙ is.lingering_are.tenants;
      each = keys_ended C P e policy m t start old mid same lim l s starts c is ended;
    }) made
