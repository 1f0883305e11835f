-- The times of a history at a Take more, and what may be asked of them.
use Rattle.std.proofs.Common.{ℕ, ◌<◌, ◌≤◌, ◌≡◌, ◌≢◌, true, arith, refl, sym, ◌∙◌, inl, inr, ◌∷◌, length, ℤ, pos, unsigned_abs, ◌+ℤ◌, ◌-ℤ◌, ◌≤ℤ◌, ap, subst, ◌^◌}
use Rattle.std.proofs.lemmas.Int.{ints, clamps}
use Rattle.std.specs.Int.{int_max}
use Rattle.vt_fixed.specs.Rounding.{length_of, part_of}
use Rattle.fq_model.specs.Limits.{InLimits}
use Rattle.fq_model.specs.Rules.{IsLegal, Fits, FitsTake}
use Rattle.fq_model.specs.declared.config.Config.{Config}
use Rattle.fq_model.specs.declared.config.Policy.{Policy}
use Rattle.fq_model.specs.declared.config.Policy.TheVariants.{TwoDfqPlus}
use Rattle.fq_model.specs.declared.event.Act.{Act}
use Rattle.fq_model.specs.declared.event.Act.TheVariants.{Take}
use Rattle.fq_model.specs.declared.event.Entry.{Entry}
use Rattle.fq_model.specs.Charge.{request_estimate}
use Rattle.fq_model.specs.Keys.{HeadKeys, start, finish, stagger, eligible_key, turn_at, IsChoiceAt}
use Rattle.fq_model.specs.History.{History, weight_at, pool_at}
use Rattle.fq_laws.specs.Words.{one_more, greatest_length}
use Rattle.fq_laws.specs.AccountLaws.{Lifts}
use Rattle.fq_laws.proofs.Charge.Estimates.{estimate_range}
use Rattle.fq_laws.proofs.Charge.Limits.{length_low}
use Rattle.fq_laws.proofs.Rules.Takes.{choice_head}
use Rattle.fq_laws.proofs.Keys.Choices.{KeysOf, keys_of, keys_tenant_known}
use Rattle.fq_laws.proofs.Keys.Pace.{paced_or_not, virtual_time_take, cap_within}
use Rattle.fq_laws.proofs.Keys.Lifts.{takes_lift}
use Rattle.virtual_clock.specs.declared.times.Times.{Times}
use Rattle.virtual_clock.specs.Clock.{ClockView, cap_for, lifted}
use Rattle.virtual_clock.specs.Idles.{idle_of}
use Rattle.virtual_clock.specs.Lingering.{IsCounted, Settles}
use Rattle.virtual_clock.specs.Histories.{TimesAt, TimesAre, TakesChoice, AwaitsTake, FollowsTake}
use Rattle.virtual_clock.proofs.Opening.{Passed, passes, passes_leave}
use Rattle.virtual_clock.proofs.Counting.{counted_alike}
use Rattle.virtual_clock.proofs.IdleSteps.{idles_stay}
use Rattle.virtual_clock.proofs.Lingerings.{by_clock_not, no_key}
use Rattle.virtual_clock.proofs.Settling.{ListsAre, lists_at, counted_at, counted_weight_is, times_settled}
use Rattle.virtual_clock.proofs.TimeSteps.{weights_stay, passed}

-- ---- the preconditions of `idle`

-- the preconditions of `Times::idle` hold for each tenant
pub record MayAsk (times : Times) (t : ℕ) : Type 0 where
  pub tenant : t < length times.idles
  pub weighed : t < length times.weights
  pub earlier : (idle_of times.idles t).since ≤ℤ times.clock.time

pub may_ask : (C : Config) (P : History) (t : ℕ) (times : Times) → TimesAre C P times → t < length C.weights → MayAsk times t
may_ask C P t times is known = record {
  tenant = omega (arith, is.idles_are.tenants, known);
  weighed = omega (arith, is.weights_are.tenants, known);
  earlier = omega (arith, ints, (is.idles_are.each t known).earlier, is.clock_is.time);
}

-- ---- a Take under 2dfq+

-- the preconditions of the calls at a Take, of the times before it
pub record MayLift (worker : ℕ) (start len : ℤ) (old : Times) : Type 0 where
  pub worker_known : worker < old.clock.workers
  pub start_low : pos 0 ≤ℤ start
  pub len_low : pos 0 ≤ℤ len
  pub len_high : len ≤ℤ pos greatest_length
  pub finish_high : (start +ℤ len) ≤ℤ pos (10 ^ 25)
  pub is_counted : IsCounted old

-- the numbers of the head that is taken
pub record ChoiceIs (C : Config) (P : History) (m worker t : ℕ) (k : HeadKeys) : Type 0 where
  pub begins : ℕ
  pub lasts : ℕ
  pub start_is : k.start ≡ pos begins
  pub len_is : k.len ≡ pos lasts
  pub lasts_low : lasts ≤ greatest_length

choice_is : (C : Config) (P : History) (m worker t : ℕ) (k : HeadKeys) → InLimits C → IsLegal C P → IsChoiceAt C P m worker t k → ChoiceIs C P m worker t k
choice_is C P m worker t k lim l choice =
    let known : KeysOf C P m t k = keys_of C P m t k (choice_head C P m worker t k choice) in
    let cost = estimate_range C P k.request known.what lim l known.was_asked in
    record {
      begins = start C P m t;
      lasts = length_of (request_estimate C P known.what) (weight_at C P t);
      start_is = ap (λ (h : HeadKeys). h.start) known.is;
      len_is = ap (λ (h : HeadKeys). h.len) known.is;
      lasts_low = length_low C P t (request_estimate C P known.what) lim l (keys_tenant_known C P m t k l (choice_head C P m worker t k choice)) cost.1;
    }

-- a legal history, with the act of its last entry written out
taken_legal : (C : Config) (P : History) (e : Entry) (worker : ℕ) (start len : ℤ) (t : TakesChoice worker start len C P e) → IsLegal C (e ∷ P) → IsLegal C (one_more e.who e.moment (Take worker t.request t.estimate) P)
taken_legal C P e worker start len t l = (l.0, l.1, l.2, subst (Fits C P e.moment) t.act_is l.3)

taken_lifts : (C : Config) (P : History) (e : Entry) (worker : ℕ) (start len : ℤ) (t : TakesChoice worker start len C P e) → C.policy ≡ TwoDfqPlus → IsLegal C (e ∷ P) → Lifts C P (e ∷ P) e.moment worker t.keys
taken_lifts C P e worker start len t paced l =
    subst (λ (a : Act). Lifts C P (one_more e.who e.moment a P) e.moment worker t.keys) (sym t.act_is)
    (takes_lift C P e.who e.moment worker t.request t.estimate t.tenant t.keys paced (taken_legal C P e worker start len t l) t.choice)

pub may_lift : (worker : ℕ) (start len : ℤ) (old : Times) → AwaitsTake worker start len old → MayLift worker start len old
may_lift worker start len old w =
    let C = w.config in
    let P = w.history in
    let x : ChoiceIs C P w.entry.moment worker w.takes.tenant w.takes.keys = choice_is C P w.entry.moment worker w.takes.tenant w.takes.keys w.limits w.legal.0 w.takes.choice in
    let f : FitsTake C P w.entry.moment worker w.takes.request w.takes.estimate = subst (Fits C P w.entry.moment) w.takes.act_is w.legal.3 in
    let lifts = taken_lifts C P w.entry worker start len w.takes w.paced w.legal in
    let within = cap_within C (w.entry ∷ P) w.limits w.legal in
    record {
      worker_known = omega (arith, f.worker_known, w.times_at.clock_is.workers);
      start_low = omega (arith, ints, w.takes.start_is, x.start_is);
      len_low = omega (arith, ints, w.takes.len_is, x.len_is);
      len_high = omega (arith, ints, w.takes.len_is, x.len_is, x.lasts_low);
      finish_high = omega (arith, ints, clamps, w.takes.start_is, w.takes.len_is, lifts.cap_is, within);
      is_counted = counted_at C P w.entry.moment old w.times_at;
    }

-- the times after the Take, by the code, but for what is to be settled
abbrev pub taken : ℕ → ℤ → ℤ → Times → Times
taken worker start len x = record {
  clock = lifted x.clock (start -ℤ pos (part_of (unsigned_abs len) worker x.clock.workers)) (start +ℤ len);
  weights = x.weights;
  idles = x.idles;
  lingering = x.lingering;
}

pub lifted_alike : (c : ClockView) (key finish k f : ℤ) → key ≡ k → finish ≡ f → lifted c key finish ≡ lifted c k f
lifted_alike c key finish k f a b = rw (a, b) refl

-- lifting changes nothing that counts
pub counted_lifted : (key finish : ℤ) (x : Times) → IsCounted x → IsCounted (record { clock = lifted x.clock key finish; weights = x.weights; idles = x.idles; lingering = x.lingering })
counted_lifted key finish x is = counted_alike x _ is refl refl refl refl

staggered : (p : Policy) (len : ℤ) (i n : ℕ) → p ≡ TwoDfqPlus → stagger p len i n ≡ pos (part_of (unsigned_abs len) i n)
staggered p len i n is = rw is refl

capped_at : (p : Policy) (a b : ℕ) (cap finish : ℤ) → p ≡ TwoDfqPlus → cap ≡ cap_for p a → pos b ≡ int_max (pos a) finish → int_max cap finish ≡ cap_for p b
capped_at p a b cap finish is capped reached = rw (capped, is, reached) refl

pub follows_take : (worker : ℕ) (start len : ℤ) (old new : Times) → Settles (taken worker start len old) new → FollowsTake worker start len old new
follows_take worker start len old new made = λ C P e paced lim l t is.
    let lifts = taken_lifts C P e worker start len t paced l in
    let key : start -ℤ pos (part_of (unsigned_abs len) worker old.clock.workers) ≡ eligible_key (turn_at C P e.moment worker) t.keys = rw (t.start_is, t.len_is, is.clock_is.workers) (ap (λ x. t.keys.start -ℤ x) (sym (staggered C.policy t.keys.len worker (pool_at C P) paced))) in
    let finishes : start +ℤ len ≡ finish t.keys = rw (t.start_is, t.len_is) refl in
    times_settled C (e ∷ P) e.moment (taken worker start len old) new
    (passed C P e (taken worker start len old) lim l (rw t.act_is refl)
    (rw (is.clock_is.time, key) (sym lifts.time_is))
    (rw finishes (capped_at C.policy _ _ _ _ paced is.clock_is.cap lifts.cap_is))
    is.clock_is.workers is.clock_is.moment
    (record { weights_are = is.weights_are; idles_are = is.idles_are; lingering_are = is.lingering_are })) made

-- ---- a Take under the other policies

uncapped : (p : Policy) (a b : ℕ) → p ≢ TwoDfqPlus → cap_for p a ≡ cap_for p b
uncapped TwoDfqPlus a b not = absurd (not refl)
uncapped _ a b not = refl

-- leaves the times
times_taken : (C : Config) (P : History) (e : Entry) (now : Times) → C.policy ≢ TwoDfqPlus → passes e.act ≡ true → TimesAt C P e.moment now → TimesAre C (e ∷ P) now
times_taken C P e now ne p is = record {
  clock_is = record {
    workers = is.clock_is.workers ∙ sym s.pool_stays;
    moment = is.clock_is.moment;
    weights = is.clock_is.weights ∙ (sym (counted_weight_is C P e.moment now (lists_at C P e.moment now is)) ∙ counted_weight_is C (e ∷ P) e.moment now lists);
    time = is.clock_is.time ∙ ap pos (sym (virtual_time_take C P e ne));
    cap = is.clock_is.cap ∙ uncapped C.policy _ _ ne;
  };
  weights_are = lists.weights_are;
  idles_are = lists.idles_are;
  lingering_are = lists.lingering_are;
}
  where
    s : Passed C P (e ∷ P)
    s = passes_leave C P e p

    lists : ListsAre C (e ∷ P) e.moment now
    lists = record {
      weights_are = weights_stay C P e now.weights (λ t b. (s.all_stay t).weight_same) is.weights_are;
      idles_are = idles_stay C P e now.idles (λ t. (s.all_stay t).open_same) is.idles_are;
      lingering_are = record {
        tenants = is.lingering_are.tenants;
        each = λ t b. is.lingering_are.each t b ∙ (no_key C P t (by_clock_not C P t ne) ∙ sym (no_key C (e ∷ P) t (by_clock_not C (e ∷ P) t ne)));
      };
    }

-- ---- a Take under every policy

-- makes of the times those of the history with it
pub times_take : (C : Config) (P : History) (e : Entry) (policy : Policy) (worker : ℕ) (start len : ℤ) (old new : Times) → policy ≡ C.policy → InLimits C → IsLegal C (e ∷ P) → passes e.act ≡ true → (C.policy ≡ TwoDfqPlus → TakesChoice worker start len C P e) → (policy ≡ TwoDfqPlus → FollowsTake worker start len old new) → (policy ≢ TwoDfqPlus → new ≡ old) → TimesAt C P e.moment old → TimesAre C (e ∷ P) new
times_take C P e policy worker start len old new same lim l p choice paced by_clock is = elim (paced_or_not C.policy) [
  | inl plus ↦ paced (same ∙ plus) C P e plus lim l (choice plus) is
  | inr ne ↦ rw (by_clock (λ plus. ne (sym same ∙ plus))) (times_taken C P e old ne p is)
]
