-- The times of a history at a Weight or a Workers more.
use Rattle.std.proofs.Common.{ℕ, ◌+◌, ◌-◌, ◌<◌, ◌≤◌, ◌≡◌, true, false, arith, refl, sym, ◌∙◌, inl, inr, ◌∷◌, List, length, slice_set, slice_index, length-set, get_or-set_same, get_or-set_other}
use Rattle.std.proofs.lemmas.Bool.{cases_eq, cases_Bool}
use Rattle.vt_fixed.specs.declared.limits.TheConstants.{GREATEST_ACTIVE_WEIGHT, MOST_WORKERS}
use Rattle.fq_model.specs.Limits.{IsWithin, IsWeight}
use Rattle.fq_model.specs.Keys.{tag}
use Rattle.fq_model.specs.declared.config.Config.{Config}
use Rattle.fq_model.specs.declared.event.Entry.{Entry}
use Rattle.fq_model.specs.History.{History}
use Rattle.fq_laws.specs.Words.{is_quiet, is_take}
use Rattle.fq_laws.specs.Steps.{Reweighs, Staffs, Awaits, Follows}
use Rattle.fq_laws.proofs.Charge.Tenants.{virtual_charge_quiet}
use Rattle.fq_laws.proofs.Keys.Tags.{tag_is, base_quiet}
use Rattle.fq_laws.proofs.Keys.Served.{rate_room}
use Rattle.virtual_clock.specs.declared.times.Times.{Times}
use Rattle.virtual_clock.specs.Clock.{moved_to, staffed}
use Rattle.virtual_clock.specs.Lingering.{IsCounted, counts, counted, reweighed, Settles}
use Rattle.virtual_clock.specs.Histories.{WeightsAre, TimesAre}
use Rattle.virtual_clock.proofs.Opening.{Reweighed, reweighs, staffs}
use Rattle.virtual_clock.proofs.Counting.{counted_still, counted_alike, counted_part}
use Rattle.virtual_clock.proofs.ClockSteps.{next_time, next_cap}
use Rattle.virtual_clock.proofs.IdleSteps.{idles_stay}
use Rattle.virtual_clock.proofs.Lingerings.{key_settled}
use Rattle.virtual_clock.proofs.Settling.{lists_at, times_settled, counted_at, counted_is}
use Rattle.virtual_clock.proofs.TimeSteps.{weights_stay, come, comes_to, MayMove, may_move}

-- a quiet act changes no tag
tag_quiet : (C : Config) (P : History) (e : Entry) (t : ℕ) → is_quiet e.act ≡ true → tag C (e ∷ P) t ≡ tag C P t
tag_quiet C P e t quiet = omega (arith, tag_is C P t, tag_is C (e ∷ P) t, virtual_charge_quiet C P e.who e.moment t e.act quiet, base_quiet C P e.who e.moment t e.act quiet)

-- ---- a Weight

-- the preconditions of the calls at a Weight, of the times before it
pub record MayReweigh (m t w : ℕ) (old : Times) : Type 0 where
  pub moves : MayMove m old
  pub kept : t < length old.idles
  pub keyed : t < length old.lingering
  pub weighed : t < length old.weights
  pub in_range : IsWeight w
  pub entered : counts old t ≡ true → slice_index old.weights t ≤ old.clock.weights
  pub room : counts old t ≡ true → old.clock.weights - slice_index old.weights t + w ≤ GREATEST_ACTIVE_WEIGHT
  pub is_counted : IsCounted (reweighed m t w old)

counted_if : (x : Times) (t : ℕ) → counts x t ≡ true → counted x t ≡ slice_index x.weights t
counted_if x t h = rw h refl

counted_reweighed : (m t w : ℕ) (x : Times) → t < length x.weights → IsCounted (come m x) → IsCounted (reweighed m t w x)
counted_reweighed m t w x b is = counted_still (come m x) (reweighed m t w x) t is (record {
  known = b;
  weights_sized = length-set x.weights t w;
  idles_sized = refl;
  keys_sized = refl;
  others = λ u ne. record { asleep_same = refl; key_same = refl; weight_same = get_or-set_other x.weights t u w 0 ne };
  apart = is.apart t;
  weight_is = elim (cases_Bool (counts x t)) [
    | inl on ↦ rw (on, get_or-set_same x.weights t w 0 b) (omega (arith, counted_if (come m x) t on, counted_part (come m x) t is b))
    | inr out ↦ rw out refl
  ];
})

pub may_reweigh : (m t w : ℕ) (old : Times) → Awaits TimesAre (Reweighs m t w) old → MayReweigh m t w old
may_reweigh m t w old a =
    let C = a.config in
    let r = reweighs C a.history a.entry m t w a.legal a.comes in
    let at = comes_to C a.history a.entry m old a.limits a.legal a.comes.moment_is a.kept_is in
    let is = counted_at C a.history a.entry.moment (come m old) at in
    let b : t < length old.weights = omega (arith, a.kept_is.weights_are.tenants, r.known) in
    let part = counted_is C a.history a.entry.moment t (come m old) (lists_at C a.history a.entry.moment (come m old) at) r.known in
    record {
      moves = may_move C a.history a.entry m old a.legal a.comes.moment_is a.kept_is;
      kept = omega (arith, a.kept_is.idles_are.tenants, r.known);
      keyed = omega (arith, a.kept_is.lingering_are.tenants, r.known);
      weighed = b;
      in_range = r.in_range;
      entered = λ on. omega (arith, counted_if (come m old) t on, counted_part (come m old) t is b);
      room = λ on. omega (arith, counted_if (come m old) t on, counted_part (come m old) t is b, part, a.kept_is.clock_is.weights, rate_room C a.history t w a.limits a.legal.0 r.known r.in_range.1);
      is_counted = counted_reweighed m t w old b is;
    }

weights_set : (C : Config) (P : History) (e : Entry) (t w : ℕ) (weights : List ℕ) → Reweighed C P (e ∷ P) t w → WeightsAre C P weights → WeightsAre C (e ∷ P) (slice_set weights t w)
weights_set C P e t w weights r is = record {
  tenants = length-set weights t w ∙ is.tenants;
  each = λ u b. elim (cases_eq u t) [
    | inl own ↦ rw (own, get_or-set_same weights t w 0 (omega (arith, is.tenants, r.known))) (sym r.weight_is)
    | inr other ↦ rw (get_or-set_other weights t u w 0 other) (is.each u b ∙ sym (r.others_stay u other))
  ];
}

-- the clock after it, but for its weight
record ClockReweighed (m t w : ℕ) (old : Times) : Type 0 where
  workers : (reweighed m t w old).clock.workers ≡ old.clock.workers
  moment : (reweighed m t w old).clock.moment ≡ m
  time : (reweighed m t w old).clock.time ≡ (moved_to old.clock m).time
  cap : (reweighed m t w old).clock.cap ≡ old.clock.cap

clock_reweighed : (m t w : ℕ) (old : Times) → ClockReweighed m t w old
clock_reweighed m t w old = elim (cases_Bool (counts old t)) [
  | inl on ↦ record { workers = rw on refl; moment = rw on refl; time = rw on refl; cap = rw on refl }
  | inr out ↦ record { workers = rw out refl; moment = rw out refl; time = rw out refl; cap = rw out refl }
]

pub follows_weight : (m t w : ℕ) (old new : Times) → Settles (reweighed m t w old) new → Follows TimesAre (Reweighs m t w) old new
follows_weight m t w old new made = λ C P e lim l s is.
    let r = reweighs C P e m t w l s in
    let at = comes_to C P e m old lim l s.moment_is is in
    let clock = clock_reweighed m t w old in
    let other : is_take e.act ≡ false = rw s.act_is refl in
    times_settled C (e ∷ P) e.moment (reweighed m t w old) new (record {
      workers = clock.workers ∙ (is.clock_is.workers ∙ sym r.pool_stays);
      moment = clock.moment ∙ sym s.moment_is;
      time = clock.time ∙ next_time C P e _ other at.clock_is;
      cap = clock.cap ∙ next_cap C P e _ other at.clock_is;
      weights_are = weights_set C P e t w old.weights r is.weights_are;
      idles_are = idles_stay C P e old.idles r.open_stay at.idles_are;
      keys_sized = is.lingering_are.tenants;
      each = λ u b. rw (is.lingering_are.each u b) (key_settled C P e u (r.open_stay u) (λ idle. tag_quiet C P e u (rw s.act_is refl)));
    }) made

-- ---- a Workers

-- the times after a Workers, by the code, but for what is to be settled
abbrev pub restaffed : ℕ → ℕ → Times → Times
restaffed m n x = record { clock = staffed (moved_to x.clock m) n; weights = x.weights; idles = x.idles; lingering = x.lingering }

pub record MayStaff (m n : ℕ) (old : Times) : Type 0 where
  pub moves : MayMove m old
  pub in_range : IsWithin 1 MOST_WORKERS n
  pub is_counted : IsCounted (restaffed m n old)

pub may_staff : (m n : ℕ) (old : Times) → Awaits TimesAre (Staffs m n) old → MayStaff m n old
may_staff m n old a =
    let s = staffs a.config a.history a.entry m n a.legal a.comes in
    let at = comes_to a.config a.history a.entry m old a.limits a.legal a.comes.moment_is a.kept_is in
    record {
      moves = may_move a.config a.history a.entry m old a.legal a.comes.moment_is a.kept_is;
      in_range = (s.in_range.0, omega (arith, s.in_range.1, a.limits.workers.1));
      is_counted = counted_alike (come m old) (restaffed m n old) (counted_at a.config a.history a.entry.moment (come m old) at) refl refl refl refl;
    }

pub follows_workers : (m n : ℕ) (old new : Times) → Settles (restaffed m n old) new → Follows TimesAre (Staffs m n) old new
follows_workers m n old new made = λ C P e lim l s is.
    let k = staffs C P e m n l s in
    let at = comes_to C P e m old lim l s.moment_is is in
    let other : is_take e.act ≡ false = rw s.act_is refl in
    times_settled C (e ∷ P) e.moment (restaffed m n old) new (record {
      workers = sym k.pool_is;
      moment = sym s.moment_is;
      time = next_time C P e _ other at.clock_is;
      cap = next_cap C P e _ other at.clock_is;
      weights_are = weights_stay C P e old.weights (λ t b. (k.all_stay t).weight_same) is.weights_are;
      idles_are = idles_stay C P e old.idles (λ t. (k.all_stay t).open_same) at.idles_are;
      keys_sized = is.lingering_are.tenants;
      each = λ u b. rw (is.lingering_are.each u b) (key_settled C P e u (k.all_stay u).open_same (λ idle. tag_quiet C P e u (rw s.act_is refl)));
    }) made
