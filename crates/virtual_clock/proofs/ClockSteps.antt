-- The clock of a history at a later moment, and at one entry more.
use Rattle.std.proofs.Common.{ℕ, ◌+◌, ◌^◌, ◌≤◌, ◌≡◌, false, arith, refl, inl, inr, ap, sym, ◌∙◌, ◌∷◌, [], pos}
use Rattle.std.specs.Int.{int_min}
use Rattle.std.proofs.lemmas.Int.{ints, clamps}
use Rattle.vt_fixed.specs.declared.limits.TheConstants.{GREATEST_MOMENT}
use Rattle.fq_model.specs.declared.config.Config.{Config}
use Rattle.fq_model.specs.declared.config.Policy.{Policy}
use Rattle.fq_model.specs.declared.config.Policy.TheVariants.{TwoDfqPlus}
use Rattle.fq_model.specs.declared.event.Entry.{Entry}
use Rattle.fq_model.specs.Limits.{InLimits}
use Rattle.fq_model.specs.History.{History, pool_at}
use Rattle.fq_model.specs.Time.{last_moment}
use Rattle.fq_model.specs.Pace.{pace, virtual_time}
use Rattle.fq_model.specs.Rules.{IsLegal}
use Rattle.fq_laws.specs.Words.{capped, rate_weight, is_take}
use Rattle.fq_laws.proofs.Keys.Served.{rate_weight_nil}
use Rattle.fq_laws.proofs.Keys.Pace.{paced_or_not, rate_advance, capped_min, capped_not, virtual_time_nil, virtual_time_split, virtual_time_step, virtual_time_capped, virtual_time_within, reached_stays}
use Rattle.virtual_clock.specs.Clock.{ClockView, at_start, cap_for, moved_to}
use Rattle.virtual_clock.specs.Histories.{ClockAt, ClockIs}

nothing_reached : (C : Config) → (pace C []).reached ≡ 0
unfolding pace
nothing_reached C = refl

-- a new clock is that of the empty history
pub clock_nil : (C : Config) → ClockIs C [] (at_start C.policy C.workers)
unfolding pool_at
clock_nil C = record {
  workers = refl;
  moment = refl;
  weights = sym (rate_weight_nil C);
  time = ap pos (sym (virtual_time_nil C 0));
  cap = ap (cap_for C.policy) (sym (nothing_reached C));
}

-- virtual time is no less than at the last entry
pub time_since_last : (C : Config) (P : History) (m : ℕ) → virtual_time C P (last_moment P) ≤ virtual_time C P m
time_since_last C P m = elim (paced_or_not C.policy) [
  | inl is ↦ omega (arith, virtual_time_split C P m, capped_min C.policy (pace C P).reached (virtual_time C P (last_moment P) + rate_advance C P m) is, virtual_time_capped C P (last_moment P) is)
  | inr ne ↦ omega (arith, virtual_time_split C P m, capped_not C.policy (pace C P).reached (virtual_time C P (last_moment P) + rate_advance C P m) ne)
]

capped_here : (p : Policy) (reached v : ℕ) → capped p reached v ≤ 10 ^ 25 → int_min (pos v) (cap_for p reached) ≡ pos (capped p reached v)
capped_here TwoDfqPlus reached v h = omega (arith, ints, clamps)
capped_here _ reached v h = omega (arith, ints, clamps)

-- a clock that is moved to a moment is that of the moment
pub clock_moved : (C : Config) (P : History) (m : ℕ) (c : ClockView) → InLimits C → IsLegal C P → last_moment P ≤ m → m ≤ GREATEST_MOMENT → ClockIs C P c → ClockAt C P m (moved_to c m)
clock_moved C P m c lim l later small is = record {
  workers = is.workers;
  moment = refl;
  weights = is.weights;
  time = (
      let split : virtual_time C P m ≡ capped C.policy (pace C P).reached (virtual_time C P (last_moment P) + rate_advance C P m) = virtual_time_split C P m in
      let low : capped C.policy (pace C P).reached (virtual_time C P (last_moment P) + rate_advance C P m) ≤ 10 ^ 25 = omega (arith, split, virtual_time_within C P m lim l later small) in
      rw (is.time, is.moment, is.workers, is.weights, is.cap)
      (capped_here C.policy (pace C P).reached (virtual_time C P (last_moment P) + rate_advance C P m) low ∙ ap pos (sym split))
      );
  cap = is.cap;
}

-- an entry that is no Take leaves its time
pub next_time : (C : Config) (P : History) (e : Entry) (c : ClockView) → is_take e.act ≡ false → ClockAt C P e.moment c → c.time ≡ pos (virtual_time C (e ∷ P) e.moment)
next_time C P e c other is = is.time ∙ ap pos (sym (virtual_time_step C P e other))

pub next_cap : (C : Config) (P : History) (e : Entry) (c : ClockView) → is_take e.act ≡ false → ClockAt C P e.moment c → c.cap ≡ cap_for C.policy (pace C (e ∷ P)).reached
next_cap C P e c other is = is.cap ∙ ap (cap_for C.policy) (sym (reached_stays C P e other))

-- so it is the clock of the history with an entry that is no Take, once its workers are those after the entry, and its
-- weight is that over which virtual time goes on then
pub clock_next : (C : Config) (P : History) (e : Entry) (c : ClockView) (workers weights : ℕ) → is_take e.act ≡ false → workers ≡ pool_at C (e ∷ P) → weights ≡ rate_weight C (e ∷ P) → ClockAt C P e.moment c → ClockIs C (e ∷ P) (record { workers = workers; moment = e.moment; weights = weights; time = c.time; cap = c.cap })
clock_next C P e c workers weights other staffed after is = record {
  workers = staffed;
  moment = refl;
  weights = after;
  time = next_time C P e c other is;
  cap = next_cap C P e c other is;
}
