-- The foreseen take of a worker.
use Rattle.std.proofs.Common.{ℕ, ◌<◌, ◌≡◌, ◌≢◌, ◌↔◌, Bool, true, false, nat_le, arith, refl, sym, ◌∙◌, ap, subst, length, List, Option, Some, None, ℤ, pos, unsigned_abs, ◌≤ℤ◌}
use Rattle.std.specs.Prelude.{IsTrue, IsSome, option_copied, ◌==◌, if◌then◌else◌, MatchBool, All, slice_index_or}
use Rattle.std.specs.Borrow.{Bor}
use Rattle.std.specs.Int.{w128}
use mir.Val.{to_z, of_z}
use Rattle.std.proofs.lemmas.Int.{ints}
use Rattle.fq_model.specs.declared.limits.TheConstants.{GREATEST_VIRTUAL_TIME}
use Rattle.std.proofs.lemmas.Bool.{ne_eqb}
use Rattle.std.proofs.lemmas.Bool.Decides.{nat_tests}
use Rattle.vt_fixed.specs.Rounding.{length_of, cost_of}
use Rattle.vt_fixed.proofs.Bounds.{cost_back}
use Rattle.fq_model.specs.declared.config.Config.{Config}
use Rattle.fq_model.specs.declared.event.Cause.{Cause}
use Rattle.fq_model.specs.declared.event.Cause.TheVariants as cause
use Rattle.fq_model.specs.declared.event.Foreseen.TheVariants as foreseen
use Rattle.fq_model.specs.declared.event.ForeseenRun.{ForeseenRun}
use Rattle.fq_model.specs.declared.event.Reply.TheVariants as answer
use Rattle.fq_model.specs.Foresee.{IsBelow, HasSmaller, IsForeseenRun, IsForeseenOfWaiting, IsForeseenPooled, IsForeseenFree, ForeseenUnless, IsForeseen}
use Rattle.fq_model.specs.Limits.{IsWeight}
use Rattle.fq_model.specs.Charge.{request_estimate}
use Rattle.fq_model.specs.History.{History, Request, waiting, is_closed, pool_at}
use Rattle.fq_model.specs.Keys.{HeadKeys, head_keys, HasKeys, turn_at, IsEligible, Turn}
use Rattle.fq_model.specs.Rules.{IsLegal, IsAnswered, RunsChosen, AnswersPooled, AnswersFree, RefusedOrElse, take_refusal}
use Rattle.fq_model.specs.Time.{effective_moment}
use Rattle.fq_model.specs.Pace.{virtual_time}
use Rattle.fq_laws.proofs.Keys.Choices.{keys_tenant_known}
use Rattle.fq_laws.proofs.Rules.Takes.{keys_head}
use Rattle.tag_rules.specs.Tables.{ChooserView, turn_of}
use Rattle.tag_rules.specs.Foreseen.{IsShort, SomeIsShort, IsForeseenOver}
use Rattle.tag_rules.specs.declared.foresees.ForeseenChoice.{ForeseenChoice}
use Rattle.virtual_clock.specs.Histories.{WeightsAre}
use Rattle.sched_state.specs.Keys.{ChooserIs}
use Rattle.sched_state.specs.Refusals.{HasNoJob, GetsNone, GetsWork}
use Rattle.sched_state.specs.Replies.{take_reply, foreseen_by}
use Rattle.sched_state.specs.declared.replies.Taken.{Taken}
use Rattle.sched_state.specs.declared.replies.Taken.TheVariants as taken
use Rattle.sched_state.proofs.KeyLemmas.{has_keys, keys_have, same_turn, nothing_waits}

-- ---- in place of work

module _ {J : Type 0} (label : J → ℕ) (C : Config) (P : History) (m i below : ℕ) where
  rested : (closed : Bool) (told : Taken J) → take_reply label told ≡ (if closed then answer.Drained else answer.Idle) → foreseen_by told ≡ foreseen.Nothing
  rested true told e = go told e
    where
      go : (told : Taken J) → take_reply label told ≡ answer.Drained → foreseen_by told ≡ foreseen.Nothing
      go taken.Drained e = refl
      go (taken.UnknownWorker worker) e = absurd (cc)
      go (taken.Busy request) e = absurd (cc)
      go (taken.Retired workers) e = absurd (cc)
      go (taken.Run request estimate job) e = absurd (cc)
      go taken.Idle e = absurd (cc)
  rested false told e = go told e
    where
      go : (told : Taken J) → take_reply label told ≡ answer.Idle → foreseen_by told ≡ foreseen.Nothing
      go taken.Idle e = refl
      go (taken.UnknownWorker worker) e = absurd (cc)
      go (taken.Busy request) e = absurd (cc)
      go (taken.Retired workers) e = absurd (cc)
      go (taken.Run request estimate job) e = absurd (cc)
      go taken.Drained e = absurd (cc)

  runs : (told : Taken J) (request estimate number : ℕ) → HasNoJob told → take_reply label told ≢ answer.Run request estimate number
  runs (taken.Run request estimate job) r x n none = absurd none
  runs (taken.UnknownWorker worker) r x n none = λ e. cc
  runs (taken.Busy request) r x n none = λ e. cc
  runs (taken.Retired workers) r x n none = λ e. cc
  runs taken.Drained r x n none = λ e. cc
  runs taken.Idle r x n none = λ e. cc

  retired : (told : Taken J) (n : ℕ) → take_reply label told ≡ answer.Retired n → foreseen_by told ≡ foreseen.Retired n
  retired (taken.Retired workers) n e = let same : workers ≡ n = cc in ap (λ x. foreseen.Retired x) same
  retired (taken.UnknownWorker worker) n e = absurd (cc)
  retired (taken.Busy request) n e = absurd (cc)
  retired (taken.Run request estimate job) n e = absurd (cc)
  retired taken.Drained n e = absurd (cc)
  retired taken.Idle n e = absurd (cc)

  refused : (told : Taken J) (c : Cause) → take_reply label told ≡ answer.Refused c → foreseen_by told ≡ foreseen.Refused c
  refused (taken.UnknownWorker worker) c e = let same : cause.Worker worker ≡ c = cc in ap (λ x. foreseen.Refused x) same
  refused (taken.Busy request) c e = let same : cause.Busy request ≡ c = cc in ap (λ x. foreseen.Refused x) same
  refused (taken.Retired workers) c e = absurd (cc)
  refused (taken.Run request estimate job) c e = absurd (cc)
  refused taken.Drained c e = absurd (cc)
  refused taken.Idle c e = absurd (cc)

  pooled : (nothing : Bool) (who : ℕ) (told : Taken J) → HasNoJob told → MatchBool nothing (IsAnswered P (if is_closed P then answer.Drained else answer.Idle) (take_reply label told) P) (RunsChosen C P who m i (take_reply label told) P) → MatchBool nothing (foreseen_by told ≡ foreseen.Nothing) (IsForeseenOfWaiting C P (effective_moment P m) i below (foreseen_by told))
  pooled true who told none a = rested (is_closed P) told a.0
  pooled false who told none a = absurd (runs told a.request a.estimate a.asked.label none a.accepted.0)

  free : (over : Bool) (who : ℕ) (told : Taken J) → HasNoJob told → MatchBool over (IsAnswered P (answer.Retired (pool_at C P)) (take_reply label told) P) (AnswersPooled C P who m i (take_reply label told) P) → MatchBool over (foreseen_by told ≡ foreseen.Retired (pool_at C P)) (IsForeseenPooled C P (effective_moment P m) i below (foreseen_by told))
  free true who told none a = retired told (pool_at C P) a.0
  free false who told none a = pooled (waiting P == 0) who told none a

  unless : (o : Option Cause) (who : ℕ) (told : Taken J) → HasNoJob told → RefusedOrElse o P (take_reply label told) P (AnswersFree C P who m i (take_reply label told) P) → ForeseenUnless o (foreseen_by told) (IsForeseenFree C P (effective_moment P m) i below (foreseen_by told))
  unless None who told none a = free (nat_le (pool_at C P) i) who told none a
  unless (Some c) who told none a = refused told c a.0

  -- a take that would have this result, without work, is foreseen so
  pub foreseen_told : (told : Taken J) → GetsNone label C P i told → IsForeseen C P m i below (foreseen_by told)
  foreseen_told told gets = unless (take_refusal C P i) 0 told gets.no_job (gets.answers 0 m)

-- ---- where there is work

not_over : (n i : ℕ) → i < n → nat_le n i ≡ false
not_over n i lt = grind (arith, nat_tests)

-- a take that would get work is foreseen as `IsForeseenRun` says
pub foreseen_work : (C : Config) (P : History) (m i below : ℕ) (run : ForeseenRun) → GetsWork C P i → IsForeseenRun C P (effective_moment P m) i below run → IsForeseen C P m i below (foreseen.Run run)
foreseen_work C P m i below run gets x = rw (gets.free, not_over (pool_at C P) i gets.pooled, ne_eqb (waiting P) 0 gets.some_waits) x

-- ---- by the chooser's keys

module _ (C : Config) (P : History) (m i : ℕ) (x : ChooserView) (v : ℤ) (l : IsLegal C P) (is : ChooserIs C P x) (at : v ≡ pos (virtual_time C P m)) where
  -- something is chosen
  pub some_foreseen : (weights : List ℕ) (below : ℕ) (o : Option ForeseenChoice) → waiting P ≢ 0 → IsForeseenOver (turn_of x.setting i v) x.table weights below o → IsSome o
  some_foreseen weights below (Some f) some found = refl
  some_foreseen weights below None some found = absurd (some (nothing_waits C P m x l is found))

  -- the same heads are eligible
  pub same_eligible : (b : Bool) (k known : HeadKeys) → known ≡ k → (IsTrue b ↔ IsEligible (turn_of x.setting i v) k) → IsTrue b ↔ IsEligible (turn_at C P m i) known
  same_eligible b k known e h =
      subst (λ (turn : Turn). IsTrue b ↔ IsEligible turn known) (same_turn C P m x l is i v at) (subst (λ (keys : HeadKeys). IsTrue b ↔ IsEligible (turn_of x.setting i v) keys) (sym e) h)

  module _ (weights : List ℕ) (below : ℕ) (are : WeightsAre C P weights) (weigh : All IsWeight weights) where
    -- a length by the weight of its tenant tells the estimate
    told : (u : ℕ) (k : HeadKeys) (q : Request) → u < length C.weights → k ≡ head_keys C P m u k.request q → cost_of (unsigned_abs k.len) (slice_index_or weights u 0) ≡ request_estimate C P q
    told u k q known e =
        let w = weigh u 0 (omega (arith, known, are.tenants)) in
        ap (λ (h : HeadKeys). cost_of (unsigned_abs h.len) (slice_index_or weights u 0)) e
        ∙ (ap (λ n. cost_of (length_of (request_estimate C P q) n) (slice_index_or weights u 0)) (sym (are.each u known))
        ∙ cost_back (request_estimate C P q) (slice_index_or weights u 0) w.0 (omega (arith, w.1)))

    short_below : (u : ℕ) (k : HeadKeys) → HasKeys C P m u k → IsShort weights below u k → IsBelow C P below k
    short_below u k has short =
        let h = keys_head C P m u k has in
        record { asked = h.0; asked_is = h.2; less = subst (λ n. n < below) (told u k h.0 (keys_tenant_known C P m u k l has) h.3) short }

    below_short : (u : ℕ) (k : HeadKeys) → HasKeys C P m u k → IsBelow C P below k → IsShort weights below u k
    below_short u k has b =
        let h = keys_head C P m u k has in
        let both : Some h.0 ≡ Some b.asked = sym h.2 ∙ b.asked_is in
        let same : h.0 ≡ b.asked = cc in
        subst (λ n. n < below) (sym (told u k h.0 (keys_tenant_known C P m u k l has) h.3)) (subst (λ (q : Request). request_estimate C P q < below) (sym same) b.less)

    pub same_smaller : (b : Bool) → (IsTrue b ↔ SomeIsShort (turn_of x.setting i v) x.table weights below) → IsTrue b ↔ HasSmaller C P m i below
    same_smaller b h = (
      λ t. let s = h.0 t in
          let has = has_keys C P m x l is s.tenant s.keys s.has in
          record { tenant = s.tenant; keys = s.keys; has = has; eligible = subst (λ (turn : Turn). IsEligible turn s.keys) (same_turn C P m x l is i v at) s.eligible; smaller = short_below s.tenant s.keys has s.smaller },
      λ s. h.1 (record { tenant = s.tenant; keys = s.keys; has = keys_have C P m x l is s.tenant s.keys s.has; eligible = subst (λ (turn : Turn). IsEligible turn s.keys) (sym (same_turn C P m x l is i v at)) s.eligible; smaller = below_short s.tenant s.keys s.has s.smaller }),
    )

-- virtual time, as it is handed on
pub time_read : (z : ℤ) (n : ℕ) → z ≡ pos n → pos 0 ≤ℤ z → z ≤ℤ GREATEST_VIRTUAL_TIME → to_z w128 (of_z w128 z) ≡ pos n
time_read z n is low high = let back : to_z w128 (of_z w128 z) ≡ z = omega (arith, ints, low, high) in back ∙ is

-- a reference to an item is there where the item is
pub has_copied : {A : Type 0} (o : Option (Bor A)) → IsSome (option_copied o) → IsSome o
has_copied (Some x) is = refl
has_copied None is = absurd (cc)
