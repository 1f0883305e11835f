-- The replies to the calls of the simulation.
use Rattle.std.proofs.Common.{ℕ, ◌+◌, ◌<◌, ◌≤◌, ◌≡◌, ◌==◌, false, List, ◌∷◌, length, Option, Some, None, arith, refl, ap, leb, ltb, nat_le}
use Rattle.std.proofs.lemmas.Bool.{ne_eqb, le-ltb, lt-leb, MatchBool-at_false}
use Rattle.std.proofs.lemmas.List.{length-reverse}
use Rattle.vt_fixed.specs.declared.limits.TheConstants.{GREATEST_COST, GREATEST_MOMENT}
use Rattle.fq_model.specs.declared.config.Config.{Config}
use Rattle.fq_model.specs.declared.event.Act.TheVariants.{Submit, Take, Report, Done, Close}
use Rattle.fq_model.specs.declared.event.Entry.{Entry}
use Rattle.fq_model.specs.declared.event.Call.TheVariants as call
use Rattle.fq_model.specs.declared.event.Reply.{Reply}
use Rattle.fq_model.specs.declared.event.Reply.TheVariants as answer
use Rattle.fq_model.specs.declared.event.Cause.{Cause}
use Rattle.fq_model.specs.History.{History, history_of, submits, waiting, running_on, last_use, is_closed, pool_at}
use Rattle.fq_model.specs.Rules.{RefusedOrElse, Answers, FitsUse, FitsSubmit, FitsTake, HasRoom, report_refusal, done_refusal, submit_refusal, take_refusal, close_refusal, needed_room, RunsChosen, AnswersFree, AnswersPooled}
use Rattle.fq_model.specs.Time.{last_moment, effective_moment}
use Rattle.fq_laws.proofs.History.Workers.{running_nothing}
use Rattle.fq_laws.proofs.Rules.Refusals.{request_on_is}

-- where nothing refuses, the call is accepted
accepted : (o : Option Cause) (P : History) (reply : Reply) (Q : History) (A : Type 0) → o ≡ None → RefusedOrElse o P reply Q A → A
accepted None P reply Q A e h = h
accepted (Some c) P reply Q A e h = absurd (cc)

pub effective_now : (P : History) (m : ℕ) → last_moment P ≤ m → m ≤ GREATEST_MOMENT → effective_moment P m ≡ m
effective_now P m low high = omega (arith, low, high)

pub grown : (xs ys : List Entry) (e : Entry) → history_of ys ≡ e ∷ history_of xs → length ys ≡ length xs + 1
grown xs ys e h = omega (arith, ap length h, length-reverse xs, length-reverse ys)

-- ---- Reports and Dones

no_report_refusal : (C : Config) (P : History) (i r used : ℕ) → i < C.workers → running_on P i ≡ Some r → FitsUse P i r used → HasRoom C P 2 → report_refusal C P i used ≡ None
no_report_refusal C P i r used l on f room =
    let a : leb C.workers i ≡ false = lt-leb _ _ l in
    let b : ltb GREATEST_COST used ≡ false = le-ltb _ _ f.in_range in
    let c : ltb used (last_use P r) ≡ false = le-ltb _ _ f.rising in
    let d : ltb C.entries (needed_room P 2) ≡ false = le-ltb _ _ room in
    rw (a, on, b, c, d) refl

no_done_refusal : (C : Config) (P : History) (i r cost : ℕ) → i < C.workers → running_on P i ≡ Some r → FitsUse P i r cost → done_refusal C P i cost ≡ None
no_done_refusal C P i r cost l on f =
    let a : leb C.workers i ≡ false = lt-leb _ _ l in
    let b : ltb GREATEST_COST cost ≡ false = le-ltb _ _ f.in_range in
    let c : ltb cost (last_use P r) ≡ false = le-ltb _ _ f.rising in
    rw (a, on, b, c) refl

-- the entry of an accepted Report
pub reported : (C : Config) (P Q : History) (who m i r used : ℕ) (reply : Reply) → i < C.workers → running_on P i ≡ Some r → FitsUse P i r used → HasRoom C P 2 → effective_moment P m ≡ m → Answers C P (call.Report who m i used) reply Q →
    (reply ≡ answer.Accepted) × (Q ≡ record { who = who; moment = m; act = Report i r used } ∷ P)
reported C P Q who m i r used reply l on f room now h =
    let x = accepted _ _ _ _ _ (no_report_refusal C P i r used l on f room) h in
    (x.0, rw (request_on_is P i r on, now) at x.1)

pub finished : (C : Config) (P Q : History) (who m i r cost : ℕ) (reply : Reply) → i < C.workers → running_on P i ≡ Some r → FitsUse P i r cost → effective_moment P m ≡ m → Answers C P (call.Done who m i cost) reply Q →
    (reply ≡ answer.Accepted) × (Q ≡ record { who = who; moment = m; act = Done i r cost } ∷ P)
finished C P Q who m i r cost reply l on f now h =
    let x = accepted _ _ _ _ _ (no_done_refusal C P i r cost l on f) h in
    (x.0, rw (request_on_is P i r on, now) at x.1)

-- ---- Submits

no_submit_refusal : (C : Config) (P : History) (r tenant kind declared : ℕ) → FitsSubmit C P r tenant kind declared → submit_refusal C P tenant kind declared ≡ None
no_submit_refusal C P r tenant kind declared f =
    let o : is_closed P ≡ false = f.open_still in
    let a : leb (length C.weights) tenant ≡ false = lt-leb _ _ f.tenant_known in
    let b : leb C.kinds kind ≡ false = lt-leb _ _ f.kind_known in
    let z : (declared == 0) ≡ false = ne_eqb declared 0 (λ e. absurd (omega (arith, f.declared_low))) in
    let y : ltb GREATEST_COST declared ≡ false = le-ltb _ _ f.declared_high in
    let c : (waiting P == C.requests) ≡ false = ne_eqb (waiting P) C.requests (λ e. absurd (omega (arith, f.slot))) in
    let d : ltb C.entries (needed_room P 4) ≡ false = le-ltb _ _ f.room in
    rw (o, a, b, z, y, c, d) refl

pub submitted : (C : Config) (P Q : History) (who m tenant kind declared label : ℕ) (reply : Reply) → FitsSubmit C P (submits P) tenant kind declared → effective_moment P m ≡ m → Answers C P (call.Submit who m tenant kind declared label) reply Q →
    (reply ≡ answer.Request (submits P)) × (Q ≡ record { who = who; moment = m; act = Submit (submits P) tenant kind declared label } ∷ P)
submitted C P Q who m tenant kind declared label reply f now h =
    let x = accepted _ _ _ _ _ (no_submit_refusal C P (submits P) tenant kind declared f) h in
    (x.0, rw now at x.1)

-- ---- Takes

no_take_refusal : (C : Config) (P : History) (i : ℕ) → i < C.workers → running_on P i ≡ None → take_refusal C P i ≡ None
no_take_refusal C P i l on = let a : leb C.workers i ≡ false = lt-leb _ _ l in rw (a, on) refl

-- the Take that is accepted
pub record Took (C : Config) (P Q : History) (who m i : ℕ) (reply : Reply) : Type 0 where
  pub request : ℕ
  pub estimate : ℕ
  pub label : ℕ
  pub fits : FitsTake C P m i request estimate
  pub reply_is : reply ≡ answer.Run request estimate label
  pub grows : Q ≡ record { who = who; moment = m; act = Take i request estimate } ∷ P

pub took_now : (C : Config) (P Q : History) (who m i : ℕ) (reply : Reply) → Rattle.fq_model.specs.Rules.IsLegal C P → pool_at C P ≡ C.workers → i < C.workers → running_on P i ≡ None → 1 ≤ waiting P → effective_moment P m ≡ m → Answers C P (call.Take who m i) reply Q → Took C P Q who m i reply
took_now C P Q who m i reply l pool known on some now h =
    let free : AnswersFree C P who m i reply Q = accepted _ _ _ _ _ (no_take_refusal C P i known on) h in
    let below : nat_le (pool_at C P) i ≡ false = lt-leb _ _ (omega (arith, pool)) in
    let pooled : AnswersPooled C P who m i reply Q = MatchBool-at_false _ _ below free in
    let waits : (waiting P == 0) ≡ false = ne_eqb (waiting P) 0 (λ e. absurd (omega arith)) in
    let runs : RunsChosen C P who m i reply Q = MatchBool-at_false _ _ waits pooled in
    record {
      request = runs.request;
      estimate = runs.estimate;
      label = runs.asked.label;
      fits = record {
        worker_known = omega (arith, pool);
        free = running_nothing C P i l on;
        asked = runs.asked;
        chosen = rw now at runs.chosen;
      };
      reply_is = runs.accepted.0;
      grows = rw now at runs.accepted.1;
    }

-- ---- the Close

pub closed : (C : Config) (P Q : History) (who m : ℕ) (reply : Reply) → is_closed P ≡ false → effective_moment P m ≡ m → Answers C P (call.Close who m) reply Q → (reply ≡ answer.Accepted) × (Q ≡ record { who = who; moment = m; act = Close } ∷ P)
closed C P Q who m reply o now h =
    let none : close_refusal P ≡ None = rw o refl in
    let x = accepted _ _ _ _ _ none h in
    (x.0, rw now at x.1)
