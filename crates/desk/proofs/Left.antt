-- The request that a worker runs after its Take, its Report and its Done.
use Rattle.std.proofs.Common.{◌≡◌, ℕ, ◌<◌, ◌==◌, Bool, true, false, cond, Option, Some, None, [], ◌∷◌, sym, ap, ◌∙◌, refl, subst, arith, eq-eqb}
use Rattle.std.specs.Prelude.{MatchBool, nat_le, is_some, is_none}
use Rattle.std.proofs.lemmas.Bool.Decides.{nat_tests}
use Rattle.fq_model.specs.declared.config.Config.{Config}
use Rattle.fq_model.specs.declared.event.Call.TheVariants as call
use Rattle.fq_model.specs.declared.event.Cause.{Cause}
use Rattle.fq_model.specs.declared.event.Cause.TheVariants as cause
use Rattle.fq_model.specs.declared.event.Reply.{Reply}
use Rattle.fq_model.specs.declared.event.Reply.TheVariants as answer
use Rattle.fq_model.specs.History.{History, is_closed, waiting, pool_at, running_on}
use Rattle.fq_model.specs.Rules.{first_true, Answers, IsAnswered, RefusedOrElse, AnswersFree, AnswersPooled, RunsChosen, take_refusal, report_refusal, done_refusal}
use Rattle.desk.specs.Replies.{TookLeft, IsLive, IsEnding}

-- a worker that reported runs on, and is refused for few causes
abbrev pub ReportLeft : ℕ → ℕ → History → Reply → Type 0
ReportLeft i r H answer.Accepted = running_on H i ≡ Some r
ReportLeft i r H (answer.Refused why) = IsLive why × (running_on H i ≡ Some r)
ReportLeft i r H _ = ⊥

-- a worker that ended its request runs none, and runs on where that is refused
abbrev pub DoneLeft : ℕ → ℕ → History → Reply → Type 0
DoneLeft i r H answer.Accepted = running_on H i ≡ None
DoneLeft i r H (answer.Refused why) = IsEnding why × (running_on H i ≡ Some r)
DoneLeft i r H _ = ⊥

-- ---- a Take

not_refused : (a : Bool) (o : Option ℕ) (x y : Cause) → a ≡ false → o ≡ None → first_true ((a, x) ∷ (is_some o, y) ∷ []) ≡ None
not_refused true o x y h k = absurd (cc)
not_refused false None x y h k = refl
not_refused false (Some r) x y h k = absurd (cc)

known_test : (w i : ℕ) → i < w → nat_le w i ≡ false
known_test w i h = grind (arith, nat_tests)

rests : (i : ℕ) (P Q : History) (closed : Bool) (reply : Reply) → running_on P i ≡ None → IsAnswered P (cond closed answer.Drained answer.Idle) reply Q → TookLeft i Q reply
rests i P Q true reply free x = subst (TookLeft i Q) (sym x.0) (ap (λ H. running_on H i) x.1 ∙ free)
rests i P Q false reply free x = subst (TookLeft i Q) (sym x.0) (ap (λ H. running_on H i) x.1 ∙ free)

pooled : (C : Config) (P : History) (who moment i : ℕ) (b : Bool) (reply : Reply) (Q : History) → running_on P i ≡ None → MatchBool b (IsAnswered P (cond (is_closed P) answer.Drained answer.Idle) reply Q) (RunsChosen C P who moment i reply Q) → TookLeft i Q reply
pooled C P who moment i true reply Q none x = rests i P Q (is_closed P) reply none x
pooled C P who moment i false reply Q none x =
    let same : (i == i) ≡ true = eq-eqb i i refl in
    subst (TookLeft i Q) (sym x.accepted.0) (ap (λ H. running_on H i) x.accepted.1 ∙ ap (λ (b : Bool). cond b (Some x.request) (running_on P i)) same)

free : (C : Config) (P : History) (who moment i : ℕ) (b : Bool) (reply : Reply) (Q : History) → running_on P i ≡ None → MatchBool b (IsAnswered P (answer.Retired (pool_at C P)) reply Q) (AnswersPooled C P who moment i reply Q) → TookLeft i Q reply
free C P who moment i true reply Q none x = subst (TookLeft i Q) (sym x.0) (ap (λ H. running_on H i) x.1 ∙ none)
free C P who moment i false reply Q none x = pooled C P who moment i (waiting P == 0) reply Q none x

pub took_left : (C : Config) (P : History) (who moment i : ℕ) (reply : Reply) (Q : History) → i < C.workers → running_on P i ≡ None → Answers C P (call.Take who moment i) reply Q → TookLeft i Q reply
took_left C P who moment i reply Q known none x =
    let unrefused : take_refusal C P i ≡ None = not_refused (nat_le C.workers i) (running_on P i) _ _ (known_test C.workers i known) none in
    free C P who moment i (nat_le (pool_at C P) i) reply Q none (subst (λ o. RefusedOrElse o P reply Q (AnswersFree C P who moment i reply Q)) unrefused x)

-- ---- a Report and a Done

-- a property of a refusal and of an accepted call is one of the answer
refused_or : (o : Option Cause) (P : History) (reply : Reply) (Q : History) (X : Type 0) (Holds : History → Reply → Type 0) → ((c : Cause) → o ≡ Some c → Holds P (answer.Refused c)) → (X → Holds Q reply) → RefusedOrElse o P reply Q X → Holds Q reply
refused_or None P reply Q X Holds back on x = on x
refused_or (Some c) P reply Q X Holds back on x = subst (λ H. Holds H reply) (sym x.1) (subst (Holds P) (sym x.0) (back c refl))

-- where there is a cause, it is one of these
abbrev IfCause : (Cause → Type 0) → Option Cause → Type 0
IfCause Is None = Unit {0}
IfCause Is (Some c) = Is c

cause_is : (Is : Cause → Type 0) (o : Option Cause) (c : Cause) → IfCause Is o → o ≡ Some c → Is c
cause_is Is o c h e = let k : IfCause Is (Some c) = subst (IfCause Is) e h in k

live_rows : (a b c d f : Bool) (x y : Cause) (u l g n : ℕ) → a ≡ false → b ≡ false → IfCause IsLive (first_true ((a, x) ∷ (b, y) ∷ (c, cause.Cost u) ∷ (d, cause.Falling l g) ∷ (f, cause.Full n) ∷ []))
live_rows true b c d f x y u l g n h k = absurd (cc)
live_rows false true c d f x y u l g n h k = absurd (cc)
live_rows false false true d f x y u l g n h k = tt
live_rows false false false true f x y u l g n h k = tt
live_rows false false false false true x y u l g n h k = tt
live_rows false false false false false x y u l g n h k = tt

ending_rows : (a b c d : Bool) (x y : Cause) (u l g : ℕ) → a ≡ false → b ≡ false → IfCause IsEnding (first_true ((a, x) ∷ (b, y) ∷ (c, cause.Cost u) ∷ (d, cause.Falling l g) ∷ []))
ending_rows true b c d x y u l g h k = absurd (cc)
ending_rows false true c d x y u l g h k = absurd (cc)
ending_rows false false true d x y u l g h k = tt
ending_rows false false false true x y u l g h k = tt
ending_rows false false false false x y u l g h k = tt

pub report_left : (C : Config) (P : History) (who moment i used r : ℕ) (reply : Reply) (Q : History) → i < C.workers → running_on P i ≡ Some r → Answers C P (call.Report who moment i used) reply Q → ReportLeft i r Q reply
report_left C P who moment i used r reply Q known runs x =
    let live : IfCause IsLive (report_refusal C P i used) = live_rows _ _ _ _ _ _ _ _ _ _ _ (known_test C.workers i known) (ap is_none runs) in
    refused_or (report_refusal C P i used) P reply Q _ (ReportLeft i r) (λ c e. (cause_is IsLive _ c live e, runs)) (λ y. subst (ReportLeft i r Q) (sym y.0) (ap (λ H. running_on H i) y.1 ∙ runs)) x

pub done_left : (C : Config) (P : History) (who moment i cost r : ℕ) (reply : Reply) (Q : History) → i < C.workers → running_on P i ≡ Some r → Answers C P (call.Done who moment i cost) reply Q → DoneLeft i r Q reply
done_left C P who moment i cost r reply Q known runs x =
    let ending : IfCause IsEnding (done_refusal C P i cost) = ending_rows _ _ _ _ _ _ _ _ _ (known_test C.workers i known) (ap is_none runs) in
    let same : (i == i) ≡ true = eq-eqb i i refl in
    refused_or (done_refusal C P i cost) P reply Q _ (DoneLeft i r) (λ c e. (cause_is IsEnding _ c ending e, runs)) (λ y. subst (DoneLeft i r Q) (sym y.0) (ap (λ H. running_on H i) y.1 ∙ ap (λ (b : Bool). cond b None (running_on P i)) same)) x

-- whatever the reply to a report, the worker runs on
pub reported_runs : (i r : ℕ) (H : History) (reply : Reply) → ReportLeft i r H reply → running_on H i ≡ Some r
reported_runs i r H answer.Accepted x = x
reported_runs i r H (answer.Refused why) x = x.1
reported_runs i r H (answer.Request request) x = absurd x
reported_runs i r H (answer.Run request estimate label) x = absurd x
reported_runs i r H answer.Idle x = absurd x
reported_runs i r H answer.Drained x = absurd x
reported_runs i r H (answer.Retired workers) x = absurd x
reported_runs i r H (answer.Withdrawn label) x = absurd x

-- these hold at K where they hold at H and the worker runs the same request at both
pub took_same : (i : ℕ) (H K : History) (reply : Reply) → running_on K i ≡ running_on H i → TookLeft i H reply → TookLeft i K reply
took_same i H K (answer.Run request estimate label) same x = same ∙ x
took_same i H K answer.Idle same x = same ∙ x
took_same i H K answer.Drained same x = same ∙ x
took_same i H K (answer.Retired workers) same x = same ∙ x
took_same i H K (answer.Withdrawn label) same x = absurd x
took_same i H K (answer.Request request) same x = x
took_same i H K answer.Accepted same x = x
took_same i H K (answer.Refused why) same x = x

pub report_same : (i r : ℕ) (H K : History) (reply : Reply) → running_on K i ≡ running_on H i → ReportLeft i r H reply → ReportLeft i r K reply
report_same i r H K answer.Accepted same x = same ∙ x
report_same i r H K (answer.Refused why) same x = (x.0, same ∙ x.1)
report_same i r H K (answer.Request request) same x = x
report_same i r H K (answer.Run request estimate label) same x = x
report_same i r H K answer.Idle same x = x
report_same i r H K answer.Drained same x = x
report_same i r H K (answer.Retired workers) same x = x
report_same i r H K (answer.Withdrawn label) same x = absurd x

pub done_same : (i r : ℕ) (H K : History) (reply : Reply) → running_on K i ≡ running_on H i → DoneLeft i r H reply → DoneLeft i r K reply
done_same i r H K answer.Accepted same x = same ∙ x
done_same i r H K (answer.Refused why) same x = (x.0, same ∙ x.1)
done_same i r H K (answer.Request request) same x = x
done_same i r H K (answer.Run request estimate label) same x = x
done_same i r H K answer.Idle same x = x
done_same i r H K answer.Drained same x = x
done_same i r H K (answer.Retired workers) same x = x
done_same i r H K (answer.Withdrawn label) same x = absurd x

-- a report is refused as a done is, or for want of room
pub ending_or_full : (c : Cause) → IsLive c → ((n : ℕ) → c ≡ cause.Full n → ⊥) → IsEnding c
ending_or_full (cause.Cost used) live room = tt
ending_or_full (cause.Falling last given) live room = tt
ending_or_full (cause.Full entries) live room = absurd (room entries refl)
ending_or_full cause.Closed live room = absurd live
ending_or_full (cause.Tenant n) live room = absurd live
ending_or_full (cause.Kind n) live room = absurd live
ending_or_full (cause.Slots n) live room = absurd live
ending_or_full (cause.Worker n) live room = absurd live
ending_or_full (cause.Busy n) live room = absurd live
ending_or_full cause.NotRunning live room = absurd live
ending_or_full (cause.Weight n) live room = absurd live
ending_or_full (cause.Workers n) live room = absurd live
ending_or_full (cause.NotWaiting n) live room = absurd live
