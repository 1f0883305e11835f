-- Which calls are answered by a grant or by rest: next alone.
use Rattle.std.proofs.Common.{ℕ, ◌≡◌, ◌⊎◌, List, [], ◌∷◌, Option, Some, None, sym, subst, inl, inr}
use Rattle.std.specs.Prelude.{◌==◌, slice_get, is_none}
use Rattle.fq_model.specs.declared.event.Call.{Call}
use Rattle.fq_model.specs.declared.event.Cause.TheVariants as cause
use Rattle.fq_model.specs.declared.event.Reply.{Reply}
use Rattle.fq_model.specs.declared.event.Reply.TheVariants as answer
use Rattle.fq_model.specs.History.{weight_at}
use Rattle.service_model.specs.declared.call.ServiceCall.{ServiceCall}
use Rattle.service_model.specs.declared.call.ServiceCall.TheVariants as call
use Rattle.service_model.specs.declared.config.ServiceConfig.{ServiceConfig}
use Rattle.service_model.specs.declared.outcome.ServiceOutcome.{ServiceOutcome}
use Rattle.service_model.specs.declared.outcome.ServiceOutcome.TheVariants as told
use Rattle.service_model.specs.declared.refusal.ServiceRefusal.{ServiceRefusal}
use Rattle.service_model.specs.declared.refusal.ServiceRefusal.TheVariants as refusals
use Rattle.service_model.specs.View.{Held, Forwarded, Admitted, ServiceView, is_waiting, ticket_on}
use Rattle.service_model.specs.Rows.{IsAnswered, RefusedOrElse}
use Rattle.service_model.specs.Limits.{goes_at_once}
use Rattle.service_model.specs.Submission.{submit_cause, IsAdmitted, IsForwardedBy, GoesAtOnce, AnswersSubmit}
use Rattle.service_model.specs.Withdrawing.{CancelsKnown}
use Rattle.service_model.specs.Reports.{AnswersUsed}
use Rattle.service_model.specs.Finishing.{AnswersFinish}
use Rattle.service_model.specs.Changes.{IsChangedBy, MakesChange, JoinsSlot, JoinsFirst, AnswersLimit, next_tenant, joinable, join_cause, weight_cause, limit_cause, workers_cause, close_cause}
use Rattle.service_model.specs.Answers.{AnswersAt, coming}
use Rattle.service_laws.proofs.Lists.{either}

-- the outcome is neither a grant nor rest
abbrev pub IsPlain : ServiceOutcome → Type 0
IsPlain (told.Grant grant) = ⊥
IsPlain (told.Rest until) = ⊥
IsPlain _ = Unit {0}

plain_if : {o p : ServiceOutcome} → o ≡ p → IsPlain p → IsPlain o
plain_if e plain = subst IsPlain (sym e) plain

answered : (wanted : ServiceOutcome) (v : ServiceView) (o : ServiceOutcome) (w : ServiceView) → IsPlain wanted
    → IsAnswered wanted v o w → IsPlain o
answered wanted v o w plain x = plain_if x.0 plain

or_else : (c : Option ServiceRefusal) (v : ServiceView) (o : ServiceOutcome) (w : ServiceView) (A : Type 0)
    → (A → IsPlain o) → RefusedOrElse c v o w A → IsPlain o
or_else None v o w A f x = f x
or_else (Some c) v o w A f x = plain_if x.0 tt

-- ---- submits

-- by the scheduler's reply a request is admitted as a forwarded one, or refused for want of room
pub forwarded_or_full : (r : Reply) (v : ServiceView) (m : ℕ) (q : Admitted) (o : ServiceOutcome) (w : ServiceView)
    → IsForwardedBy r v m q o w
    → ((request : ℕ) × IsAdmitted v m q (Forwarded request) o w) ⊎ IsAnswered (told.Refused refusals.Full) v o w
forwarded_or_full (answer.Request request) v m q o w x = inl (request, x)
forwarded_or_full (answer.Refused (cause.Full entries)) v m q o w x = inr x
forwarded_or_full (answer.Refused cause.Closed) v m q o w x = absurd x
forwarded_or_full (answer.Refused (cause.Tenant t)) v m q o w x = absurd x
forwarded_or_full (answer.Refused (cause.Kind k)) v m q o w x = absurd x
forwarded_or_full (answer.Refused (cause.Cost n)) v m q o w x = absurd x
forwarded_or_full (answer.Refused (cause.Slots n)) v m q o w x = absurd x
forwarded_or_full (answer.Refused (cause.Worker n)) v m q o w x = absurd x
forwarded_or_full (answer.Refused (cause.Busy n)) v m q o w x = absurd x
forwarded_or_full (answer.Refused cause.NotRunning) v m q o w x = absurd x
forwarded_or_full (answer.Refused (cause.Falling last given)) v m q o w x = absurd x
forwarded_or_full (answer.Refused (cause.Weight n)) v m q o w x = absurd x
forwarded_or_full (answer.Refused (cause.Workers n)) v m q o w x = absurd x
forwarded_or_full (answer.Refused (cause.NotWaiting n)) v m q o w x = absurd x
forwarded_or_full (answer.Run request estimate label) v m q o w x = absurd x
forwarded_or_full answer.Accepted v m q o w x = absurd x
forwarded_or_full answer.Idle v m q o w x = absurd x
forwarded_or_full answer.Drained v m q o w x = absurd x
forwarded_or_full (answer.Retired n) v m q o w x = absurd x
forwarded_or_full (answer.Withdrawn label) v m q o w x = absurd x

forwarded : (r : Reply) (v : ServiceView) (m : ℕ) (q : Admitted) (o : ServiceOutcome) (w : ServiceView)
    → IsForwardedBy r v m q o w → IsPlain o
forwarded r v m q o w x = elim (forwarded_or_full r v m q o w x) [
  | inl y ↦ plain_if y.1.0 tt
  | inr y ↦ plain_if y.0 tt
]

submitted : (c : ServiceConfig) (m : ℕ) (v : ServiceView) (q : Admitted) (o : ServiceOutcome) (w : ServiceView)
    → AnswersSubmit c m v q o w → IsPlain o
submitted c m v q o w =
    either (goes_at_once c v q.slot q.kind) (GoesAtOnce c m v q o w) (IsAdmitted v m q Held o w) (IsPlain o)
    (λ _ x. forwarded x.reply x.made m q o w x.answered)
    (λ _ x. plain_if x.0 tt)

-- ---- changes

-- by the scheduler's reply something changes, or is refused for want of room
pub changed_or_full : (r : Reply) (wanted : ServiceOutcome) (change : ServiceView → ServiceView) (v : ServiceView)
    (o : ServiceOutcome) (w : ServiceView) → IsChangedBy r wanted change v o w
    → IsAnswered wanted (change v) o w ⊎ IsAnswered (told.Refused refusals.Full) v o w
changed_or_full answer.Accepted wanted change v o w x = inl x
changed_or_full (answer.Refused (cause.Full entries)) wanted change v o w x = inr x
changed_or_full (answer.Refused cause.Closed) wanted change v o w x = absurd x
changed_or_full (answer.Refused (cause.Tenant t)) wanted change v o w x = absurd x
changed_or_full (answer.Refused (cause.Kind k)) wanted change v o w x = absurd x
changed_or_full (answer.Refused (cause.Cost n)) wanted change v o w x = absurd x
changed_or_full (answer.Refused (cause.Slots n)) wanted change v o w x = absurd x
changed_or_full (answer.Refused (cause.Worker n)) wanted change v o w x = absurd x
changed_or_full (answer.Refused (cause.Busy n)) wanted change v o w x = absurd x
changed_or_full (answer.Refused cause.NotRunning) wanted change v o w x = absurd x
changed_or_full (answer.Refused (cause.Falling last given)) wanted change v o w x = absurd x
changed_or_full (answer.Refused (cause.Weight n)) wanted change v o w x = absurd x
changed_or_full (answer.Refused (cause.Workers n)) wanted change v o w x = absurd x
changed_or_full (answer.Refused (cause.NotWaiting n)) wanted change v o w x = absurd x
changed_or_full (answer.Request request) wanted change v o w x = absurd x
changed_or_full (answer.Run request estimate label) wanted change v o w x = absurd x
changed_or_full answer.Idle wanted change v o w x = absurd x
changed_or_full answer.Drained wanted change v o w x = absurd x
changed_or_full (answer.Retired n) wanted change v o w x = absurd x
changed_or_full (answer.Withdrawn label) wanted change v o w x = absurd x

changed : (r : Reply) (wanted : ServiceOutcome) (change : ServiceView → ServiceView) (v : ServiceView)
    (o : ServiceOutcome) (w : ServiceView) → IsPlain wanted → IsChangedBy r wanted change v o w → IsPlain o
changed r wanted change v o w plain x = elim (changed_or_full r wanted change v o w x) [
  | inl y ↦ plain_if y.0 plain
  | inr y ↦ plain_if y.0 tt
]

made : (c : ServiceConfig) (m : ℕ) (v : ServiceView) (asked : Call) (wanted : ServiceOutcome)
    (change : ServiceView → ServiceView) (o : ServiceOutcome) (w : ServiceView) → IsPlain wanted
    → MakesChange c m v asked wanted change o w → IsPlain o
made c m v asked wanted change o w plain x = changed x.reply wanted change x.made o w plain x.answered

joined_slot : (c : ServiceConfig) (m : ℕ) (v : ServiceView) (slot weight : ℕ) (o : ServiceOutcome) (w : ServiceView)
    → JoinsSlot c m v slot weight o w → IsPlain o
joined_slot c m v slot weight o w =
    either (weight_at v.present.config v.present.history slot == weight) _ _ (IsPlain o)
    (λ _ x. plain_if x.0 tt)
    (λ _ x. made c m v _ (next_tenant v slot) _ o w tt x)

joined_first : (c : ServiceConfig) (m : ℕ) (v : ServiceView) (weight : ℕ) (slots : List ℕ) (o : ServiceOutcome)
    (w : ServiceView) → JoinsFirst c m v weight slots o w → IsPlain o
joined_first c m v weight [] o w x = absurd x
joined_first c m v weight (slot ∷ slots) o w x = joined_slot c m v slot weight o w x

-- ---- the others

cancelled : (c : ServiceConfig) (m : ℕ) (v : ServiceView) (ticket : ℕ) (q : Option Admitted) (o : ServiceOutcome)
    (w : ServiceView) → CancelsKnown c m v ticket q o w → IsPlain o
cancelled c m v ticket None o w x = plain_if x.0 tt
cancelled c m v ticket (Some q) o w x =
    either (is_waiting q) _ _ (IsPlain o) (λ _ y. plain_if y.0 tt) (λ _ y. plain_if y.0 tt) x

used : (c : ServiceConfig) (m : ℕ) (v : ServiceView) (worker cost : ℕ) (o : ServiceOutcome) (w : ServiceView)
    → AnswersUsed c m v worker cost o w → IsPlain o
used c m v worker cost o w =
    either (is_none (ticket_on v worker)) _ _ (IsPlain o) (λ _ x. plain_if x.0 tt) (λ _ x. plain_if x.0 tt)

finished : (c : ServiceConfig) (m : ℕ) (v : ServiceView) (worker cost : ℕ) (o : ServiceOutcome) (w : ServiceView)
    → AnswersFinish c m v worker cost o w → IsPlain o
finished c m v worker cost o w =
    either (is_none (ticket_on v worker)) _ _ (IsPlain o) (λ _ x. plain_if x.0 tt) (λ _ x. plain_if x.0 tt)

-- a call that is not next
abbrev pub IsNoNext : ServiceCall → Type 0
IsNoNext (call.Next moment) = ⊥
IsNoNext _ = Unit {0}

pub plainly : (c : ServiceConfig) (m : ℕ) (v : ServiceView) (asked : ServiceCall) (o : ServiceOutcome) (w : ServiceView)
    → IsNoNext asked → AnswersAt c m v asked o w → IsPlain o
plainly c m v (call.Submit moment slot generation kind declared deadline label) o w other x =
    or_else (submit_cause c v m generation (coming m slot kind declared deadline label)) v o w _
    (submitted c m v (coming m slot kind declared deadline label) o w)
    x
plainly c m v (call.Cancel moment ticket) o w other x = cancelled c m v ticket (slice_get v.admitted ticket) o w x
plainly c m v (call.Next moment) o w other x = absurd other
plainly c m v (call.Used moment worker cost) o w other x = used c m v worker cost o w x
plainly c m v (call.Finish moment worker cost) o w other x = finished c m v worker cost o w x
plainly c m v (call.Join moment weight) o w other x =
    or_else (join_cause c v weight) v o w _ (joined_first c m v weight (joinable c v) o w) x
plainly c m v (call.Weight moment slot weight) o w other x =
    or_else (weight_cause c v slot weight) v o w _ (made c m v _ told.Accepted _ o w tt) x
plainly c m v (call.Limit moment slot most) o w other x =
    or_else (limit_cause v slot) v o w (AnswersLimit c m v slot most o w) (λ y. plain_if y.0 tt) x
plainly c m v (call.Workers moment count) o w other x =
    or_else (workers_cause c v count) v o w _ (made c m v _ told.Accepted _ o w tt) x
plainly c m v (call.Close moment) o w other x = or_else (close_cause v) v o w _ (λ y. plain_if y.0 tt) x
