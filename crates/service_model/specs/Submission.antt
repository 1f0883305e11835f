-- The answer to a submit: who is admitted, and whether it is forwarded at once or held.
use Rattle.std.specs.Prelude.{ℕ, ◌==◌, nat_lt, nat_le, Bool, true, false, not, ◌||◌, ◌&&◌, if◌then◌else◌, List, [], ◌∷◌, ◌++◌, length, Option, Some, None, MatchBool}
use Rattle.vt_fixed.specs.declared.limits.TheConstants.{GREATEST_COST}
use Rattle.fq_model.specs.declared.event.Cause.TheVariants as cause
use Rattle.fq_model.specs.declared.event.Reply.{Reply}
use Rattle.fq_model.specs.declared.event.Reply.TheVariants as answer
use Rattle.fq_model.specs.Rows.{first_true}
use Rattle.waiting_room.specs.declared.refusal.Refusal.{Refusal}
use Rattle.waiting_room.specs.declared.refusal.Refusal.TheVariants as room
use Rattle.waiting_room.specs.Room.{refusal}
use Rattle.service_model.specs.declared.config.ServiceConfig.{ServiceConfig}
use Rattle.service_model.specs.declared.limits.TheConstants.{MOST_TICKETS}
use Rattle.service_model.specs.declared.outcome.ServiceOutcome.{ServiceOutcome}
use Rattle.service_model.specs.declared.outcome.ServiceOutcome.TheVariants.{Ticket, Refused}
use Rattle.service_model.specs.declared.refusal.ServiceRefusal.{ServiceRefusal}
use Rattle.service_model.specs.declared.refusal.ServiceRefusal.TheVariants as cause_of
use Rattle.service_model.specs.View.{Admitted, SlotView, Standing, Held, Forwarded, ServiceView, slot_at, has_tenant, with_slot}
use Rattle.service_model.specs.Room.{room_of, waiting_in}
use Rattle.service_model.specs.Rolling.{submit_call, MakesWithRoom}
use Rattle.service_model.specs.Limits.{goes_at_once}
use Rattle.service_model.specs.Idling.{with_work}
use Rattle.service_model.specs.Rows.{IsAnswered}

abbrev pub is_too_many : Option Refusal → Bool
is_too_many (Some room.TooManyWait) = true
is_too_many _ = false

abbrev pub is_tenant_full : Option Refusal → Bool
is_tenant_full (Some room.TenantFull) = true
is_tenant_full _ = false

abbrev pub is_before : Option ℕ → ℕ → Bool
is_before None m = false
is_before (Some deadline) m = nat_lt deadline m

-- the moment of a deadline (read only where there is one)
abbrev pub moment_of_deadline : Option ℕ → ℕ
moment_of_deadline None = 0
moment_of_deadline (Some deadline) = deadline

-- a slot has a tenant, of this generation
abbrev pub has_generation : ServiceConfig → ServiceView → ℕ → ℕ → Bool
has_generation c v slot generation = has_tenant c.named v slot && ((slot_at v slot).generation == generation)

-- the causes for which a submit is refused at m, in their order, but for want of room in the scheduler: the request would
-- be q
abbrev pub submit_causes : ServiceConfig → ServiceView → ℕ → ℕ → Admitted → List (Bool × ServiceRefusal)
submit_causes c v m generation q =
    (v.is_closed, cause_of.Closed)
    ∷ (not (has_generation c v q.slot generation), cause_of.Tenant q.slot)
    ∷ (nat_le c.scheduler.kinds q.kind, cause_of.Kind q.kind)
    ∷ ((q.declared == 0) || nat_lt GREATEST_COST q.declared, cause_of.Cost q.declared)
    ∷ (is_before q.deadline m, cause_of.Late (moment_of_deadline q.deadline))
    ∷ (is_too_many (refusal (room_of c v) q.slot), cause_of.TooManyWait)
    ∷ (is_tenant_full (refusal (room_of c v) q.slot), cause_of.TenantFull)
    ∷ (nat_le MOST_TICKETS (length v.admitted), cause_of.Full)
    ∷ []

-- the first of them that holds, if there is one
abbrev pub submit_cause : ServiceConfig → ServiceView → ℕ → ℕ → Admitted → Option ServiceRefusal
submit_cause c v m generation q = first_true (submit_causes c v m generation q)

-- the slot after the admission of a request at m: where nothing of its tenant waits the tenant begins to wait
abbrev pub slot_after : ServiceView → ℕ → ℕ → SlotView
slot_after v slot m =
    if waiting_in v slot == 0 then record (slot_at v slot) { began_to_wait = Some m } else slot_at v slot

-- the request is admitted, and has the next ticket
abbrev pub with_admitted : ServiceView → ℕ → Admitted → ServiceView
with_admitted v m q =
    with_work (with_slot (record v { admitted = v.admitted ++ q ∷ [] }) q.slot (slot_after v q.slot m)) q.slot

abbrev pub ticket_after : ServiceView → ServiceOutcome
ticket_after v = Ticket (length v.admitted)

-- the request is admitted, and stands here
abbrev pub IsAdmitted : ServiceView → ℕ → Admitted → Standing → ServiceOutcome → ServiceView → Type 0
IsAdmitted v m q standing outcome w =
    IsAnswered (ticket_after v) (with_admitted v m (record q { stands = standing })) outcome w

-- by the scheduler's reply the request is admitted as a forwarded one, or refused for want of room
abbrev pub IsForwardedBy : Reply → ServiceView → ℕ → Admitted → ServiceOutcome → ServiceView → Type 0
IsForwardedBy (answer.Request request) v m q outcome w = IsAdmitted v m q (Forwarded request) outcome w
IsForwardedBy (answer.Refused (cause.Full entries)) v m q outcome w =
    IsAnswered (Refused cause_of.Full) v outcome w
IsForwardedBy _ v m q outcome w = ⊥

-- the request is forwarded at once, at m
pub record GoesAtOnce (c : ServiceConfig) (m : ℕ) (v : ServiceView) (q : Admitted) (outcome : ServiceOutcome)
    (w : ServiceView) : Type 0 where
  pub reply : Reply
  pub made : ServiceView
  pub makes : MakesWithRoom c m v (submit_call c m q) reply made
  pub answered : IsForwardedBy reply made m q outcome w

-- a request that no cause refuses is forwarded at once, or held
abbrev pub AnswersSubmit : ServiceConfig → ℕ → ServiceView → Admitted → ServiceOutcome → ServiceView → Type 0
AnswersSubmit c m v q outcome w =
    MatchBool (goes_at_once c v q.slot q.kind)
    (GoesAtOnce c m v q outcome w)
    (IsAdmitted v m q Held outcome w)
