-- Slots and weights, limits, the number of workers, and the close.
use Rattle.std.specs.Prelude.{ℕ, ◌+◌, ◌≡◌, ◌==◌, nat_lt, nat_le, not, Bool, ◌&&◌, List, [], ◌∷◌, length, Option, MatchBool}
use Rattle.std.specs.List.{filter}
use Rattle.fq_model.specs.declared.config.Config.{Config}
use Rattle.fq_model.specs.declared.event.Call.{Call}
use Rattle.fq_model.specs.declared.event.Call.TheVariants as call
use Rattle.fq_model.specs.declared.event.Cause.TheVariants as cause
use Rattle.fq_model.specs.declared.event.Reply.{Reply}
use Rattle.fq_model.specs.declared.event.Reply.TheVariants as answer
use Rattle.fq_model.specs.History.{weight_at, is_closed}
use Rattle.fq_model.specs.Limits.{is_outside, greatest_weight}
use Rattle.fq_model.specs.Rows.{first_true}
use Rattle.worker_reserve.specs.Credit.{with_workers}
use Rattle.service_model.specs.declared.config.ServiceConfig.{ServiceConfig}
use Rattle.service_model.specs.declared.limits.TheConstants.{LAST_GENERATION}
use Rattle.service_model.specs.declared.outcome.ServiceOutcome.{ServiceOutcome}
use Rattle.service_model.specs.declared.outcome.ServiceOutcome.TheVariants.{Accepted, Slot, Refused}
use Rattle.service_model.specs.declared.refusal.ServiceRefusal.{ServiceRefusal}
use Rattle.service_model.specs.declared.refusal.ServiceRefusal.TheVariants as cause_of
use Rattle.service_model.specs.View.{ServiceView, slot_at, has_any, is_held, with_slot}
use Rattle.service_model.specs.Scheduling.{service_caller, MakesNow}
use Rattle.service_model.specs.Rolling.{MakesWithRoom}
use Rattle.service_model.specs.Limits.{Releases}
use Rattle.service_model.specs.Idling.{with_idle}
use Rattle.service_model.specs.Rows.{IsAnswered}

-- ---- changes that the scheduler writes down

-- by the scheduler's reply the outcome is the one that is wanted, and this changes; or there is no room
abbrev pub IsChangedBy : Reply → ServiceOutcome → (ServiceView → ServiceView) → ServiceView → ServiceOutcome
    → ServiceView → Type 0
IsChangedBy answer.Accepted wanted change v outcome w = IsAnswered wanted (change v) outcome w
IsChangedBy (answer.Refused (cause.Full entries)) wanted change v outcome w =
    IsAnswered (Refused cause_of.Full) v outcome w
IsChangedBy _ wanted change v outcome w = ⊥

-- the call is made on a scheduler with room for it, and then this changes
pub record MakesChange (c : ServiceConfig) (m : ℕ) (v : ServiceView) (change : Call) (wanted : ServiceOutcome)
    (changed : ServiceView → ServiceView) (outcome : ServiceOutcome) (w : ServiceView) : Type 0 where
  pub reply : Reply
  pub made : ServiceView
  pub makes : MakesWithRoom c m v change reply made
  pub answered : IsChangedBy reply wanted changed made outcome w

abbrev pub weight_call : ServiceConfig → ℕ → ℕ → ℕ → Call
weight_call c m slot weight = call.Weight (service_caller c) m slot weight

-- a weight that is out of its range
abbrev pub is_bad_weight : Config → ℕ → Bool
is_bad_weight C weight = is_outside 1 (greatest_weight C.limits) weight

-- ---- join

-- the slot has no tenant from the opening on, and there is a generation for its next one
abbrev pub may_be_joined : ServiceConfig → ServiceView → ℕ → Bool
may_be_joined c v slot = nat_le c.named slot && nat_lt (slot_at v slot).generation LAST_GENERATION

-- the slots that may be joined: the one that is idle for longest comes first
abbrev pub joinable : ServiceConfig → ServiceView → List ℕ
joinable c v = filter (may_be_joined c v) v.idle

-- why a join is refused, but for want of room in the scheduler, if it is
abbrev pub join_cause : ServiceConfig → ServiceView → ℕ → Option ServiceRefusal
join_cause c v weight = first_true
    ((v.is_closed, cause_of.Closed)
    ∷ (is_bad_weight c.scheduler weight, cause_of.Weight weight)
    ∷ (length (joinable c v) == 0, cause_of.NoSlot)
    ∷ [])

-- the slot has its next tenant, with the limit of the configuration, and begins to be idle
abbrev pub joined : ServiceConfig → ℕ → ServiceView → ServiceView
joined c slot v =
    with_idle
    (with_slot v slot
    (record (slot_at v slot) { generation = (slot_at v slot).generation + 1; limit = c.most_running }))
    slot

-- the next generation of a slot
abbrev pub next_tenant : ServiceView → ℕ → ServiceOutcome
next_tenant v slot = Slot slot ((slot_at v slot).generation + 1)

-- the tenant gets this slot, and the slot this weight, if it has another
abbrev pub JoinsSlot : ServiceConfig → ℕ → ServiceView → ℕ → ℕ → ServiceOutcome → ServiceView → Type 0
JoinsSlot c m v slot weight outcome w =
    MatchBool (weight_at v.present.config v.present.history slot == weight)
    (IsAnswered (next_tenant v slot) (joined c slot v) outcome w)
    (MakesChange c m v (weight_call c m slot weight) (next_tenant v slot) (joined c slot) outcome w)

-- the first of these slots is joined
abbrev pub JoinsFirst : ServiceConfig → ℕ → ServiceView → ℕ → List ℕ → ServiceOutcome → ServiceView → Type 0
JoinsFirst c m v weight [] outcome w = ⊥
JoinsFirst c m v weight (slot ∷ slots) outcome w = JoinsSlot c m v slot weight outcome w

-- the answer to a join that no cause refuses
abbrev pub AnswersJoin : ServiceConfig → ℕ → ServiceView → ℕ → ServiceOutcome → ServiceView → Type 0
AnswersJoin c m v weight outcome w = JoinsFirst c m v weight (joinable c v) outcome w

-- ---- weights, limits and workers

-- no slot has this number; one that nobody has joined yet is there, too
abbrev pub is_no_slot : ServiceView → ℕ → Bool
is_no_slot v slot = nat_le (length v.slots) slot

-- why a weight is refused, but for want of room in the scheduler, if it is
abbrev pub weight_cause : ServiceConfig → ServiceView → ℕ → ℕ → Option ServiceRefusal
weight_cause c v slot weight = first_true
    ((v.is_closed, cause_of.Closed)
    ∷ (is_no_slot v slot, cause_of.Tenant slot)
    ∷ (is_bad_weight c.scheduler weight, cause_of.Weight weight)
    ∷ [])

-- the answer to a weight that no cause refuses: it is written down, also where the slot has it already
abbrev pub AnswersWeight : ServiceConfig → ℕ → ServiceView → ℕ → ℕ → ServiceOutcome → ServiceView → Type 0
AnswersWeight c m v slot weight outcome w =
    MakesChange c m v (weight_call c m slot weight) Accepted (λ u. u) outcome w

-- why a limit is refused, if it is
abbrev pub limit_cause : ServiceView → ℕ → Option ServiceRefusal
limit_cause v slot = first_true ((is_no_slot v slot, cause_of.Tenant slot) ∷ [])

-- The answer to a limit that no cause refuses: what the tenant holds may go by the new one. What is forwarded stays
-- so, even where it is more than the new limit.
abbrev pub AnswersLimit : ServiceConfig → ℕ → ServiceView → ℕ → ℕ → ServiceOutcome → ServiceView → Type 0
AnswersLimit c m v slot most outcome w =
    (outcome ≡ Accepted) × Releases c m slot (with_slot v slot (record (slot_at v slot) { limit = most })) w

-- why a number of workers is refused, but for want of room in the scheduler, if it is
abbrev pub workers_cause : ServiceConfig → ServiceView → ℕ → Option ServiceRefusal
workers_cause c v count = first_true
    ((v.is_closed, cause_of.Closed) ∷ (is_outside 1 c.scheduler.workers count, cause_of.Workers count) ∷ [])

-- this number of workers earn and spend from now on
abbrev pub with_count : ℕ → ServiceView → ServiceView
with_count count v = record v { credit = with_workers v.credit count }

-- the answer to a number of workers that no cause refuses: it is written down, also where it is the present one
abbrev pub AnswersWorkers : ServiceConfig → ℕ → ServiceView → ℕ → ServiceOutcome → ServiceView → Type 0
AnswersWorkers c m v count outcome w =
    MakesChange c m v (call.Workers (service_caller c) m count) Accepted (with_count count) outcome w

-- ---- close

abbrev pub close_cause : ServiceView → Option ServiceRefusal
close_cause v = first_true ((v.is_closed, cause_of.Closed) ∷ [])

-- the service is closed, nothing is held, and the scheduler is not yet closed
abbrev pub is_close_due : ServiceView → Bool
is_close_due v = v.is_closed && (not (has_any v is_held) && not (is_closed v.present.history))

-- at the end of a call the scheduler is closed, where that is due: what is held has to be forwarded before
abbrev pub ClosesScheduler : ServiceConfig → ℕ → ServiceView → ServiceView → Type 0
ClosesScheduler c m v w =
    MatchBool (is_close_due v) (MakesNow v (call.Close (service_caller c) m) answer.Accepted w) (w ≡ v)
