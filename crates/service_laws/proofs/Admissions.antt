-- Who is refused by the room, and what a flood leaves to others.
use Rattle.std.proofs.Common.{ℕ, ◌≡◌, ◌<◌, Bool, true, false, List, [], ◌∷◌, Option, Some, None, refl, sym, ap, subst, length, arith, inl, inr}
use Rattle.std.specs.Prelude.{◌||◌, ◌==◌, not, nat_lt, nat_le}
use Rattle.vt_fixed.specs.declared.limits.TheConstants.{GREATEST_COST}
use Rattle.service_model.specs.declared.limits.TheConstants.{MOST_TICKETS}
use Rattle.waiting_room.specs.declared.refusal.Refusal.{Refusal}
use Rattle.waiting_room.specs.Room.{own_places, waiting_of, refusal}
use Rattle.waiting_room.proofs.Always as always
use Rattle.fq_model.specs.declared.event.Reply.{Reply}
use Rattle.fq_model.specs.Rows.{first_true}
use Rattle.service_model.specs.declared.call.ServiceCall.{ServiceCall}
use Rattle.service_model.specs.declared.call.ServiceCall.TheVariants as call
use Rattle.service_model.specs.declared.config.ServiceConfig.{ServiceConfig}
use Rattle.service_model.specs.declared.outcome.ServiceOutcome.{ServiceOutcome}
use Rattle.service_model.specs.declared.outcome.ServiceOutcome.TheVariants as told
use Rattle.service_model.specs.declared.refusal.ServiceRefusal.{ServiceRefusal}
use Rattle.service_model.specs.declared.refusal.ServiceRefusal.TheVariants as cause_of
use Rattle.service_model.specs.View.{Held, Admitted, ServiceView, has_tenant}
use Rattle.service_model.specs.Opening.{service_fault}
use Rattle.service_model.specs.Moments.{at_moment}
use Rattle.service_model.specs.Room.{room_of}
use Rattle.service_model.specs.Rows.{RefusedOrElse}
use Rattle.service_model.specs.Limits.{goes_at_once}
use Rattle.service_model.specs.Submission.{is_before, moment_of_deadline, has_generation, is_too_many, is_tenant_full, submit_cause, IsAdmitted, IsForwardedBy, GoesAtOnce, AnswersSubmit}
use Rattle.service_model.specs.Answers.{coming, AnswersAt}
use Rattle.service_model.specs.Runs.{Step, IsRun, moment_of_step}
use Rattle.service_model.specs.Laws.{IsRoomRefusal, IsSubmitFor, OwnPlacesAreKept}
use Rattle.service_laws.proofs.Lists.{either, not_both, some_same}
use Rattle.service_laws.proofs.Outcomes.{forwarded_or_full}
use Rattle.service_laws.proofs.Moves.{first_of_both}
use Rattle.service_laws.proofs.Rooms.{HasRoom, size_is, slot_is_there}
use Rattle.service_laws.proofs.RoomLaws.{named_fits, has_room}

-- ---- refusals by the room

-- a cause that is the room's
abbrev IsRoomCause : ServiceRefusal → Type 0
IsRoomCause cause_of.TooManyWait = Unit {0}
IsRoomCause cause_of.TenantFull = Unit {0}
IsRoomCause _ = ⊥

-- an outcome that is no refusal by the room
abbrev IsElse : ServiceOutcome → Type 0
IsElse (told.Refused cause_of.TooManyWait) = ⊥
IsElse (told.Refused cause_of.TenantFull) = ⊥
IsElse _ = Unit {0}

not_by_room : (o : ServiceOutcome) → IsElse o → IsRoomRefusal o → ⊥
not_by_room o else (inl e) = subst IsElse e else
not_by_room o else (inr e) = subst IsElse e else

-- the room's rows of the causes of a submit are false, or an earlier one is true
cause_is_else : (b1 b2 b3 b4 b5 b6 b7 b8 : Bool) (slot kind declared late : ℕ) (cause : ServiceRefusal)
    → (b2 ≡ false → (b6 ≡ false) × (b7 ≡ false))
    → first_true
    ((b1, cause_of.Closed) ∷ (b2, cause_of.Tenant slot) ∷ (b3, cause_of.Kind kind) ∷ (b4, cause_of.Cost declared)
    ∷ (b5, cause_of.Late late) ∷ (b6, cause_of.TooManyWait) ∷ (b7, cause_of.TenantFull) ∷ (b8, cause_of.Full) ∷ [])
    ≡ Some cause
    → IsElse (told.Refused cause)
cause_is_else true b2 b3 b4 b5 b6 b7 b8 slot kind declared late cause h e = subst (λ r. IsElse (told.Refused r)) (some_same cause_of.Closed cause e) tt
cause_is_else false true b3 b4 b5 b6 b7 b8 slot kind declared late cause h e = subst (λ r. IsElse (told.Refused r)) (some_same (cause_of.Tenant slot) cause e) tt
cause_is_else false false true b4 b5 b6 b7 b8 slot kind declared late cause h e = subst (λ r. IsElse (told.Refused r)) (some_same (cause_of.Kind kind) cause e) tt
cause_is_else false false false true b5 b6 b7 b8 slot kind declared late cause h e = subst (λ r. IsElse (told.Refused r)) (some_same (cause_of.Cost declared) cause e) tt
cause_is_else false false false false true b6 b7 b8 slot kind declared late cause h e = subst (λ r. IsElse (told.Refused r)) (some_same (cause_of.Late late) cause e) tt
cause_is_else false false false false false true b7 b8 slot kind declared late cause h e = absurd (not_both true refl ((h refl).0))
cause_is_else false false false false false false true b8 slot kind declared late cause h e = absurd (not_both true refl ((h refl).1))
cause_is_else false false false false false false false true slot kind declared late cause h e = subst (λ r. IsElse (told.Refused r)) (some_same cause_of.Full cause e) tt
cause_is_else false false false false false false false false slot kind declared late cause h e = let k : None ≡ Some cause = e in absurd (cc)

forwarded_is_else : (r : Reply) (v : ServiceView) (m : ℕ) (q : Admitted) (o : ServiceOutcome) (w : ServiceView)
    → IsForwardedBy r v m q o w → IsElse o
forwarded_is_else r v m q o w x = elim (forwarded_or_full r v m q o w x) [
  | inl y ↦ subst IsElse (sym y.1.0) tt
  | inr y ↦ subst IsElse (sym y.0) tt
]

submitted_is_else : (c : ServiceConfig) (m : ℕ) (v : ServiceView) (q : Admitted) (o : ServiceOutcome) (w : ServiceView)
    → AnswersSubmit c m v q o w → IsElse o
submitted_is_else c m v q o w =
    either (goes_at_once c v q.slot q.kind) (GoesAtOnce c m v q o w) (IsAdmitted v m q Held o w) (IsElse o)
    (λ _ x. forwarded_is_else x.reply x.made m q o w x.answered)
    (λ _ x. subst IsElse (sym x.0) tt)

-- ---- own places

false_if : (r : Option Refusal) → r ≡ None → (is_too_many r ≡ false) × (is_tenant_full r ≡ false)
false_if r e = (ap is_too_many e, ap is_tenant_full e)

true_if : (b : Bool) → not b ≡ false → b ≡ true
true_if true e = refl
true_if false e = sym e

module _ (c : ServiceConfig) (sound : service_fault c ≡ None) (v : ServiceView) (h : HasRoom c v) where
  -- a tenant with own places free is let in
  is_let_in : (slot : ℕ) → c.room_per_tenant ≡ 0 → slot < length v.slots
      → waiting_of (room_of c v) slot < own_places (room_of c v) → refusal (room_of c v) slot ≡ None
  is_let_in slot shared within own =
      subst
      (λ r. slot < length r.waiting → r.per_tenant ≡ 0 → waiting_of r slot < own_places r → refusal r slot ≡ None)
      h.room
      (always.own_places_are_kept c.scheduler.requests (length c.scheduler.weights) c.room_per_tenant h.steps h.run slot)
      (omega (arith, within, size_is c v))
      shared
      own

  of_generation : (slot generation : ℕ) → not (has_generation c v slot generation) ≡ false → slot < length v.slots
  of_generation slot generation e =
      slot_is_there c (named_fits c sound) v slot h.slots
      (first_of_both (has_tenant c.named v slot) _ (true_if (has_generation c v slot generation) e))

  by_causes : (why : Option ServiceRefusal) (m generation : ℕ) (q : Admitted) (o : ServiceOutcome) (w : ServiceView)
      → c.room_per_tenant ≡ 0 → waiting_of (room_of c v) q.slot < own_places (room_of c v)
      → submit_cause c v m generation q ≡ why → RefusedOrElse why v o w (AnswersSubmit c m v q o w) → IsElse o
  by_causes None m generation q o w shared own e x = submitted_is_else c m v q o w x
  by_causes (Some cause) m generation q o w shared own e x =
      subst IsElse (sym x.0)
      (cause_is_else v.is_closed (not (has_generation c v q.slot generation)) (nat_le c.scheduler.kinds q.kind)
      ((q.declared == 0) || nat_lt GREATEST_COST q.declared) (is_before q.deadline m)
      (is_too_many (refusal (room_of c v) q.slot)) (is_tenant_full (refusal (room_of c v) q.slot))
      (nat_le MOST_TICKETS (length v.admitted)) q.slot q.kind q.declared (moment_of_deadline q.deadline) cause
      (λ known. false_if (refusal (room_of c v) q.slot)
      (is_let_in q.slot shared (of_generation q.slot generation known) own))
      e)

  pub by_call : (m : ℕ) (asked : ServiceCall) (o : ServiceOutcome) (w : ServiceView) (slot : ℕ)
      → c.room_per_tenant ≡ 0 → IsSubmitFor slot asked → waiting_of (room_of c v) slot < own_places (room_of c v)
      → AnswersAt c m v asked o w → IsElse o
  by_call m (call.Submit moment s generation kind declared deadline label) o w slot shared is own x =
      let q : Admitted = coming m s kind declared deadline label in
      by_causes (submit_cause c v m generation q) m generation q o w shared
      (subst (λ n. waiting_of (room_of c v) n < own_places (room_of c v)) (sym (some_same s slot is)) own)
      refl x
  by_call m (call.Cancel moment ticket) o w slot shared is own x = let k : None ≡ Some slot = is in absurd (cc)
  by_call m (call.Next moment) o w slot shared is own x = let k : None ≡ Some slot = is in absurd (cc)
  by_call m (call.Used moment worker cost) o w slot shared is own x = let k : None ≡ Some slot = is in absurd (cc)
  by_call m (call.Finish moment worker cost) o w slot shared is own x = let k : None ≡ Some slot = is in absurd (cc)
  by_call m (call.Join moment weight) o w slot shared is own x = let k : None ≡ Some slot = is in absurd (cc)
  by_call m (call.Weight moment s weight) o w slot shared is own x = let k : None ≡ Some slot = is in absurd (cc)
  by_call m (call.Limit moment s most) o w slot shared is own x = let k : None ≡ Some slot = is in absurd (cc)
  by_call m (call.Workers moment count) o w slot shared is own x = let k : None ≡ Some slot = is in absurd (cc)
  by_call m (call.Close moment) o w slot shared is own x = let k : None ≡ Some slot = is in absurd (cc)

-- the room before the newest step
pub room_before : (c : ServiceConfig) (step : Step) (older : List Step) → service_fault c ≡ None → IsRun c (step ∷ older)
    → HasRoom c step.before
room_before c step older sound run = subst (HasRoom c) (sym run.1) (has_room c sound older run.0)

-- a service has the same room at a later moment
pub room_at : (c : ServiceConfig) (v : ServiceView) (m : ℕ) → HasRoom c v → HasRoom c (at_moment v m)
room_at c v m h = record { slots = h.slots; known = h.known; steps = h.steps; run = h.run; room = h.room }

pub own_places_are_kept : OwnPlacesAreKept
own_places_are_kept c step older sound run slot shared is own =
    let m : ℕ = moment_of_step step in
    let v : ServiceView = at_moment step.before m in
    not_by_room step.outcome
    (by_call c sound v (room_at c step.before m (room_before c step older sound run)) m step.asked step.outcome
    run.2.answered slot shared is own run.2.answers)
