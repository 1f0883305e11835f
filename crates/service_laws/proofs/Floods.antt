-- A flood of one tenant leaves half of the shared places to others.
use Rattle.std.proofs.Common.{ℕ, ◌≡◌, ◌∙◌, ◌+◌, ◌<◌, ◌≤◌, true, Option, Some, None, refl, sym, ap, subst, length, arith, inl, inr}
use Rattle.std.specs.List.{count_by}
use Rattle.waiting_room.specs.Room.{own_places, waiting_of, refusal, entered, shared_of, shared_free}
use Rattle.waiting_room.proofs.Always as always
use Rattle.fq_model.specs.declared.event.Reply.{Reply}
use Rattle.service_model.specs.declared.call.ServiceCall.{ServiceCall}
use Rattle.service_model.specs.declared.call.ServiceCall.TheVariants as call
use Rattle.service_model.specs.declared.config.ServiceConfig.{ServiceConfig}
use Rattle.service_model.specs.declared.outcome.ServiceOutcome.{ServiceOutcome}
use Rattle.service_model.specs.declared.outcome.ServiceOutcome.TheVariants as told
use Rattle.service_model.specs.declared.refusal.ServiceRefusal.{ServiceRefusal}
use Rattle.service_model.specs.View.{Standing, Held, Forwarded, Admitted, ServiceView, of_slot, is_waiting}
use Rattle.service_model.specs.Opening.{service_fault}
use Rattle.service_model.specs.Moments.{at_moment}
use Rattle.service_model.specs.Room.{room_of}
use Rattle.service_model.specs.Rows.{RefusedOrElse}
use Rattle.service_model.specs.Rolling.{submit_call}
use Rattle.service_model.specs.Limits.{passes, goes_at_once}
use Rattle.service_model.specs.Submission.{submit_cause, with_admitted, IsAdmitted, IsForwardedBy, GoesAtOnce, AnswersSubmit}
use Rattle.service_model.specs.Changes.{is_close_due, ClosesScheduler}
use Rattle.service_model.specs.Answers.{coming, AnswersAt}
use Rattle.service_model.specs.Runs.{moment_of_step}
use Rattle.service_model.specs.Laws.{IsSubmitFor, FloodsAreHalved}
use Rattle.service_laws.proofs.Lists.{either, some_same}
use Rattle.service_laws.proofs.Outcomes.{forwarded_or_full}
use Rattle.service_laws.proofs.Refreshed.{SameRequests, made_now}
use Rattle.service_laws.proofs.Rolled.{with_room_slots}
use Rattle.service_laws.proofs.Moves.{IsLetGo, passes_after}
use Rattle.service_laws.proofs.Calls.{IsLetIn, at_once, let_in, let_in_after, admits_of}
use Rattle.service_laws.proofs.Calls as calls
use Rattle.service_laws.proofs.Rooms.{HasRoom, room_same, room_entered, size_is, slot_is_there}
use Rattle.service_laws.proofs.RoomLaws.{named_fits}
use Rattle.service_laws.proofs.Admissions.{room_before, room_at}

abbrev IsTicket : ServiceOutcome → Type 0
IsTicket (told.Ticket ticket) = Unit {0}
IsTicket _ = ⊥

module _ (c : ServiceConfig) (sound : service_fault c ≡ None) where
  -- the request entered the room, which let it in
  record Entered (v : ServiceView) (slot : ℕ) (w : ServiceView) : Type 0 where
    pub within : slot < length v.slots
    pub lets : refusal (room_of c v) slot ≡ None
    pub room : room_of c w ≡ entered (room_of c v) slot

  by_admission : (v : ServiceView) (m : ℕ) (q : Admitted) (next : Standing) (o : ServiceOutcome) (w : ServiceView)
      → length v.slots ≡ length c.scheduler.weights → IsLetIn c v q → is_waiting (record q { stands = next }) ≡ true
      → IsLetGo next (passes c v q.slot q.kind ≡ true) → IsAdmitted v m q next o w → room_of c w ≡ entered (room_of c v) q.slot
  by_admission v m q next o w slots known waits let_go x =
      ap (room_of c) x.1
      ∙ room_entered c (named_fits c sound) v (with_admitted v m (record q { stands = next }))
      (admits_of c v m q next known waits let_go) slots

  module _ (v : ServiceView) (slots : length v.slots ≡ length c.scheduler.weights) (o : ServiceOutcome) (w : ServiceView)
      (ticket : IsTicket o) where
    by_reply : (r : Reply) (u : ServiceView) (m : ℕ) (q : Admitted) → length u.slots ≡ length c.scheduler.weights
        → IsLetIn c u q → passes c u q.slot q.kind ≡ true → IsForwardedBy r u m q o w → room_of c w ≡ entered (room_of c u) q.slot
    by_reply r u m q long known let_go x = elim (forwarded_or_full r u m q o w x) [
      | inl y ↦ by_admission u m q (Forwarded y.0) o w long known refl let_go y.1
      | inr y ↦ absurd (subst IsTicket y.0 ticket)
    ]

    by_submit : (m : ℕ) (q : Admitted) → IsLetIn c v q → AnswersSubmit c m v q o w
        → room_of c w ≡ entered (room_of c v) q.slot
    by_submit m q known =
        either (goes_at_once c v q.slot q.kind) (GoesAtOnce c m v q o w) (IsAdmitted v m q Held o w)
        (room_of c w ≡ entered (room_of c v) q.slot)
        (λ go x.
        by_reply x.reply x.made m q
        (ap length (with_room_slots c m v (submit_call c m q) x.reply x.made x.makes) ∙ slots)
        (let_in_after c m v (submit_call c m q) x.reply x.made q x.makes known)
        (passes_after c m v (submit_call c m q) x.reply x.made q x.makes (at_once c v q.slot q.kind go))
        x.answered
        ∙ ap (λ r. entered r q.slot) (calls.room_same c m v (submit_call c m q) x.reply x.made x.makes))
        (λ _ x. by_admission v m q Held o w slots known refl tt x)

    by_causes : (why : Option ServiceRefusal) (m generation : ℕ) (q : Admitted) → submit_cause c v m generation q ≡ why
        → RefusedOrElse why v o w (AnswersSubmit c m v q o w) → Entered v q.slot w
    by_causes None m generation q e x =
        let known = let_in c v m generation q e in
        record {
          within = slot_is_there c (named_fits c sound) v q.slot slots known.has_tenant;
          lets = known.enters;
          room = by_submit m q known x;
        }
    by_causes (Some cause) m generation q e x = absurd (subst IsTicket x.0 ticket)

    by_call : (m : ℕ) (asked : ServiceCall) (slot : ℕ) → IsSubmitFor slot asked → AnswersAt c m v asked o w
        → Entered v slot w
    by_call m (call.Submit moment s generation kind declared deadline label) slot is x =
        let q : Admitted = coming m s kind declared deadline label in
        subst (λ n. Entered v n w) (some_same s slot is)
        (by_causes (submit_cause c v m generation q) m generation q refl x)
    by_call m (call.Cancel moment t) slot is x = let k : None ≡ Some slot = is in absurd (cc)
    by_call m (call.Next moment) slot is x = let k : None ≡ Some slot = is in absurd (cc)
    by_call m (call.Used moment worker cost) slot is x = let k : None ≡ Some slot = is in absurd (cc)
    by_call m (call.Finish moment worker cost) slot is x = let k : None ≡ Some slot = is in absurd (cc)
    by_call m (call.Join moment weight) slot is x = let k : None ≡ Some slot = is in absurd (cc)
    by_call m (call.Weight moment s weight) slot is x = let k : None ≡ Some slot = is in absurd (cc)
    by_call m (call.Limit moment s most) slot is x = let k : None ≡ Some slot = is in absurd (cc)
    by_call m (call.Workers moment count) slot is x = let k : None ≡ Some slot = is in absurd (cc)
    by_call m (call.Close moment) slot is x = let k : None ≡ Some slot = is in absurd (cc)

  same_room : (v w : ServiceView) → SameRequests v w → room_of c w ≡ room_of c v
  same_room v w s =
      room_same c v w (ap length s.slots) (λ slot. ap (count_by (of_slot slot is_waiting)) s.admitted)

  -- a close of the scheduler leaves the room
  closed_room : (m : ℕ) (v w : ServiceView) → ClosesScheduler c m v w → room_of c w ≡ room_of c v
  closed_room m v w =
      either (is_close_due v) _ _ (room_of c w ≡ room_of c v)
      (λ _ x. same_room v w (made_now v _ _ w x))
      (λ _ x. ap (room_of c) x)

  halved : (v : ServiceView) (slot : ℕ) (w : ServiceView) → HasRoom c v → c.room_per_tenant ≡ 0 → Entered v slot w
      → own_places (room_of c v) ≤ waiting_of (room_of c v) slot
      → shared_of (room_of c w) slot ≤ shared_free (room_of c w) + 1
  halved v slot w h shared e own =
      subst (λ r. shared_of r slot ≤ shared_free r + 1) (sym e.room)
      (subst
      (λ r. slot < length r.waiting → r.per_tenant ≡ 0 → refusal r slot ≡ None → own_places r ≤ waiting_of r slot
      → shared_of (entered r slot) slot ≤ shared_free (entered r slot) + 1)
      h.room
      (always.floods_are_halved c.scheduler.requests (length c.scheduler.weights) c.room_per_tenant h.steps h.run slot)
      (omega (arith, e.within, size_is c v)) shared e.lets own)

pub floods_are_halved : FloodsAreHalved
floods_are_halved c step older sound run slot ticket shared is got own =
    let m : ℕ = moment_of_step step in
    let v : ServiceView = at_moment step.before m in
    let h : HasRoom c v = room_at c step.before m (room_before c step older sound run) in
    let w : ServiceView = run.2.answered in
    let e = by_call c sound v h.slots step.outcome w (subst IsTicket (sym got) tt) m step.asked slot is run.2.answers in
    subst (λ r. shared_of r slot ≤ shared_free r + 1) (sym (closed_room c sound m w step.after run.2.closes))
    (halved c sound v slot w h shared e own)
