-- Each call is answered by moves.
use Rattle.std.proofs.Common.{ℕ, zero, suc, ◌≡◌, ◌∙◌, Bool, true, false, List, [], ◌∷◌, ◌++◌, Option, Some, None, refl, sym, ap, subst, length, inl, inr}
use Rattle.std.specs.Prelude.{◌==◌, ◌&&◌, ◌||◌, not, slice_get, slice_index_or, nat_lt, is_none}
use Rattle.std.specs.List.{FoldsTo, range_with_len}
use Rattle.std.proofs.lemmas.List.{length-set}
use Rattle.waiting_room.specs.declared.refusal.Refusal.{Refusal}
use Rattle.waiting_room.specs.declared.refusal.Refusal.TheVariants as room
use Rattle.waiting_room.specs.Room.{refusal}
use Rattle.fq_model.specs.declared.event.Call.{Call}
use Rattle.fq_model.specs.declared.event.Call.TheVariants as call_of
use Rattle.fq_model.specs.declared.event.Reply.{Reply}
use Rattle.fq_model.specs.declared.event.Reply.TheVariants as answer
use Rattle.fq_model.specs.History.{weight_at}
use Rattle.fq_model.specs.Rows.{first_true}
use Rattle.fq_model.specs.Sums.{list_below}
use Rattle.service_model.specs.declared.call.ServiceCall.{ServiceCall}
use Rattle.service_model.specs.declared.call.ServiceCall.TheVariants as call
use Rattle.service_model.specs.declared.config.ServiceConfig.{ServiceConfig}
use Rattle.service_model.specs.declared.outcome.ServiceOutcome.{ServiceOutcome}
use Rattle.service_model.specs.declared.outcome.ServiceOutcome.TheVariants as told
use Rattle.service_model.specs.declared.refusal.ServiceRefusal.{ServiceRefusal}
use Rattle.service_model.specs.View.{Run, Standing, Held, Forwarded, Runs, Ended, Withdrawn, Admitted, SlotView, ServiceView, stands_held, stands_forwarded, is_waiting, of_slot, has_tenant, slot_at, ticket_on, with_standing, with_slot, runs_before}
use Rattle.service_model.specs.Rows.{RefusedOrElse}
use Rattle.worker_reserve.specs.Reserve.{with_end}
use Rattle.service_model.specs.Moments.{at_moment}
use Rattle.service_model.specs.Idling.{with_end_of}
use Rattle.service_model.specs.Room.{room_of, waiting_in}
use Rattle.service_model.specs.Rolling.{submit_call, MakesWithRoom}
use Rattle.service_model.specs.Limits.{passes, goes_at_once, Releases}
use Rattle.service_model.specs.Submission.{has_generation, is_too_many, is_tenant_full, submit_causes, submit_cause, slot_after, with_admitted, IsAdmitted, IsForwardedBy, GoesAtOnce, AnswersSubmit}
use Rattle.service_model.specs.Reports.{with_named, use_of, NamesUse, AnswersUsed}
use Rattle.service_model.specs.Finishing.{finished, with_ended, cost_at_end, Finishes}
use Rattle.service_model.specs.Changes.{IsChangedBy, MakesChange, JoinsFirst, joined, joinable, with_count, next_tenant, join_cause, weight_cause, limit_cause, workers_cause, close_cause, AnswersLimit, is_close_due, ClosesScheduler}
use Rattle.service_model.specs.Deadlines.{is_late as late_at, has_late, WithdrawsLate}
use Rattle.service_model.specs.Granting.{may_grant, Grants, AsksWorkers, Rests, AnswersNext, with_declining, is_visitor}
use Rattle.service_model.specs.Answers.{coming, AnswersAt, Answers, moment_of_call}
use Rattle.service_laws.proofs.Lists.{either}
use Rattle.service_laws.proofs.Outcomes.{forwarded_or_full, changed_or_full}
use Rattle.service_laws.proofs.Refreshed.{SameRequests, requests_stay, made_now, made_at, reported, refreshed}
use Rattle.service_laws.proofs.Rolled.{IsBlind, with_room_slots, with_room_count}
use Rattle.service_laws.proofs.Moves.{Becomes, IsLetGo, passes_after, Stays, Admits, IsClosed, making, end_stays, first_of_both, equal, onto, with_room, turned, releases, withdraws, cancels}

-- ---- the room of a service whose requests got other numbers

list_below_same : (f g : ℕ → ℕ) → ((i : ℕ) → f i ≡ g i) → (n : ℕ) → list_below f n ≡ list_below g n
unfolding list_below
list_below_same f g e zero = refl
list_below_same f g e (suc n) =
    ap (λ l. l ++ f n ∷ []) (list_below_same f g e n) ∙ ap (λ x. list_below g n ++ x ∷ []) (e n)

waits_forwarded : (s : Standing) → stands_forwarded s ≡ true → stands_held s || stands_forwarded s ≡ true
waits_forwarded Held e = refl
waits_forwarded (Forwarded request) e = refl
waits_forwarded (Runs run) e = e
waits_forwarded Ended e = e
waits_forwarded Withdrawn e = e

pub waiting_is_blind : (slot : ℕ) → IsBlind (of_slot slot is_waiting)
waiting_is_blind slot q n e = ap (λ b. (q.slot == slot) && b) (sym (waits_forwarded q.stands e))

pub room_same : (c : ServiceConfig) (m : ℕ) (v : ServiceView) (asked : Call) (r : Reply) (w : ServiceView)
    → MakesWithRoom c m v asked r w → room_of c w ≡ room_of c v
room_same c m v asked r w x =
    ap (λ l. record { places = c.scheduler.requests; per_tenant = c.room_per_tenant; waiting = l })
    (ap (λ s. list_below (waiting_in w) (length s)) (with_room_slots c m v asked r w x)
    ∙ list_below_same (waiting_in w) (waiting_in v)
    (λ slot. with_room_count (of_slot slot is_waiting) (waiting_is_blind slot) c m v asked r w x)
    (length v.slots))

-- ---- what a submit that no cause refuses says

abbrev pub AllFalse : {A : Type 0} → List (Bool × A) → Type 0
AllFalse [] = Unit {0}
AllFalse (row ∷ rows) = (row.0 ≡ false) × AllFalse rows

pub none_holds : {A : Type 0} (rows : List (Bool × A)) → first_true rows ≡ None → AllFalse rows
none_holds [] e = tt
none_holds ((true, a) ∷ rows) e = let k : Some a ≡ None = e in absurd (cc)
none_holds ((false, a) ∷ rows) e = (refl, none_holds rows e)

not_refused : (r : Option Refusal) → is_too_many r ≡ false → is_tenant_full r ≡ false → r ≡ None
not_refused None e f = refl
not_refused (Some room.TooManyWait) e f = let k : true ≡ false = e in absurd (cc)
not_refused (Some room.TenantFull) e f = let k : true ≡ false = f in absurd (cc)

not_false : (b : Bool) → not b ≡ false → b ≡ true
not_false true e = refl
not_false false e = sym e

pub record IsLetIn (c : ServiceConfig) (v : ServiceView) (q : Admitted) : Type 0 where
  pub has_tenant : has_tenant c.named v q.slot ≡ true
  pub enters : refusal (room_of c v) q.slot ≡ None

pub let_in : (c : ServiceConfig) (v : ServiceView) (m generation : ℕ) (q : Admitted)
    → submit_cause c v m generation q ≡ None → IsLetIn c v q
let_in c v m generation q e =
    let none = none_holds (submit_causes c v m generation q) e in
    let room_lets = none.1.1.1.1.1 in
    record {
      has_tenant =
          first_of_both (has_tenant c.named v q.slot) _ (not_false (has_generation c v q.slot generation) none.1.0);
      enters = not_refused (refusal (room_of c v) q.slot) room_lets.0 room_lets.1.0;
    }

-- it is admitted, and stands here
abbrev pub admits_of : (c : ServiceConfig) (v : ServiceView) (m : ℕ) (q : Admitted) (next : Standing) → IsLetIn c v q
    → is_waiting (record q { stands = next }) ≡ true → IsLetGo next (passes c v q.slot q.kind ≡ true)
    → Admits c v (with_admitted v m (record q { stands = next }))
admits_of c v m q next known waits let_go = record {
  schedulers = record { present = refl; former = refl };
  q = record q { stands = next };
  has_tenant = known.has_tenant;
  enters = known.enters;
  waits = waits;
  let_go = let_go;
  admitted = refl;
  slots = length-set v.slots q.slot (slot_after v q.slot m);
}

-- what goes at once passes the limits
pub at_once : (c : ServiceConfig) (v : ServiceView) (slot kind : ℕ) → goes_at_once c v slot kind ≡ true
    → passes c v slot kind ≡ true
at_once c v slot kind e = first_of_both (passes c v slot kind) _ e

-- a request that was let in before the scheduler made the call
pub let_in_after : (c : ServiceConfig) (m : ℕ) (v : ServiceView) (asked : Call) (r : Reply) (u : ServiceView)
    (q : Admitted) → MakesWithRoom c m v asked r u → IsLetIn c v q → IsLetIn c u q
let_in_after c m v asked r u q x known = record {
  has_tenant =
      ap (λ s. nat_lt q.slot c.named || nat_lt 0 (slice_index_or s q.slot none).generation)
      (with_room_slots c m v asked r u x)
      ∙ known.has_tenant;
  enters = ap (λ r. refusal r q.slot) (room_same c m v asked r u x) ∙ known.enters;
}
  where
    none : SlotView
    none = record { generation = 0; limit = 0; began_to_wait = None }

module _ (c : ServiceConfig) (R : ServiceView → ServiceView → Type 0) (k : IsClosed c R) where
  -- ---- submit

  is_admitted : (v : ServiceView) (m : ℕ) (q : Admitted) (next : Standing) (o : ServiceOutcome) (w : ServiceView)
      → IsLetIn c v q → is_waiting (record q { stands = next }) ≡ true → IsLetGo next (passes c v q.slot q.kind ≡ true)
      → IsAdmitted v m q next o w → R v w
  is_admitted v m q next o w known waits let_go x =
      let u : ServiceView = with_admitted v m (record q { stands = next }) in
      onto c R k v u w (k.admits v u (admits_of c v m q next known waits let_go)) x.1

  by_reply : (r : Reply) (v : ServiceView) (m : ℕ) (q : Admitted) (o : ServiceOutcome) (w : ServiceView)
      → IsLetIn c v q → passes c v q.slot q.kind ≡ true → IsForwardedBy r v m q o w → R v w
  by_reply r v m q o w known let_go x = elim (forwarded_or_full r v m q o w x) [
    | inl y ↦ is_admitted v m q (Forwarded y.0) o w known refl let_go y.1
    | inr y ↦ equal c R k v w y.1
  ]

  submits : (m : ℕ) (v : ServiceView) (q : Admitted) (o : ServiceOutcome) (w : ServiceView) → IsLetIn c v q
      → AnswersSubmit c m v q o w → R v w
  submits m v q o w known =
      either (goes_at_once c v q.slot q.kind) (GoesAtOnce c m v q o w) (IsAdmitted v m q Held o w) (R v w)
      (λ go x. k.joins v x.made w
      (with_room c R k m v (submit_call c m q) x.reply x.made x.makes)
      (by_reply x.reply x.made m q o w
      (let_in_after c m v (submit_call c m q) x.reply x.made q x.makes known)
      (passes_after c m v (submit_call c m q) x.reply x.made q x.makes (at_once c v q.slot q.kind go)) x.answered))
      (λ _ x. is_admitted v m q Held o w known refl tt x)

  comes : (why : Option ServiceRefusal) (m : ℕ) (v : ServiceView) (generation : ℕ) (q : Admitted)
      (o : ServiceOutcome) (w : ServiceView) → submit_cause c v m generation q ≡ why
      → RefusedOrElse why v o w (AnswersSubmit c m v q o w) → R v w
  comes None m v generation q o w e x = submits m v q o w (let_in c v m generation q e) x
  comes (Some cause) m v generation q o w e x = equal c R k v w x.1

  -- ---- changes

  by_change : (r : Reply) (wanted : ServiceOutcome) (change : ServiceView → ServiceView) (v : ServiceView)
      (o : ServiceOutcome) (w : ServiceView) → ((u : ServiceView) → Stays u (change u))
      → IsChangedBy r wanted change v o w → R v w
  by_change r wanted change v o w stay x = elim (changed_or_full r wanted change v o w x) [
    | inl y ↦ onto c R k v (change v) w (k.stays v (change v) (stay v)) y.1
    | inr y ↦ equal c R k v w y.1
  ]

  changes : (m : ℕ) (v : ServiceView) (asked : Call) (wanted : ServiceOutcome) (change : ServiceView → ServiceView)
      (o : ServiceOutcome) (w : ServiceView) → ((u : ServiceView) → Stays u (change u))
      → MakesChange c m v asked wanted change o w → R v w
  changes m v asked wanted change o w stay x =
      k.joins v x.made w
      (with_room c R k m v asked x.reply x.made x.makes)
      (by_change x.reply wanted change x.made o w stay x.answered)

  joined_stays : (slot : ℕ) (u : ServiceView) → Stays u (joined c slot u)
  joined_stays slot u = record { schedulers = record { present = refl; former = refl }; admitted = refl; slots = length-set u.slots slot _ }

  joins_first : (m : ℕ) (v : ServiceView) (weight : ℕ) (slots : List ℕ) (o : ServiceOutcome) (w : ServiceView)
      → JoinsFirst c m v weight slots o w → R v w
  joins_first m v weight [] o w x = absurd x
  joins_first m v weight (slot ∷ slots) o w x =
      either (weight_at v.present.config v.present.history slot == weight) _ _ (R v w)
      (λ _ y. onto c R k v (joined c slot v) w (k.stays v (joined c slot v) (joined_stays slot v)) y.1)
      (λ _ y. changes m v _ (next_tenant v slot) (joined c slot) o w (joined_stays slot) y)
      x

  refused_or : (why : Option ServiceRefusal) (v : ServiceView) (o : ServiceOutcome) (w : ServiceView) (A : Type 0)
      → (A → R v w) → RefusedOrElse why v o w A → R v w
  refused_or None v o w A f x = f x
  refused_or (Some cause) v o w A f x = equal c R k v w x.1

  -- ---- uses and ends

  names_use : (m : ℕ) (v : ServiceView) (worker used : ℕ) (w : ServiceView) → NamesUse c m v worker used w → R v w
  names_use m v worker used w x =
      let later : Run = with_named x.run used in
      let u : ServiceView = with_standing v x.ticket x.q (Runs later) in
      k.joins v u w
      (turned c R k v u x.ticket x.q (Runs later) x.runs.admitted
      (subst (λ s. Becomes s (Runs later)) (sym x.runs.stands) refl) tt (record { present = refl; former = refl }) refl refl)
      (reported R (making c R k) c m u x.run used w x.reports)

  uses : (m : ℕ) (v : ServiceView) (worker cost : ℕ) (o : ServiceOutcome) (w : ServiceView)
      → AnswersUsed c m v worker cost o w → R v w
  uses m v worker cost o w =
      either (is_none (ticket_on v worker)) _ _ (R v w)
      (λ _ x. equal c R k v w x.1)
      (λ _ x. either (cost == 0) _ _ (R v w)
      (λ _ y. equal c R k v w y)
      (λ _ y. names_use m v worker (use_of cost) w y)
      x.1)

  releases_each : (m : ℕ) (slots : List ℕ) (v w : ServiceView)
      → FoldsTo (λ u slot x. Releases c m slot u x) v slots w → R v w
  releases_each m [] v w x = equal c R k v w (sym x)
  releases_each m (slot ∷ slots) v w x =
      k.joins v x.0 w (releases c R k m slot v x.0 x.1) (releases_each m slots x.0 w x.2)

  finishes : (m : ℕ) (v : ServiceView) (worker cost : ℕ) (w : ServiceView) → Finishes c m v worker cost w → R v w
  finishes m v worker cost w x =
      let cost_is : ℕ = cost_at_end v x.run cost in
      let asked = call_of.Done worker m worker cost_is in
      let made = made_at SameRequests requests_stay v x.run.scheduler asked answer.Accepted x.made x.makes in
      let there = ap (λ l. slice_get l x.ticket) made.admitted ∙ x.runs.admitted in
      let t : ServiceView = record (with_standing x.made x.ticket x.q Ended) {
        reserve = with_end x.made.reserve (finished m x.run cost_is);
      } in
      let ended : R x.made x.ended =
      onto c R k x.made (with_ended m x.made x.ticket x.q x.run cost_is) x.ended
      (k.joins x.made t (with_ended m x.made x.ticket x.q x.run cost_is)
      (turned c R k x.made t x.ticket x.q Ended there (subst (λ s. Becomes s Ended) (sym x.runs.stands) tt) tt (record { present = refl; former = refl }) refl refl)
      (k.stays t (with_end_of t x.q.slot) (end_stays t x.q.slot)))
      x.ended_is in
      let released : R v x.released =
      k.joins v x.made x.released (made_at R (making c R k) v x.run.scheduler asked answer.Accepted x.made x.makes)
      (k.joins x.made x.ended x.released ended (releases c R k m x.q.slot x.ended x.released x.releases)) in
      k.joins v x.released w released
      (either (runs_before v && not (runs_before x.ended)) _ _ (R x.released w)
      (λ _ y. releases_each m (range_with_len 0 (length x.released.slots)) x.released w y)
      (λ _ y. equal c R k x.released w y)
      x.releases_each)

  -- ---- next

  grants : (m : ℕ) (v : ServiceView) (worker : ℕ) (o : ServiceOutcome) (w : ServiceView) → Grants m v worker o w → R v w
  grants m v worker o w x =
      let asked = call_of.Take worker m worker in
      let reply = answer.Run x.request x.estimate x.q.label in
      let made = made_now v asked reply x.made x.makes in
      let there = ap (λ l. slice_get l x.ticket) made.admitted ∙ x.admitted in
      let run : Run = record {
        scheduler = v.rolls;
        request = x.request;
        worker = worker;
        taken = m;
        estimate = x.estimate;
        is_visitor = is_visitor v x.q.slot m;
        named = 0;
      } in
      let u : ServiceView = record (with_standing x.made x.ticket x.q (Runs run)) { declining = 0 } in
      k.joins v x.made w
      (k.makes_now v asked reply x.made x.makes)
      (onto c R k x.made u w
      (turned c R k x.made u x.ticket x.q (Runs run) there (subst (λ s. Becomes s (Runs run)) (sym x.stands) tt) tt (record { present = refl; former = refl }) refl refl)
      x.after)

  rests : (m : ℕ) (v : ServiceView) (declining : ℕ) (o : ServiceOutcome) (w : ServiceView) → Rests m v declining o w
      → R v w
  rests m v declining o w x =
      onto c R k v (with_declining v m declining) w
      (k.stays v (with_declining v m declining) (record { schedulers = record { present = refl; former = refl }; admitted = refl; slots = refl }))
      x.1

  asks : (m : ℕ) (v : ServiceView) (o : ServiceOutcome) (w : ServiceView) → AsksWorkers c m v o w → R v w
  asks m v o w x =
      k.joins v x.fresh w
      (refreshed R (making c R k) c m v x.fresh x.refreshes)
      (elim x.asks [
        | inl takes ↦ grants m x.fresh takes.worker o w takes.grants
        | inr all ↦ rests m x.fresh _ o w all.1
      ])

  is_late_waits : (q : Admitted) (m : ℕ) → late_at m q ≡ true → is_waiting q ≡ true
  is_late_waits q m e = first_of_both (is_waiting q) _ e

  is_late : (m : ℕ) (v : ServiceView) (o : ServiceOutcome) (w : ServiceView) → WithdrawsLate c m v o w → R v w
  is_late m v o w x =
      let u : ServiceView = record v { declining = 0 } in
      k.joins v u w
      (k.stays v u (record { schedulers = record { present = refl; former = refl }; admitted = refl; slots = refl }))
      (withdraws c R k m u x.ticket x.q w x.first.late.admitted (is_late_waits x.q m x.first.late.late) x.withdraws)

  nexts : (m : ℕ) (v : ServiceView) (o : ServiceOutcome) (w : ServiceView) → AnswersNext c m v o w → R v w
  nexts m v o w x =
      either (has_late v m) (WithdrawsLate c m v o w) _ (R v w)
      (λ _ y. is_late m v o w y)
      (λ _ y. either (may_grant v) (AsksWorkers c m v o w) (Rests m v 0 o w) (R v w)
      (λ _ z. asks m v o w z)
      (λ _ z. rests m v 0 o w z)
      y)
      x

  -- ---- all calls

  at : (m : ℕ) (v : ServiceView) (asked : ServiceCall) (o : ServiceOutcome) (w : ServiceView)
      → AnswersAt c m v asked o w → R v w
  at m v (call.Submit moment slot generation kind declared deadline label) o w x =
      let q : Admitted = coming m slot kind declared deadline label in
      comes (submit_cause c v m generation q) m v generation q o w refl x
  at m v (call.Cancel moment ticket) o w x =
      cancels c R k m v ticket (slice_get v.admitted ticket) o w refl x
  at m v (call.Next moment) o w x = nexts m v o w x
  at m v (call.Used moment worker cost) o w x = uses m v worker cost o w x
  at m v (call.Finish moment worker cost) o w x =
      either (is_none (ticket_on v worker)) _ _ (R v w)
      (λ _ y. equal c R k v w y.1)
      (λ _ y. finishes m v worker cost w y.1)
      x
  at m v (call.Join moment weight) o w x =
      refused_or (join_cause c v weight) v o w _ (joins_first m v weight (joinable c v) o w) x
  at m v (call.Weight moment slot weight) o w x =
      refused_or (weight_cause c v slot weight) v o w _
      (changes m v _ told.Accepted (λ u. u) o w (λ u. record { schedulers = record { present = refl; former = refl }; admitted = refl; slots = refl }))
      x
  at m v (call.Limit moment slot most) o w x =
      refused_or (limit_cause v slot) v o w (AnswersLimit c m v slot most o w)
      (λ y.
      let u : ServiceView = with_slot v slot (record (slot_at v slot) { limit = most }) in
      k.joins v u w
      (k.stays v u (record { schedulers = record { present = refl; former = refl }; admitted = refl; slots = length-set v.slots slot _ }))
      (releases c R k m slot u w y.1))
      x
  at m v (call.Workers moment count) o w x =
      refused_or (workers_cause c v count) v o w _
      (changes m v _ told.Accepted (with_count count) o w (λ u. record { schedulers = record { present = refl; former = refl }; admitted = refl; slots = refl }))
      x
  at m v (call.Close moment) o w x =
      let u : ServiceView = record v { is_closed = true } in
      refused_or (close_cause v) v o w _
      (λ y. onto c R k v u w (k.stays v u (record { schedulers = record { present = refl; former = refl }; admitted = refl; slots = refl })) y.1)
      x

  closes : (m : ℕ) (v w : ServiceView) → ClosesScheduler c m v w → R v w
  closes m v w =
      either (is_close_due v) _ _ (R v w)
      (λ _ x. k.makes_now v _ _ w x)
      (λ _ x. equal c R k v w x)

  -- an answer is moves, one after another
  pub answers : (v : ServiceView) (asked : ServiceCall) (o : ServiceOutcome) (w : ServiceView) → Answers c v asked o w
      → R v w
  answers v asked o w x =
      let m : ℕ = moment_of_call v asked in
      let u : ServiceView = at_moment v m in
      k.joins v u w
      (k.stays v u (record { schedulers = record { present = refl; former = refl }; admitted = refl; slots = refl }))
      (k.joins u x.answered w (at m u asked o x.answered x.answers) (closes m x.answered w x.closes))
