-- Each call moves requests in small steps, one after another.
use Rattle.std.proofs.Common.{ℕ, ◌≡◌, ◌∙◌, Bool, true, false, List, [], ◌∷◌, ◌++◌, Option, Some, None, refl, sym, ap, subst, length}
use Rattle.std.specs.Prelude.{◌==◌, ◌&&◌, ◌||◌, not, slice_get, slice_set, slice_index, slice_index_or, if◌then◌else◌}
use Rattle.std.proofs.lemmas.Bool.{eqb-true}
use Rattle.std.proofs.lemmas.List.Quantifiers.{position-Some}
use Rattle.std.proofs.lemmas.Option.{get_or_from_slice_get}
use Rattle.waiting_room.specs.Room.{refusal}
use Rattle.fq_model.specs.declared.event.Call.{Call}
use Rattle.fq_model.specs.declared.event.Reply.{Reply}
use Rattle.fq_model.specs.declared.event.Reply.TheVariants as answer
use Rattle.service_model.specs.declared.config.ServiceConfig.{ServiceConfig}
use Rattle.service_model.specs.declared.outcome.ServiceOutcome.{ServiceOutcome}
use Rattle.service_model.specs.View.{Standing, Held, Forwarded, Runs, Ended, Withdrawn, Admitted, SlotView, ServiceView, stands_held, stands_forwarded, stands_running, is_held, is_forwarded, is_sent, is_waiting, is_open, of_slot, of_kind, slot_at, has_any, has_tenant, with_standing, runs_before}
use Rattle.service_model.specs.Idling.{with_idle, with_end_of}
use Rattle.service_model.specs.Room.{room_of}
use Rattle.service_model.specs.Scheduling.{MakesNow, MakesBefore, lacks_room}
use Rattle.service_model.specs.Rolling.{RollsOver, submit_call, withdraw_call, MakesOnNext, MakesWithRoom}
use Rattle.service_model.specs.Limits.{sent_of, sent_of_kind, is_below, passes, may_go, next_to_go, Forwards, ReleasesThese, Releases}
use Rattle.service_model.specs.Withdrawing.{without, WithdrawsForwarded, Withdraws, CancelsKnown}
use Rattle.service_laws.proofs.Lists.{either}
use Rattle.service_laws.proofs.Refreshed.{IsMaking, made_now}
use Rattle.service_laws.proofs.Rolled.{IsBlind, with_room_slots, with_room_count, with_room_still}

-- ---- the moves

-- where a request may stand next
abbrev pub Becomes : Standing → Standing → Type 0
Becomes Held (Forwarded request) = Unit {0}
Becomes Held Withdrawn = Unit {0}
Becomes (Forwarded request) Withdrawn = Unit {0}
Becomes (Forwarded request) (Runs run) = Unit {0}
Becomes (Runs run) (Runs later) = later.worker ≡ run.worker
Becomes (Runs run) Ended = Unit {0}
Becomes _ _ = ⊥

-- a request that is forwarded next passes the limits before
abbrev pub IsLetGo : Standing → Type 0 → Type 0
IsLetGo (Forwarded request) Passes = Passes
IsLetGo _ Passes = Unit {0}

-- both services have the same schedulers
pub record SameSchedulers (v w : ServiceView) : Type 0 where
  pub present : w.present ≡ v.present
  pub former : w.former ≡ v.former

-- all requests stand as before, and no scheduler is called
pub record Stays (v w : ServiceView) : Type 0 where
  pub schedulers : SameSchedulers v w
  pub admitted : w.admitted ≡ v.admitted
  pub slots : length w.slots ≡ length v.slots

-- one stands elsewhere
pub record Turns (c : ServiceConfig) (v w : ServiceView) : Type 0 where
  pub schedulers : SameSchedulers v w
  pub ticket : ℕ
  pub q : Admitted
  pub there : slice_get v.admitted ticket ≡ Some q
  pub next : Standing
  pub becomes : Becomes q.stands next
  pub let_go : IsLetGo next (passes c v q.slot q.kind ≡ true)
  pub admitted : w.admitted ≡ slice_set v.admitted ticket (record q { stands = next })
  pub slots : length w.slots ≡ length v.slots

-- one more waits, to which the room does not refuse a place
pub record Admits (c : ServiceConfig) (v w : ServiceView) : Type 0 where
  pub schedulers : SameSchedulers v w
  pub q : Admitted
  pub has_tenant : has_tenant c.named v q.slot ≡ true
  pub enters : refusal (room_of c v) q.slot ≡ None
  pub waits : is_waiting q ≡ true
  pub let_go : IsLetGo q.stands (passes c v q.slot q.kind ≡ true)
  pub admitted : w.admitted ≡ v.admitted ++ q ∷ []
  pub slots : length w.slots ≡ length v.slots

-- what holds of each move, and of moves one after another
pub record IsClosed (c : ServiceConfig) (R : ServiceView → ServiceView → Type 0) : Type 0 where
  pub joins : (v u w : ServiceView) → R v u → R u w → R v w
  pub stays : (v w : ServiceView) → Stays v w → R v w
  pub makes_now : (v : ServiceView) (asked : Call) (r : Reply) (w : ServiceView) → MakesNow v asked r w → R v w
  pub makes_before : (v : ServiceView) (asked : Call) (r : Reply) (w : ServiceView) → MakesBefore v asked r w → R v w
  pub rolls_over : (m : ℕ) (v w : ServiceView) → RollsOver c m v w → R v w
  pub turns : (v w : ServiceView) → Turns c v w → R v w
  pub admits : (v w : ServiceView) → Admits c v w → R v w

-- ---- what a slot's idling changes

same_if : (b : Bool) (x y : ServiceView) → Stays x y → Stays x (if b then x else y)
same_if true x y same = record { schedulers = record { present = refl; former = refl }; admitted = refl; slots = refl }
same_if false x y same = same

pub end_stays : (v : ServiceView) (slot : ℕ) → Stays v (with_end_of v slot)
end_stays v slot =
    same_if (has_any v (of_slot slot is_open)) v (with_idle v slot) (record { schedulers = record { present = refl; former = refl }; admitted = refl; slots = refl })

waits_becomes : (s : Standing) → stands_held s || stands_forwarded s ≡ true → Becomes s Withdrawn
waits_becomes Held e = tt
waits_becomes (Forwarded request) e = tt
waits_becomes (Runs run) e = let k : false ≡ true = e in absurd (cc)
waits_becomes Ended e = let k : false ≡ true = e in absurd (cc)
waits_becomes Withdrawn e = let k : false ≡ true = e in absurd (cc)

held_becomes : (s : Standing) (request : ℕ) → stands_held s ≡ true → Becomes s (Forwarded request)
held_becomes Held request e = tt
held_becomes (Forwarded r) request e = let k : false ≡ true = e in absurd (cc)
held_becomes (Runs run) request e = let k : false ≡ true = e in absurd (cc)
held_becomes Ended request e = let k : false ≡ true = e in absurd (cc)
held_becomes Withdrawn request e = let k : false ≡ true = e in absurd (cc)

held_is_not_forwarded : (s : Standing) → stands_held s ≡ true → stands_forwarded s ≡ false
held_is_not_forwarded Held e = refl
held_is_not_forwarded (Forwarded r) e = let k : false ≡ true = e in absurd (cc)
held_is_not_forwarded (Runs run) e = refl
held_is_not_forwarded Ended e = refl
held_is_not_forwarded Withdrawn e = refl

pub first_of_both : (a b : Bool) → a && b ≡ true → a ≡ true
first_of_both true b e = refl
first_of_both false b e = e

pub second_of_both : (a b : Bool) → a && b ≡ true → b ≡ true
second_of_both true b e = e
second_of_both false b e = let k : false ≡ true = e in absurd (cc)

-- the next to go is held
next_is_held : (c : ServiceConfig) (v : ServiceView) (slot ticket : ℕ) (q : Admitted)
    → next_to_go c v slot ≡ Some ticket → slice_get v.admitted ticket ≡ Some q → is_held q ≡ true
next_is_held c v slot ticket q next at =
    let found = position-Some (may_go c v slot) v.admitted ticket q next in
    let goes : may_go c v slot q ≡ true =
    ap (may_go c v slot) (sym (get_or_from_slice_get v.admitted ticket q q at)) ∙ found.1 in
    second_of_both (q.slot == slot) (is_held q) (first_of_both (of_slot slot is_held q) _ goes)

-- the next to go passes the limits
next_passes : (c : ServiceConfig) (v : ServiceView) (slot ticket : ℕ) (q : Admitted)
    → next_to_go c v slot ≡ Some ticket → slice_get v.admitted ticket ≡ Some q → passes c v q.slot q.kind ≡ true
next_passes c v slot ticket q next at =
    let found = position-Some (may_go c v slot) v.admitted ticket q next in
    let goes : may_go c v slot q ≡ true =
    ap (may_go c v slot) (sym (get_or_from_slice_get v.admitted ticket q q at)) ∙ found.1 in
    let slot_is = eqb-true q.slot slot (first_of_both (q.slot == slot) (is_held q) (first_of_both (of_slot slot is_held q) _ goes)) in
    subst (λ s. passes c v s q.kind ≡ true) (sym slot_is)
    (first_of_both (passes c v slot q.kind) _ (second_of_both (of_slot slot is_held q) _ goes))

sent_forwarded : (s : Standing) → stands_forwarded s ≡ true → stands_forwarded s || stands_running s ≡ true
sent_forwarded (Forwarded request) e = refl
sent_forwarded Held e = let k : false ≡ true = e in absurd (cc)
sent_forwarded (Runs run) e = refl
sent_forwarded Ended e = let k : false ≡ true = e in absurd (cc)
sent_forwarded Withdrawn e = let k : false ≡ true = e in absurd (cc)

pub sent_is_blind : (slot : ℕ) → IsBlind (of_slot slot is_sent)
sent_is_blind slot q n e = ap (λ b. (q.slot == slot) && b) (sym (sent_forwarded q.stands e))

pub kind_is_blind : (slot kind : ℕ) → IsBlind (of_kind slot kind is_sent)
kind_is_blind slot kind q n e = ap (λ b. (q.kind == kind) && b) (sent_is_blind slot q n e)

-- limits are passed as before the scheduler made the call
pub passes_after : (c : ServiceConfig) (m : ℕ) (v : ServiceView) (asked : Call) (r : Reply) (u : ServiceView)
    (q : Admitted) → MakesWithRoom c m v asked r u → passes c v q.slot q.kind ≡ true → passes c u q.slot q.kind ≡ true
passes_after c m v asked r u q x before =
    ap (λ s. is_below (sent_of u q.slot) (slice_index_or s q.slot none).limit && kind_below u) (with_room_slots c m v asked r u x)
    ∙ ap (λ n. is_below n (slot_at v q.slot).limit && kind_below u) (with_room_count (of_slot q.slot is_sent) (sent_is_blind q.slot) c m v asked r u x)
    ∙ ap (λ n. is_below (sent_of v q.slot) (slot_at v q.slot).limit && is_below n (slice_index c.kind_most_running q.kind))
    (with_room_count (of_kind q.slot q.kind is_sent) (kind_is_blind q.slot q.kind) c m v asked r u x)
    ∙ before
  where
    none : SlotView
    none = record { generation = 0; limit = 0; began_to_wait = None }

    kind_below : ServiceView → Bool
    kind_below y = is_below (sent_of_kind y q.slot q.kind) (slice_index c.kind_most_running q.kind)

module _ (c : ServiceConfig) (R : ServiceView → ServiceView → Type 0) (k : IsClosed c R) where
  pub equal : (v w : ServiceView) → w ≡ v → R v w
  equal v w e = k.stays v w (record {
    schedulers = record {
      present = ap (λ (u : ServiceView). u.present) e;
      former = ap (λ (u : ServiceView). u.former) e;
    };
    admitted = ap (λ (u : ServiceView). u.admitted) e;
    slots = ap (λ (u : ServiceView). length u.slots) e;
  })

  pub making : IsMaking R
  making = record { joins = k.joins; equal = equal; now = k.makes_now; before = k.makes_before }

  -- then a service that is this one
  pub onto : (v u w : ServiceView) → R v u → w ≡ u → R v w
  onto v u w r e = k.joins v u w r (equal u w e)

  pub with_room : (m : ℕ) (v : ServiceView) (asked : Call) (r : Reply) (w : ServiceView)
      → MakesWithRoom c m v asked r w → R v w
  with_room m v asked r w =
      either (lacks_room v.present asked && not (runs_before v)) (MakesOnNext c m v asked r w) _ (R v w)
      (λ _ x. k.joins v x.rolled w
      (k.rolls_over m v x.rolled x.rolls_over)
      (k.makes_now x.rolled asked r w x.makes))
      (λ _ x. k.makes_now v asked r w x)

  -- the request of this ticket stands elsewhere, and then the service is u but for what else changes
  pub turned : (v u : ServiceView) (ticket : ℕ) (q : Admitted) (next : Standing)
      → slice_get v.admitted ticket ≡ Some q → Becomes q.stands next → IsLetGo next (passes c v q.slot q.kind ≡ true)
      → SameSchedulers v u → u.admitted ≡ slice_set v.admitted ticket (record q { stands = next })
      → length u.slots ≡ length v.slots → R v u
  turned v u ticket q next at becomes let_go schedulers is slots = k.turns v u (record {
    schedulers = schedulers;
    ticket = ticket;
    q = q;
    there = at;
    next = next;
    becomes = becomes;
    let_go = let_go;
    admitted = is;
    slots = slots;
  })

  forwards : (m slot : ℕ) (v : ServiceView) (ticket : ℕ) (w : ServiceView) → next_to_go c v slot ≡ Some ticket
      → Forwards c m v ticket w → R v w
  forwards m slot v ticket w next x =
      let held = next_is_held c v slot ticket x.q next x.admitted in
      let at = with_room_still c m v (submit_call c m x.q) (answer.Request x.request) x.made ticket x.q (held_is_not_forwarded x.q.stands held) x.admitted x.makes in
      let u : ServiceView = with_standing x.made ticket x.q (Forwarded x.request) in
      onto v u w
      (k.joins v x.made u
      (with_room m v (submit_call c m x.q) (answer.Request x.request) x.made x.makes)
      (turned x.made u ticket x.q (Forwarded x.request) at (held_becomes x.q.stands x.request held)
      (passes_after c m v (submit_call c m x.q) (answer.Request x.request) x.made x.q x.makes (next_passes c v slot ticket x.q next x.admitted)) (record { present = refl; former = refl }) refl refl))
      x.after

  releases_these : (m slot : ℕ) (tickets : List ℕ) (v w : ServiceView) → ReleasesThese c m slot tickets v w → R v w
  releases_these m slot [] v w x = equal v w x.1
  releases_these m slot (ticket ∷ tickets) v w x =
      k.joins v x.1.0 w
      (forwards m slot v ticket x.1.0 x.0 x.1.1)
      (releases_these m slot tickets x.1.0 w x.1.2)

  pub releases : (m slot : ℕ) (v w : ServiceView) → Releases c m slot v w → R v w
  releases m slot v w x = releases_these m slot x.0 v w x.1

  -- ---- withdrawals

  left : (v : ServiceView) (ticket : ℕ) (q : Admitted) → slice_get v.admitted ticket ≡ Some q
      → is_waiting q ≡ true → R v (without v ticket q)
  left v ticket q at waits =
      let u : ServiceView = with_standing v ticket q Withdrawn in
      k.joins v u (without v ticket q)
      (turned v u ticket q Withdrawn at (waits_becomes q.stands waits) tt (record { present = refl; former = refl }) refl refl)
      (k.stays u (without v ticket q) (end_stays u q.slot))

  pub withdraws : (m : ℕ) (v : ServiceView) (ticket : ℕ) (q : Admitted) (w : ServiceView)
      → slice_get v.admitted ticket ≡ Some q → is_waiting q ≡ true → Withdraws c m v ticket q w → R v w
  withdraws m v ticket q w at waits =
      either (is_forwarded q) (WithdrawsForwarded c m v ticket q w) _ (R v w)
      (λ _ x.
      let asked = withdraw_call c m q in
      let reply = answer.Withdrawn q.label in
      let there = ap (λ l. slice_get l ticket) (made_now v asked reply x.made x.makes).admitted ∙ at in
      k.joins v x.made w
      (k.makes_now v asked reply x.made x.makes)
      (k.joins x.made (without x.made ticket q) w
      (left x.made ticket q there waits)
      (releases m q.slot (without x.made ticket q) w x.releases)))
      (λ _ x. onto v (without v ticket q) w (left v ticket q at waits) x)

  pub cancels : (m : ℕ) (v : ServiceView) (ticket : ℕ) (known : Option Admitted) (o : ServiceOutcome) (w : ServiceView)
      → slice_get v.admitted ticket ≡ known → CancelsKnown c m v ticket known o w → R v w
  cancels m v ticket None o w at x = equal v w x.1
  cancels m v ticket (Some q) o w at x =
      either (is_waiting q) _ _ (R v w)
      (λ waits y. withdraws m v ticket q w at waits y.1)
      (λ _ y. equal v w y.1)
      x
