-- The laws of the room, over all that a service does.
use Rattle.std.proofs.Common.{ℕ, ◌≡◌, ◌∙◌, ◌<◌, ◌≤◌, false, List, [], ◌∷◌, Option, Some, None, sym, ap, subst, length, replicate, arith}
use Rattle.std.specs.Prelude.{nat_lt}
use Rattle.std.proofs.lemmas.Bool.Decides.{nat_tests}
use Rattle.std.proofs.lemmas.List.{length-replicate, get_or-replicate, ext_get_or}
use Rattle.std.proofs.lemmas.List.Elements.{All-nil}
use Rattle.fq_model.specs.declared.config.ConfigFault.{ConfigFault}
use Rattle.fq_model.specs.Limits.{config_fault}
use Rattle.fq_model.specs.Sums.{list_below}
use Rattle.fq_laws.proofs.Lists.{list_length, list_at}
use Rattle.waiting_room.specs.Room.{all_waiting}
use Rattle.waiting_room.specs.Runs as rooms
use Rattle.waiting_room.proofs.Always.{waiting_fits}
use Rattle.service_model.specs.declared.config.ServiceConfig.{ServiceConfig}
use Rattle.service_model.specs.declared.config.ServiceFault.{ServiceFault}
use Rattle.service_model.specs.View.{SlotView}
use Rattle.service_model.specs.Opening.{own_fault, own_faults, first_fault, service_fault, opened}
use Rattle.service_model.specs.Room.{room_of, waiting_in}
use Rattle.service_model.specs.Runs.{Step, IsRun, service_after}
use Rattle.service_model.specs.Laws.{RoomIsKept, WaitingFitsRoom}
use Rattle.service_laws.proofs.Calls.{none_holds, answers}
use Rattle.service_laws.proofs.Rooms.{HasRoom, KeepsRoom, is_closed, IsBelow}

-- ---- the configuration of a service

others_none : (f : Option ConfigFault) (o : Option ServiceFault) → first_fault f o ≡ None → o ≡ None
others_none None o e = e
others_none (Some f) o e = let k : Some _ ≡ None = e in absurd (cc)

at_most : (a b : ℕ) → nat_lt a b ≡ false → b ≤ a
at_most a b e = grind (arith, nat_tests)

pub named_fits : (c : ServiceConfig) → service_fault c ≡ None → c.named ≤ length c.scheduler.weights
named_fits c sound =
    let none = none_holds (own_faults c) (others_none (config_fault c.scheduler) (own_fault c) sound) in
    at_most (length c.scheduler.weights) c.named none.1.0

-- ---- runs

module _ (c : ServiceConfig) where
  none_wait : rooms.opened c.scheduler.requests (length c.scheduler.weights) c.room_per_tenant ≡ room_of c (opened c)
  none_wait =
      let n : ℕ = length c.scheduler.weights in
      let none : ℕ = 0 in
      let fresh : SlotView = record { generation = 0; limit = c.most_running; began_to_wait = None } in
      let size : length (opened c).slots ≡ n = length-replicate n fresh in
      ap (λ l. record { places = c.scheduler.requests; per_tenant = c.room_per_tenant; waiting = l })
      (ext_get_or 0 (replicate n 0) (list_below (waiting_in (opened c)) (length (opened c).slots))
      (omega (arith, length-replicate n none, size, list_length (waiting_in (opened c)) (length (opened c).slots)))
      (λ i inside.
      let low : i < n = omega (arith, inside, length-replicate n none) in
      get_or-replicate n i none none low
      ∙ sym (list_at (waiting_in (opened c)) (length (opened c).slots) i 0 (omega (arith, low, size)))))

  opened_room : HasRoom c (opened c)
  opened_room = record {
    slots = length-replicate (length c.scheduler.weights) (record { generation = 0; limit = c.most_running; began_to_wait = None });
    known = All-nil (IsBelow (length (opened c).slots));
    steps = [];
    run = tt;
    room = none_wait;
  }

  pub has_room : service_fault c ≡ None → (run : List Step) → IsRun c run → HasRoom c (service_after c run)
  has_room sound [] run = opened_room
  has_room sound (step ∷ older) run =
      let before = has_room sound older run.0 in
      let named = named_fits c sound in
      (answers c (KeepsRoom c named) (is_closed c named) step.before step.asked step.outcome step.after run.2).room
      (subst (HasRoom c) (sym run.1) before)

pub room_is_kept : RoomIsKept
room_is_kept c run sound is_run = let h = has_room c sound run is_run in (h.steps, h.run, h.room)

pub waiting_fits_room : WaitingFitsRoom
waiting_fits_room c run sound is_run =
    let h = has_room c sound run is_run in
    subst (λ r. all_waiting r ≤ r.places) h.room
    (waiting_fits c.scheduler.requests (length c.scheduler.weights) c.room_per_tenant h.steps h.run)
