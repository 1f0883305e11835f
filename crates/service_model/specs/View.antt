-- The view of a service in contracts, and what is read from it.
use Rattle.std.specs.Prelude.{ℕ, ◌≡◌, ◌==◌, not, Bool, true, false, ◌&&◌, ◌||◌, if◌then◌else◌, List, Option, Some, None, position, slice_get, slice_index_or, slice_set, nat_lt}
use Rattle.std.specs.List.{count_by, list_any}
use Rattle.fq_model.specs.declared.config.Config.{Config}
use Rattle.fq_model.specs.History.{History, pool_at, last_use}
use Rattle.worker_reserve.specs.Credit.{CreditView}
use Rattle.worker_reserve.specs.Reserve.{ReserveView}

-- a scheduler: its configuration and its history
pub record Scheduler : Type 0 where
  pub config : Config
  pub history : History

-- The run of a request: the number of the scheduler that granted it, its number there, its worker, the moment of the
-- grant, its estimate then, whether its tenant was a visitor then, and the greatest cost above 0 that its worker
-- named so far, or 0. Schedulers are numbered from 0 in the order in which they followed one another.
pub record Run : Type 0 where
  pub scheduler : ℕ
  pub request : ℕ
  pub worker : ℕ
  pub taken : ℕ
  pub estimate : ℕ
  pub is_visitor : Bool
  pub named : ℕ

-- where an admitted request stands: it is held back, it waits as this request of the present scheduler, it runs, its
-- run has ended, or it was withdrawn before it ran
pub data Standing : Type 0 where
  Held : Standing
  Forwarded : ℕ → Standing
  Runs : Run → Standing
  Ended : Standing
  Withdrawn : Standing

-- an admitted request: what its submit named, the moment of its admission, and where it stands
pub record Admitted : Type 0 where
  pub slot : ℕ
  pub kind : ℕ
  pub declared : ℕ
  pub deadline : Option ℕ
  pub label : ℕ
  pub came : ℕ
  pub stands : Standing

-- A slot: how often a tenant has joined it, how many requests of its tenant may be forwarded and not ended (0 is no
-- limit), and the moment of its last admitted submit that found nothing of it waiting.
pub record SlotView : Type 0 where
  pub generation : ℕ
  pub limit : ℕ
  pub began_to_wait : Option ℕ

-- A service: the requests that were admitted, by ticket; the slots, by number; the slots of which nothing waits or
-- runs, the one that is idle for longest first; how many schedulers followed the first one; the present scheduler,
-- and the one before it; the credit of workers for staying free, with the last moment; the ends of requests; how many
-- workers declined at the last next, and when they are asked again; and whether it is closed.
pub record ServiceView : Type 0 where
  pub admitted : List Admitted
  pub slots : List SlotView
  pub idle : List ℕ
  pub rolls : ℕ
  pub present : Scheduler
  pub former : Scheduler
  pub credit : CreditView
  pub reserve : ReserveView
  pub declining : ℕ
  pub asked_again : ℕ
  pub is_closed : Bool

-- ---- of one request

abbrev pub stands_held : Standing → Bool
stands_held Held = true
stands_held _ = false

abbrev pub stands_forwarded : Standing → Bool
stands_forwarded (Forwarded r) = true
stands_forwarded _ = false

abbrev pub stands_running : Standing → Bool
stands_running (Runs run) = true
stands_running _ = false

abbrev pub is_held : Admitted → Bool
is_held q = stands_held q.stands

-- it waits in the present scheduler
abbrev pub is_forwarded : Admitted → Bool
is_forwarded q = stands_forwarded q.stands

abbrev pub is_running : Admitted → Bool
is_running q = stands_running q.stands

-- it waits, held back or in the present scheduler
abbrev pub is_waiting : Admitted → Bool
is_waiting q = is_held q || is_forwarded q

-- it is forwarded and has not ended: it waits in the present scheduler, or runs
abbrev pub is_sent : Admitted → Bool
is_sent q = is_forwarded q || is_running q

-- it waits or runs
abbrev pub is_open : Admitted → Bool
is_open q = is_held q || is_sent q

abbrev pub stands_on : ℕ → Standing → Bool
stands_on worker (Runs run) = run.worker == worker
stands_on worker _ = false

-- it runs on this worker
abbrev pub is_on : ℕ → Admitted → Bool
is_on worker q = stands_on worker q.stands

-- it runs, and another scheduler than this one granted it
abbrev pub stands_outside : ℕ → Standing → Bool
stands_outside scheduler (Runs run) = not (run.scheduler == scheduler)
stands_outside scheduler _ = false

-- it passes the test, and is of this slot
abbrev pub of_slot : ℕ → (Admitted → Bool) → Admitted → Bool
of_slot slot test q = (q.slot == slot) && test q

-- it passes the test, and is of this slot and kind
abbrev pub of_kind : ℕ → ℕ → (Admitted → Bool) → Admitted → Bool
of_kind slot kind test q = (q.kind == kind) && of_slot slot test q

-- ---- of all requests

abbrev pub how_many : ServiceView → (Admitted → Bool) → ℕ
how_many v test = count_by test v.admitted

abbrev pub has_any : ServiceView → (Admitted → Bool) → Bool
has_any v test = list_any test v.admitted

abbrev pub running_count : ServiceView → ℕ
running_count v = how_many v is_running

-- the ticket of the request that runs on this worker, if it runs one
abbrev pub ticket_on : ServiceView → ℕ → Option ℕ
ticket_on v worker = position (is_on worker) v.admitted

-- some request runs that a scheduler before the present one granted
abbrev pub runs_before : ServiceView → Bool
runs_before v = has_any v (λ q. stands_outside v.rolls q.stands)

-- ---- of the schedulers, and of what runs there

-- the number of workers, by the present scheduler
abbrev pub workers_now : ServiceView → ℕ
workers_now v = pool_at v.present.config v.present.history

-- the scheduler of this number: the present one, or the one before it
abbrev pub scheduler_of : ServiceView → ℕ → Scheduler
scheduler_of v scheduler = if scheduler == v.rolls then v.present else v.former

-- the greatest use of a running request that was reported to its scheduler, or 0
abbrev pub reported : ServiceView → Run → ℕ
reported v run = last_use (scheduler_of v run.scheduler).history run.request

-- the request of this ticket, q, runs on this worker, and this is its run
pub record IsOnWorker (v : ServiceView) (worker ticket : ℕ) (q : Admitted) (run : Run) : Type 0 where
  pub ticket_is : ticket_on v worker ≡ Some ticket
  pub admitted : slice_get v.admitted ticket ≡ Some q
  pub stands : q.stands ≡ Runs run

-- ---- of the slots

-- (read only where there is such a slot)
abbrev pub slot_at : ServiceView → ℕ → SlotView
slot_at v slot = slice_index_or v.slots slot (record { generation = 0; limit = 0; began_to_wait = None })

-- a slot has a tenant from the opening on, or since it was joined
abbrev pub has_tenant : ℕ → ServiceView → ℕ → Bool
has_tenant named v slot = nat_lt slot named || nat_lt 0 (slot_at v slot).generation

-- ---- changes

-- the request q, which has this ticket, stands here
abbrev pub with_standing : ServiceView → ℕ → Admitted → Standing → ServiceView
with_standing v ticket q standing =
    record v { admitted = slice_set v.admitted ticket (record q { stands = standing }) }

-- the slot is as this
abbrev pub with_slot : ServiceView → ℕ → SlotView → ServiceView
with_slot v slot s = record v { slots = slice_set v.slots slot s }
