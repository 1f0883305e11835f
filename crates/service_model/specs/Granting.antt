-- What next answers: a late request, a grant, or rest.
use Rattle.std.specs.Prelude.{ℕ, ◌+◌, ◌-◌, ◌<◌, ◌≡◌, ◌==◌, ◌⊎◌, nat_lt, nat_le, Bool, false, ◌&&◌, if◌then◌else◌, List, length, Option, Some, None, is_none, slice_get, MatchBool}
use Rattle.std.specs.List.{filter, range_with_len}
use Rattle.fq_model.specs.declared.event.Call.TheVariants as call
use Rattle.fq_model.specs.declared.event.Reply.TheVariants as answer
use Rattle.service_model.specs.declared.config.ServiceConfig.{ServiceConfig}
use Rattle.service_model.specs.declared.outcome.ServiceOutcome.{ServiceOutcome}
use Rattle.service_model.specs.declared.outcome.ServiceOutcome.TheVariants as told
use Rattle.service_model.specs.View.{Forwarded, Runs, Admitted, ServiceView, slot_at, has_any, is_forwarded, running_count, workers_now, ticket_on, with_standing}
use Rattle.service_model.specs.Scheduling.{MakesNow}
use Rattle.service_model.specs.Deadlines.{has_late, WithdrawsLate, earlier, least_deadline, just_after}
use Rattle.service_model.specs.Declining.{WorkerDeclines, pause}
use Rattle.service_model.specs.Reports.{Refreshes}
use Rattle.service_model.specs.Rows.{IsAnswered}

-- ---- rest

-- this number of workers decline, and are asked again at the latest so much later
abbrev pub with_declining : ServiceView → ℕ → ℕ → ServiceView
with_declining v m declining = record v { declining = declining; asked_again = m + pause v declining }

-- when something may be to do without a call: just after the least deadline of what waits, or when workers that
-- decline are asked again
abbrev pub rests_until : ServiceView → ℕ → ℕ → Option ℕ
rests_until v m declining =
    earlier (just_after (least_deadline v.admitted)) (if declining == 0 then None else Some (m + pause v declining))

-- nothing more is to do at m, and this number of workers decline
abbrev pub Rests : ℕ → ServiceView → ℕ → ServiceOutcome → ServiceView → Type 0
Rests m v declining outcome w =
    IsAnswered (told.Rest (rests_until v m declining)) (with_declining v m declining) outcome w

-- ---- grants

-- a tenant is a visitor at m where its last admitted submit that found nothing of it waiting is at most a second old:
-- so one that always has more waiting is none
abbrev pub is_recent : Option ℕ → ℕ → Bool
is_recent None m = false
is_recent (Some moment) m = nat_le m (moment + 1000000)

abbrev pub is_visitor : ServiceView → ℕ → ℕ → Bool
is_visitor v slot m = is_recent (slot_at v slot).began_to_wait m

-- the worker's take is made at m in the present scheduler, and its request is granted
pub record Grants (m : ℕ) (v : ServiceView) (worker : ℕ) (outcome : ServiceOutcome) (w : ServiceView) : Type 0 where
  pub ticket : ℕ
  pub q : Admitted
  pub request : ℕ
  pub estimate : ℕ
  pub made : ServiceView
  pub makes : MakesNow v (call.Take worker m worker) (answer.Run request estimate q.label) made
  pub admitted : slice_get v.admitted ticket ≡ Some q
  pub stands : q.stands ≡ Forwarded request
  pub outcome_is : outcome ≡ told.Grant (record {
    label = q.label;
    ticket = ticket;
    worker = worker;
    slot = q.slot;
    kind = q.kind;
    estimate = estimate;
    waited = m - q.came;
  })
  pub after : w ≡ record (with_standing made ticket q (Runs (record {
    scheduler = v.rolls;
    request = request;
    worker = worker;
    taken = m;
    estimate = estimate;
    is_visitor = is_visitor v q.slot m;
    named = 0;
  }))) { declining = 0 }

-- ---- who is asked

-- the workers that run nothing, of those that there are, in the order of their numbers
abbrev pub free_workers : ServiceView → List ℕ
free_workers v = filter (λ worker. is_none (ticket_on v worker)) (range_with_len 0 (workers_now v))

-- the first of these that doesn't decline takes
pub record FirstTakes (m : ℕ) (v : ServiceView) (workers : List ℕ) (outcome : ServiceOutcome) (w : ServiceView)
    : Type 0 where
  pub declining : ℕ
  pub worker : ℕ
  pub worker_is : slice_get workers declining ≡ Some worker
  pub before : (place other : ℕ) → place < declining → slice_get workers place ≡ Some other
      → WorkerDeclines m v other place
  pub takes : ¬ WorkerDeclines m v worker declining
  pub grants : Grants m v worker outcome w

-- each of these declines, by the number of those before it
abbrev pub AllDecline : ℕ → ServiceView → List ℕ → Type 0
AllDecline m v workers = (place worker : ℕ) → slice_get workers place ≡ Some worker → WorkerDeclines m v worker place

-- these workers, which are free, are asked in order
abbrev pub AsksThese : ℕ → ServiceView → List ℕ → ServiceOutcome → ServiceView → Type 0
AsksThese m v workers outcome w =
    FirstTakes m v workers outcome w ⊎ (AllDecline m v workers × Rests m v (length workers) outcome w)

-- before workers are asked, the time for which requests ran is reported
pub record AsksWorkers (c : ServiceConfig) (m : ℕ) (v : ServiceView) (outcome : ServiceOutcome) (w : ServiceView)
    : Type 0 where
  pub fresh : ServiceView
  pub refreshes : Refreshes c m v fresh
  pub asks : AsksThese m fresh (free_workers fresh) outcome w

-- fewer requests run than there are workers, and a request waits in the present scheduler
abbrev pub may_grant : ServiceView → Bool
may_grant v = nat_lt (running_count v) (workers_now v) && has_any v is_forwarded

-- the answer to next: what is late goes first
abbrev pub AnswersNext : ServiceConfig → ℕ → ServiceView → ServiceOutcome → ServiceView → Type 0
AnswersNext c m v outcome w =
    MatchBool (has_late v m) (WithdrawsLate c m v outcome w)
    (MatchBool (may_grant v) (AsksWorkers c m v outcome w) (Rests m v 0 outcome w))
