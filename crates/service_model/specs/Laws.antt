-- Laws of a service, over all calls that may be made on it.
use Rattle.std.specs.Prelude.{ℕ, ◌+◌, ◌*◌, ◌<◌, ◌≤◌, ◌≡◌, ◌==◌, ◌⊎◌, Bool, true, false, ◌&&◌, if◌then◌else◌, List, Option, Some, None, slice_get, slice_index, length, is_some, count_by, sum_by}
use Rattle.fq_model.specs.declared.config.Config.{Config}
use Rattle.fq_model.specs.Charge.{taken_estimate}
use Rattle.fq_model.specs.Fluid.{moment_of}
use Rattle.fq_model.specs.History.{History, request_at, is_waiting as waits_in, is_take_of, waiting, running, Runs as RunsIn}
use Rattle.fq_model.specs.Limits.{InLimits}
use Rattle.fq_model.specs.Rules.{IsLegal}
use Rattle.fq_model.specs.Time.{last_moment as last_entry}
use Rattle.waiting_room.specs.Room.{all_waiting, waiting_of, own_places, shared_of, shared_free}
use Rattle.waiting_room.specs.Runs as rooms
use Rattle.worker_reserve.specs.Demand.{IsPast}
use Rattle.worker_reserve.specs.Credit.{cap, earned, spent}
use Rattle.service_model.specs.declared.call.ServiceCall.{ServiceCall}
use Rattle.service_model.specs.declared.config.ServiceConfig.{ServiceConfig}
use Rattle.service_model.specs.declared.outcome.ServiceOutcome.{ServiceOutcome}
use Rattle.service_model.specs.declared.outcome.ServiceOutcome.TheVariants as told
use Rattle.service_model.specs.declared.refusal.ServiceRefusal.{ServiceRefusal}
use Rattle.service_model.specs.declared.refusal.ServiceRefusal.TheVariants.{TooManyWait, TenantFull}
use Rattle.service_model.specs.View.{Scheduler, Run, Standing, Held, Forwarded, Runs, Ended, Withdrawn, Admitted, ServiceView, slot_at, how_many, has_any, is_held, is_forwarded, is_running, is_sent, is_open, is_on, of_slot, running_count, workers_now, scheduler_of, runs_before}
use Rattle.service_model.specs.Opening.{service_fault, opened}
use Rattle.service_model.specs.Moments.{last_moment, passed, at_moment}
use Rattle.service_model.specs.Room.{room_of}
use Rattle.service_model.specs.Limits.{passes, sent_of, sent_of_kind}
use Rattle.service_model.specs.Submission.{is_before}
use Rattle.service_model.specs.Reports.{Refreshes}
use Rattle.service_model.specs.Granting.{AllDecline, free_workers}
use Rattle.service_model.specs.Answers.{Answers}
use Rattle.service_model.specs.Runs.{Step, IsRun, service_after, moment_of_step, AfterEachRun, AtEachStep, AboutEachStep, submitted_slot, granted_by, grants, withdraws, ends, is_now, sends}

-- ---- each request has one course

-- the request of this ticket was granted, withdrawn and ended so often
pub record HasCourse (run : List Step) (ticket granted withdrawn ended : ℕ) : Type 0 where
  pub granted_is : count_by (grants ticket) run ≡ granted
  pub withdrawn_is : count_by (withdraws ticket) run ≡ withdrawn
  pub ended_is : count_by (ends ticket) run ≡ ended

-- the course of a request that stands here
abbrev pub CourseIs : Standing → List Step → ℕ → Type 0
CourseIs Held run ticket = HasCourse run ticket 0 0 0
CourseIs (Forwarded request) run ticket = HasCourse run ticket 0 0 0
CourseIs (Runs r) run ticket = HasCourse run ticket 1 0 0
CourseIs Ended run ticket = HasCourse run ticket 1 0 1
CourseIs Withdrawn run ticket = HasCourse run ticket 0 1 0

abbrev pub CourseOf : Option Admitted → List Step → ℕ → Type 0
CourseOf None run ticket = HasCourse run ticket 0 0 0
CourseOf (Some q) run ticket = CourseIs q.stands run ticket

-- each admitted request waits, or was granted once, or was withdrawn once; a granted one runs, or has ended once; and
-- no other is granted, withdrawn or ended
abbrev pub EachHasOneCourse : Type 0
EachHasOneCourse = (c : ServiceConfig) (run : List Step) → service_fault c ≡ None → IsRun c run
    → (ticket : ℕ) → CourseOf (slice_get (service_after c run).admitted ticket) run ticket

-- ---- no more run than may

-- the request that the outcome grants still runs
abbrev pub still_runs : ServiceView → Option ℕ → Bool
still_runs now None = false
still_runs now (Some ticket) = is_now now is_running ticket

abbrev pub grants_of_now : ServiceView → Step → Bool
grants_of_now now step = still_runs now (granted_by step.outcome)

-- no more requests run than there were workers when the last of them was granted
abbrev pub PermitsFitWorkers : Type 0
PermitsFitWorkers = AboutEachStep (λ c later step now. is_some (granted_by step.outcome) ≡ true
    → count_by (grants_of_now now) later ≡ 0
    → running_count now ≤ workers_now step.after)

-- more run after a call than before it only by a grant, and then no more than there are workers
abbrev pub MoreRunByGrants : Type 0
MoreRunByGrants = AtEachStep (λ c step. (running_count step.after ≤ running_count step.before)
    ⊎ ((is_some (granted_by step.outcome) ≡ true) × (running_count step.after ≤ workers_now step.after)))

-- this number keeps within the limit, where 0 is no limit
abbrev pub IsWithinLimit : ℕ → ℕ → Type 0
IsWithinLimit limit n = (limit ≡ 0) ⊎ (n ≤ limit)

-- some request that passes the test and is forwarded was not so before the step
abbrev pub SendsSome : (Admitted → Bool) → Step → Type 0
SendsSome test step = (ticket : ℕ) × (is_now step.after test ticket ≡ true) × (sends ticket step ≡ true)

-- no request that passes the test and still runs was forwarded by one of these steps
abbrev pub SendNone : (Admitted → Bool) → ServiceView → List Step → Type 0
SendNone test now steps = (ticket : ℕ) → is_now now (λ q. test q && is_running q) ticket ≡ true
    → count_by (sends ticket) steps ≡ 0

-- Of a tenant no more requests run than its limit was when the last of them was forwarded: its limit after the call
-- which forwarded that.
abbrev pub LimitsAreKept : Type 0
LimitsAreKept = AboutEachStep (λ c later step now. (slot : ℕ)
    → SendsSome (of_slot slot is_sent) step
    → SendNone (of_slot slot is_sent) now later
    → IsWithinLimit (slot_at step.after slot).limit (how_many now (of_slot slot is_running)))

-- a call that forwards a request of a tenant leaves no more forwarded and not ended than its limit after the call
abbrev pub ForwardsWithinLimits : Type 0
ForwardsWithinLimits = AtEachStep (λ c step. (slot : ℕ) → SendsSome (of_slot slot is_sent) step
    → IsWithinLimit (slot_at step.after slot).limit (sent_of step.after slot))

-- of a tenant and kind no more requests are forwarded and not ended than the limit of the kind
abbrev pub KindLimitsAreKept : Type 0
KindLimitsAreKept = AfterEachRun (λ c v. (slot kind : ℕ)
    → IsWithinLimit (slice_index c.kind_most_running kind) (sent_of_kind v slot kind))

-- ---- the room

-- what waits in a service came to its room as the room lets it: so all laws of the room hold
abbrev pub RoomIsKept : Type 0
RoomIsKept = AfterEachRun (λ c v. (steps : List rooms.Step)
    × rooms.IsRun (rooms.opened c.scheduler.requests (length c.scheduler.weights) c.room_per_tenant) steps
    × (rooms.after (rooms.opened c.scheduler.requests (length c.scheduler.weights) c.room_per_tenant) steps
    ≡ room_of c v))

-- no more requests wait than the room has places
abbrev pub WaitingFitsRoom : Type 0
WaitingFitsRoom = AfterEachRun (λ c v. all_waiting (room_of c v) ≤ c.scheduler.requests)

-- the room refuses the submit
abbrev pub IsRoomRefusal : ServiceOutcome → Type 0
IsRoomRefusal outcome = (outcome ≡ told.Refused TooManyWait) ⊎ (outcome ≡ told.Refused TenantFull)

-- the call submits a request for this slot
abbrev pub IsSubmitFor : ℕ → ServiceCall → Type 0
IsSubmitFor slot asked = submitted_slot asked ≡ Some slot

-- where the tenants share the room, one with fewer requests waiting than its own places is not refused by the room
abbrev pub OwnPlacesAreKept : Type 0
OwnPlacesAreKept = AtEachStep (λ c step. (slot : ℕ) → c.room_per_tenant ≡ 0 → IsSubmitFor slot step.asked
    → waiting_of (room_of c step.before) slot < own_places (room_of c step.before)
    → ¬ IsRoomRefusal step.outcome)

-- where the tenants share the room, one that is admitted beyond its own places has then at most one shared place more
-- than are free: so a flood of one tenant leaves half of the shared places to others, rounded down
abbrev pub FloodsAreHalved : Type 0
FloodsAreHalved = AtEachStep (λ c step. (slot ticket : ℕ) → c.room_per_tenant ≡ 0 → IsSubmitFor slot step.asked
    → step.outcome ≡ told.Ticket ticket
    → own_places (room_of c step.before) ≤ waiting_of (room_of c step.before) slot
    → shared_of (room_of c step.after) slot ≤ shared_free (room_of c step.after) + 1)

-- ---- deadlines

-- nothing is granted after its deadline
abbrev pub NoGrantIsLate : Type 0
NoGrantIsLate = AtEachStep (λ c step. (ticket : ℕ) (q : Admitted) → grants ticket step ≡ true
    → slice_get step.before.admitted ticket ≡ Some q
    → is_before q.deadline (moment_of_step step) ≡ false)

-- ---- the schedulers

-- a scheduler has the configuration of the service, with other weights, and a legal history: so each grant is the
-- policy's choice for that worker, and all laws of schedulers hold of each, from its first entry to its last
pub record IsServing (C : Config) (s : Scheduler) : Type 0 where
  pub config_is : s.config ≡ record C { weights = s.config.weights }
  pub in_limits : InLimits s.config
  pub legal : IsLegal s.config s.history

pub record AreServing (c : ServiceConfig) (v : ServiceView) : Type 0 where
  pub present : IsServing c.scheduler v.present
  pub former : IsServing c.scheduler v.former

abbrev pub SchedulersAreLegal : Type 0
SchedulersAreLegal = AfterEachRun AreServing

-- the request r of this history was submitted as q
abbrev pub IsSubmittedAs : History → ℕ → Admitted → Type 0
IsSubmittedAs P r q =
    request_at P r ≡ Some (record { tenant = q.slot; kind = q.kind; declared = q.declared; label = q.label })

-- a run is the scheduler's own: its worker runs this request, taken at this moment and charged this estimate
pub record IsRunIn (P : History) (q : Admitted) (run : Run) : Type 0 where
  pub submitted : IsSubmittedAs P run.request q
  pub runs : RunsIn P run.worker run.request
  pub taken : moment_of (is_take_of run.request) P ≡ Some run.taken
  pub estimate : taken_estimate P run.request ≡ Some run.estimate

abbrev pub StandsTruly : ServiceView → Admitted → Standing → Type 0
StandsTruly v q (Forwarded r) = (waits_in v.present.history r ≡ true) × IsSubmittedAs v.present.history r q
StandsTruly v q (Runs run) = IsRunIn (scheduler_of v run.scheduler).history q run
StandsTruly v q _ = Unit {0}

-- what is forwarded waits in the present scheduler, each as another request, and what runs runs in its own, and
-- nothing else does
pub record SchedulersAgree (c : ServiceConfig) (v : ServiceView) : Type 0 where
  pub each : (ticket : ℕ) (q : Admitted) → slice_get v.admitted ticket ≡ Some q → StandsTruly v q q.stands
  pub once : (ticket other r : ℕ) (q p : Admitted) → slice_get v.admitted ticket ≡ Some q
      → slice_get v.admitted other ≡ Some p → q.stands ≡ Forwarded r → p.stands ≡ Forwarded r → ticket ≡ other
  pub waiting_is : waiting v.present.history ≡ how_many v is_forwarded
  pub none_wait : waiting v.former.history ≡ 0
  pub running_is : running v.present.history + running v.former.history ≡ running_count v

abbrev pub SchedulersSayTheSame : Type 0
SchedulersSayTheSame = AfterEachRun SchedulersAgree

-- ---- rest, and the credit of workers

-- the free workers all decline at m, after what runs was reported
pub record AllFreeDecline (c : ServiceConfig) (m : ℕ) (v : ServiceView) : Type 0 where
  pub fresh : ServiceView
  pub refreshes : Refreshes c m v fresh
  pub decline : AllDecline m fresh (free_workers fresh)

-- a next that is answered by rest finds that nothing waits in the present scheduler, or that as many requests run as
-- there are workers, or that all free workers decline
abbrev pub RestsForCause : Type 0
RestsForCause = AtEachStep (λ c step. (until : Option ℕ) → step.outcome ≡ told.Rest until
    → (has_any step.before is_forwarded ≡ false)
    ⊎ ((workers_now step.before ≤ running_count step.before)
    ⊎ AllFreeDecline c (moment_of_step step) (at_moment step.before (moment_of_step step))))

-- what requests earned while they ran, up to the moment of a step, and what workers spent by declining
abbrev pub earned_by : Step → ℕ
earned_by step = earned step.before.credit (passed step.before (moment_of_step step))

abbrev pub spent_by : Step → ℕ
spent_by step = spent step.before.credit (passed step.before (moment_of_step step))

-- all that workers spend by declining is at most the idle part of all busy time, the cap, and a millisecond and a
-- microsecond of each worker, by the number of workers at the opening
abbrev pub IdlingIsBounded : Type 0
IdlingIsBounded = (c : ServiceConfig) (run : List Step) → service_fault c ≡ None → IsRun c run
    → sum_by spent_by run ≤ sum_by earned_by run + (cap (opened c).credit + 1001000000 * c.scheduler.workers)

-- ---- held requests

-- it is forwarded, or was granted
abbrev pub has_gone : Standing → Bool
has_gone (Forwarded request) = true
has_gone (Runs run) = true
has_gone Ended = true
has_gone _ = false

-- held requests of one tenant and kind go in the order of their admission: while one is held none that came later
-- goes
abbrev pub HeldGoInOrder : Type 0
HeldGoInOrder = AfterEachRun (λ c v. (older younger : ℕ) (p q : Admitted) → older < younger
    → slice_get v.admitted older ≡ Some p → slice_get v.admitted younger ≡ Some q
    → p.slot ≡ q.slot → p.kind ≡ q.kind → is_held p ≡ true → has_gone q.stands ≡ false)

-- a request that passes both limits is held only while something runs in a scheduler before the present one
abbrev pub NoneIsHeldInVain : Type 0
NoneIsHeldInVain = AfterEachRun (λ c v. (ticket : ℕ) (q : Admitted) → slice_get v.admitted ticket ≡ Some q
    → is_held q ≡ true → passes c v q.slot q.kind ≡ true → runs_before v ≡ true)

-- ---- answers

-- one outcome and one service after it, and no other, answer the call
pub record IsAnsweredOnce (c : ServiceConfig) (v : ServiceView) (asked : ServiceCall) : Type 0 where
  pub outcome : ServiceOutcome
  pub after : ServiceView
  pub answers : Answers c v asked outcome after
  pub alone : (other : ServiceOutcome) (w : ServiceView) → Answers c v asked other w
      → (other ≡ outcome) × (w ≡ after)

-- each call is answered, whatever its numbers, and in one way
abbrev pub EachCallIsAnswered : Type 0
EachCallIsAnswered = AfterEachRun (λ c v. (asked : ServiceCall) → IsAnsweredOnce c v asked)

-- a refused call, and a cancel of what does not wait, change nothing but the last moment, and with it the credit
abbrev pub RefusedChangesNothing : Type 0
RefusedChangesNothing = AtEachStep (λ c step. (cause : ServiceRefusal)
    → (step.outcome ≡ told.Refused cause) ⊎ (step.outcome ≡ told.NotWaiting)
    → step.after ≡ at_moment step.before (moment_of_step step))

-- ---- what a view keeps

-- of each slot that is idle the number stands once in their order, of no other at all
abbrev pub idle_count : ServiceView → ℕ → ℕ
idle_count v slot = if has_any v (of_slot slot is_open) then 0 else 1

pub record IsKept (c : ServiceConfig) (v : ServiceView) : Type 0 where
  pub slots : length v.slots ≡ length c.scheduler.weights
  pub idle : (slot : ℕ) → slot < length v.slots → count_by (λ s. s == slot) v.idle ≡ idle_count v slot
  pub workers : v.credit.workers ≡ workers_now v
  pub one_each : (worker : ℕ) → how_many v (is_on worker) ≤ 1
  pub ends : IsPast v.reserve.ends (last_moment v)
  pub visits : IsPast v.reserve.visits (last_moment v)
  pub present : last_entry v.present.history ≤ last_moment v
  pub former : last_entry v.former.history ≤ last_moment v

-- the slots are as many as at the opening, the idle ones stand in their order, the credit is that of the present
-- workers, a worker runs one request at most, and nothing is later than the last call
abbrev pub ViewIsKept : Type 0
ViewIsKept = AfterEachRun IsKept
