-- Runs of a service: the calls since its opening, each with its outcome.
use Rattle.std.specs.Prelude.{ℕ, ◌≡◌, ◌==◌, Bool, false, not, ◌&&◌, ◌++◌, List, [], ◌∷◌, Option, Some, None, slice_get}
use Rattle.service_model.specs.declared.call.ServiceCall.{ServiceCall}
use Rattle.service_model.specs.declared.call.ServiceCall.TheVariants as call
use Rattle.service_model.specs.declared.config.ServiceConfig.{ServiceConfig}
use Rattle.service_model.specs.declared.outcome.ServiceOutcome.{ServiceOutcome}
use Rattle.service_model.specs.declared.outcome.ServiceOutcome.TheVariants as told
use Rattle.service_model.specs.View.{Admitted, ServiceView, is_sent, ticket_on}
use Rattle.service_model.specs.Opening.{service_fault, opened}
use Rattle.service_model.specs.Answers.{moment_of_call, Answers}

-- a call, its outcome, and the service before and after it
pub record Step : Type 0 where
  pub before : ServiceView
  pub asked : ServiceCall
  pub outcome : ServiceOutcome
  pub after : ServiceView

-- the service after these steps, of which the newest is the first
abbrev pub service_after : ServiceConfig → List Step → ServiceView
service_after c [] = opened c
service_after c (step ∷ older) = step.after

-- each step is a call on what the older ones left, with its outcome
abbrev pub IsRun : ServiceConfig → List Step → Type 0
IsRun c [] = Unit {0}
IsRun c (step ∷ older) =
    IsRun c older
    × (step.before ≡ service_after c older)
    × Answers c step.before step.asked step.outcome step.after

-- the moment of a step
abbrev pub moment_of_step : Step → ℕ
moment_of_step step = moment_of_call step.before step.asked

-- this holds of a service after each run, whatever its configuration, if it has no fault
abbrev pub AfterEachRun : (ServiceConfig → ServiceView → Type 0) → Type 0
AfterEachRun P = (c : ServiceConfig) (run : List Step) → service_fault c ≡ None → IsRun c run
    → P c (service_after c run)

-- this holds of the newest step of each run
abbrev pub AtEachStep : (ServiceConfig → Step → Type 0) → Type 0
AtEachStep P = (c : ServiceConfig) (step : Step) (older : List Step) → service_fault c ≡ None
    → IsRun c (step ∷ older) → P c step

-- this holds of each run, of which some step is looked at, with those that are later and those that are older
abbrev pub AboutEachStep : (ServiceConfig → (later : List Step) → Step → (now : ServiceView) → Type 0) → Type 0
AboutEachStep P = (c : ServiceConfig) (later : List Step) (step : Step) (older : List Step) → service_fault c ≡ None
    → IsRun c (later ++ step ∷ older) → P c later step (service_after c (later ++ step ∷ older))

-- ---- what a step does to a request

-- the slot of the request that a call submits, if it submits one
abbrev pub submitted_slot : ServiceCall → Option ℕ
submitted_slot (call.Submit moment slot generation kind declared deadline label) = Some slot
submitted_slot _ = None

-- the ticket of the request that is granted, if one is
abbrev pub granted_by : ServiceOutcome → Option ℕ
granted_by (told.Grant grant) = Some grant.ticket
granted_by _ = None

abbrev pub is_ticket : ℕ → Option ℕ → Bool
is_ticket ticket None = false
is_ticket ticket (Some k) = k == ticket

-- the request of this ticket is granted
abbrev pub grants : ℕ → Step → Bool
grants ticket step = is_ticket ticket (granted_by step.outcome)

abbrev pub withdrawn_by : ServiceCall → ServiceOutcome → Option ℕ
withdrawn_by (call.Cancel moment ticket) (told.Cancelled label) = Some ticket
withdrawn_by (call.Next moment) (told.Late label ticket) = Some ticket
withdrawn_by _ _ = None

-- the request of this ticket is withdrawn: taken back, or late
abbrev pub withdraws : ℕ → Step → Bool
withdraws ticket step = is_ticket ticket (withdrawn_by step.asked step.outcome)

abbrev pub ended_by : ServiceView → ServiceCall → ServiceOutcome → Option ℕ
ended_by v (call.Finish moment worker cost) told.Accepted = ticket_on v worker
ended_by v _ _ = None

-- the run of the request of this ticket ends
abbrev pub ends : ℕ → Step → Bool
ends ticket step = is_ticket ticket (ended_by step.before step.asked step.outcome)

-- the request of this ticket is admitted, and passes the test
abbrev pub passes_test : (Admitted → Bool) → Option Admitted → Bool
passes_test test None = false
passes_test test (Some q) = test q

abbrev pub is_now : ServiceView → (Admitted → Bool) → ℕ → Bool
is_now v test ticket = passes_test test (slice_get v.admitted ticket)

-- the request of this ticket is forwarded by the step, and was not before
abbrev pub sends : ℕ → Step → Bool
sends ticket step = is_now step.after is_sent ticket && not (is_now step.before is_sent ticket)
