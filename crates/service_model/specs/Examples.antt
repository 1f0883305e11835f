-- Examples of a service, as rows for tests: a call, its outcome, and how many entries the present scheduler's history
-- has then. Estimates are the declared costs.
use Rattle.std.specs.Prelude.{ℕ, ◌+◌, ◌*◌, ◌≡◌, List, [], ◌∷◌, Some, None, length, replicate}
use Rattle.fq_model.specs.declared.config.Config.{Config}
use Rattle.fq_model.specs.declared.limits.Limits.TheVariants.{Long}
use Rattle.fq_model.specs.declared.config.Policy.TheVariants.{TwoDfqPlus}
use Rattle.fq_model.specs.declared.config.Estimator.TheVariants.{Declared}
use Rattle.service_model.specs.declared.call.ServiceCall.{ServiceCall}
use Rattle.service_model.specs.declared.call.ServiceCall.TheVariants.{Cancel, Next, Used, Finish, Join, Weight, Limit, Workers, Close}
use Rattle.service_model.specs.declared.call.ServiceCall.TheVariants as call
use Rattle.service_model.specs.declared.config.ServiceConfig.{ServiceConfig}
use Rattle.service_model.specs.declared.outcome.ServiceOutcome.{ServiceOutcome}
use Rattle.service_model.specs.declared.outcome.ServiceOutcome.TheVariants as told
use Rattle.service_model.specs.declared.outcome.ServiceOutcome.TheVariants.{Ticket, Cancelled, NotWaiting, Late, Rest, Slot, Accepted, Refused}
use Rattle.service_model.specs.View.{ServiceView}
use Rattle.service_model.specs.Opening.{opened}
use Rattle.service_model.specs.Answers.{Answers}

-- a call, its outcome, and the number of entries of the present history then
abbrev pub Row : Type 0
Row = ServiceCall × ServiceOutcome × ℕ

-- from the service v on the rows are what holds
abbrev pub WorksFrom : ServiceConfig → ServiceView → List Row → Type 0
WorksFrom c v [] = Unit {0}
WorksFrom c v (row ∷ rows) =
    (w : ServiceView) × Answers c v row.0 row.1 w × (length w.present.history ≡ row.2) × WorksFrom c w rows

-- a configuration, and rows
pub record Example : Type 0 where
  pub config : ServiceConfig
  pub rows : List Row

-- the rows are what holds of a service that was just opened
abbrev pub Works : Example → Type 0
Works x = WorksFrom x.config (opened x.config) x.rows

-- ---- parts of rows

-- a submit without a deadline
abbrev pub submit : (m slot generation kind declared label : ℕ) → ServiceCall
submit m slot generation kind declared label = call.Submit m slot generation kind declared None label

-- one with a deadline
abbrev pub submit_by : (deadline m slot generation kind declared label : ℕ) → ServiceCall
submit_by deadline m slot generation kind declared label =
    call.Submit m slot generation kind declared (Some deadline) label

abbrev pub granted : (label ticket worker slot kind estimate waited : ℕ) → ServiceOutcome
granted label ticket worker slot kind estimate waited = told.Grant (record {
  label = label;
  ticket = ticket;
  worker = worker;
  slot = slot;
  kind = kind;
  estimate = estimate;
  waited = waited;
})

-- under 2dfq+, with as few entries as there may be
abbrev pub scheduler_for : (workers : ℕ) → List ℕ → (kinds room : ℕ) → Config
scheduler_for workers weights kinds room = record {
  limits = Long;
  workers = workers;
  weights = weights;
  kinds = kinds;
  entries = 8 * room + 4 * workers;
  requests = room;
  policy = TwoDfqPlus;
  estimate = Declared;
  initial = 1000;
}

-- without limits, reports by the clock, or workers that stay free; all slots have tenants
abbrev pub plain : Config → ServiceConfig
plain C = record {
  scheduler = C;
  named = length C.weights;
  room_per_tenant = 0;
  most_running = 0;
  kind_most_running = replicate C.kinds 0;
  refresh = 0;
  idle_ppm = 0;
}
