-- The answer to each call, and the outcome of a list of calls.
use Rattle.std.specs.Prelude.{ℕ, ◌≡◌, true, min, List, [], ◌∷◌, Option, Some, None}
use Rattle.vt_fixed.specs.declared.limits.TheConstants.{GREATEST_MOMENT}
use Rattle.service_model.specs.declared.call.ServiceCall.{ServiceCall}
use Rattle.service_model.specs.declared.call.ServiceCall.TheVariants as call
use Rattle.service_model.specs.declared.config.ServiceConfig.{ServiceConfig}
use Rattle.service_model.specs.declared.outcome.ServiceOutcome.{ServiceOutcome}
use Rattle.service_model.specs.declared.outcome.ServiceOutcome.TheVariants.{Accepted}
use Rattle.service_model.specs.View.{Admitted, Held, ServiceView}
use Rattle.service_model.specs.Opening.{opened}
use Rattle.service_model.specs.Moments.{effective_moment, at_moment}
use Rattle.service_model.specs.Submission.{submit_cause, AnswersSubmit}
use Rattle.service_model.specs.Withdrawing.{AnswersCancel}
use Rattle.service_model.specs.Granting.{AnswersNext}
use Rattle.service_model.specs.Reports.{AnswersUsed}
use Rattle.service_model.specs.Finishing.{AnswersFinish}
use Rattle.service_model.specs.Changes.{join_cause, AnswersJoin, weight_cause, AnswersWeight, limit_cause, AnswersLimit, workers_cause, AnswersWorkers, close_cause, ClosesScheduler}
use Rattle.service_model.specs.Rows.{IsAnswered, RefusedOrElse}

-- the moment that a call names
abbrev pub named_moment : ServiceCall → ℕ
named_moment (call.Submit moment slot generation kind declared deadline label) = moment
named_moment (call.Cancel moment ticket) = moment
named_moment (call.Next moment) = moment
named_moment (call.Used moment worker cost) = moment
named_moment (call.Finish moment worker cost) = moment
named_moment (call.Join moment weight) = moment
named_moment (call.Weight moment slot weight) = moment
named_moment (call.Limit moment slot most) = moment
named_moment (call.Workers moment count) = moment
named_moment (call.Close moment) = moment

-- the moment at which a call takes effect
abbrev pub moment_of_call : ServiceView → ServiceCall → ℕ
moment_of_call v asked = effective_moment v (named_moment asked)

-- a deadline is a moment: one above the greatest counts as that
abbrev pub effective_deadline : Option ℕ → Option ℕ
effective_deadline None = None
effective_deadline (Some deadline) = Some (min deadline GREATEST_MOMENT)

-- a request that comes at m, before it is known where it stands
abbrev pub coming : ℕ → ℕ → ℕ → ℕ → Option ℕ → ℕ → Admitted
coming m slot kind declared deadline label = record {
  slot = slot;
  kind = kind;
  declared = declared;
  deadline = effective_deadline deadline;
  label = label;
  came = m;
  stands = Held;
}

-- the answer to the submit of a request for this generation of its slot
abbrev pub AnswersComing : ServiceConfig → ℕ → ServiceView → ℕ → Admitted → ServiceOutcome → ServiceView → Type 0
AnswersComing c m v generation q outcome w =
    RefusedOrElse (submit_cause c v m generation q) v outcome w (AnswersSubmit c m v q outcome w)

-- the answer to a call that takes effect at m, before a close of the scheduler that it may make due
abbrev pub AnswersAt : ServiceConfig → ℕ → ServiceView → ServiceCall → ServiceOutcome → ServiceView → Type 0
AnswersAt c m v (call.Submit moment slot generation kind declared deadline label) outcome w =
    AnswersComing c m v generation (coming m slot kind declared deadline label) outcome w
AnswersAt c m v (call.Cancel moment ticket) outcome w = AnswersCancel c m v ticket outcome w
AnswersAt c m v (call.Next moment) outcome w = AnswersNext c m v outcome w
AnswersAt c m v (call.Used moment worker cost) outcome w = AnswersUsed c m v worker cost outcome w
AnswersAt c m v (call.Finish moment worker cost) outcome w = AnswersFinish c m v worker cost outcome w
AnswersAt c m v (call.Join moment weight) outcome w =
    RefusedOrElse (join_cause c v weight) v outcome w (AnswersJoin c m v weight outcome w)
AnswersAt c m v (call.Weight moment slot weight) outcome w =
    RefusedOrElse (weight_cause c v slot weight) v outcome w (AnswersWeight c m v slot weight outcome w)
AnswersAt c m v (call.Limit moment slot most) outcome w =
    RefusedOrElse (limit_cause v slot) v outcome w (AnswersLimit c m v slot most outcome w)
AnswersAt c m v (call.Workers moment count) outcome w =
    RefusedOrElse (workers_cause c v count) v outcome w (AnswersWorkers c m v count outcome w)
AnswersAt c m v (call.Close moment) outcome w =
    RefusedOrElse (close_cause v) v outcome w (IsAnswered Accepted (record v { is_closed = true }) outcome w)

-- the service v answers the call by the outcome, and is then w
pub record Answers (c : ServiceConfig) (v : ServiceView) (asked : ServiceCall) (outcome : ServiceOutcome)
    (w : ServiceView) : Type 0 where
  pub answered : ServiceView
  pub answers : AnswersAt c (moment_of_call v asked) (at_moment v (moment_of_call v asked)) asked outcome answered
  pub closes : ClosesScheduler c (moment_of_call v asked) answered w

-- from the service v on the calls are answered by the outcomes, one by one, and the service is then w
abbrev pub OutcomesFrom : ServiceConfig → ServiceView → List ServiceCall → List ServiceOutcome → ServiceView → Type 0
OutcomesFrom c v [] [] w = w ≡ v
OutcomesFrom c v (asked ∷ calls) (outcome ∷ outcomes) w =
    (u : ServiceView) × Answers c v asked outcome u × OutcomesFrom c u calls outcomes w
OutcomesFrom c v _ _ w = ⊥

-- the calls, asked in order on a service that was just opened, are answered by the outcomes, and leave the service w
abbrev pub Outcomes : ServiceConfig → List ServiceCall → List ServiceOutcome → ServiceView → Type 0
Outcomes c calls outcomes w = OutcomesFrom c (opened c) calls outcomes w
