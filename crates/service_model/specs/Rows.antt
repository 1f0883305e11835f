-- Answers that change nothing, and refusals as rows.
use Rattle.std.specs.Prelude.{◌≡◌, Option, Some, None}
use Rattle.service_model.specs.declared.outcome.ServiceOutcome.{ServiceOutcome}
use Rattle.service_model.specs.declared.outcome.ServiceOutcome.TheVariants.{Refused}
use Rattle.service_model.specs.declared.refusal.ServiceRefusal.{ServiceRefusal}
use Rattle.service_model.specs.View.{ServiceView}

-- the outcome is this one, and the service is then so
abbrev pub IsAnswered : ServiceOutcome → ServiceView → ServiceOutcome → ServiceView → Type 0
IsAnswered wanted service outcome w = (outcome ≡ wanted) × (w ≡ service)

-- refused for the cause, if there is one; if there is none, `Accepted` holds
abbrev pub RefusedOrElse : Option ServiceRefusal → ServiceView → ServiceOutcome → ServiceView → Type 0 → Type 0
RefusedOrElse None v outcome w Accepted = Accepted
RefusedOrElse (Some cause) v outcome w Accepted = IsAnswered (Refused cause) v outcome w
