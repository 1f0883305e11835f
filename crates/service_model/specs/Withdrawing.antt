-- A request that waits is withdrawn: taken back, or late.
use Rattle.std.specs.Prelude.{ℕ, ◌≡◌, slice_get, Option, Some, None, MatchBool}
use Rattle.fq_model.specs.declared.event.Reply.TheVariants as answer
use Rattle.service_model.specs.declared.config.ServiceConfig.{ServiceConfig}
use Rattle.service_model.specs.declared.outcome.ServiceOutcome.{ServiceOutcome}
use Rattle.service_model.specs.declared.outcome.ServiceOutcome.TheVariants.{Cancelled, NotWaiting}
use Rattle.service_model.specs.View.{Admitted, Withdrawn, ServiceView, is_forwarded, is_waiting, with_standing}
use Rattle.service_model.specs.Scheduling.{MakesNow}
use Rattle.service_model.specs.Rolling.{withdraw_call}
use Rattle.service_model.specs.Limits.{Releases}
use Rattle.service_model.specs.Idling.{with_end_of}
use Rattle.service_model.specs.Rows.{IsAnswered}

-- the request q, of this ticket, waits no more, and is never granted
abbrev pub without : ServiceView → ℕ → Admitted → ServiceView
without v ticket q = with_end_of (with_standing v ticket q Withdrawn) q.slot

-- a forwarded one is withdrawn from the scheduler, too, and what its tenant holds may go
pub record WithdrawsForwarded (c : ServiceConfig) (m : ℕ) (v : ServiceView) (ticket : ℕ) (q : Admitted)
    (w : ServiceView) : Type 0 where
  pub made : ServiceView
  pub makes : MakesNow v (withdraw_call c m q) (answer.Withdrawn q.label) made
  pub releases : Releases c m q.slot (without made ticket q) w

-- the waiting request q, of this ticket, is withdrawn at m
abbrev pub Withdraws : ServiceConfig → ℕ → ServiceView → ℕ → Admitted → ServiceView → Type 0
Withdraws c m v ticket q w =
    MatchBool (is_forwarded q) (WithdrawsForwarded c m v ticket q w) (w ≡ without v ticket q)

-- the request that has the ticket is taken back where it waits
abbrev pub CancelsKnown : ServiceConfig → ℕ → ServiceView → ℕ → Option Admitted → ServiceOutcome → ServiceView → Type 0
CancelsKnown c m v ticket None outcome w = IsAnswered NotWaiting v outcome w
CancelsKnown c m v ticket (Some q) outcome w =
    MatchBool (is_waiting q)
    ((outcome ≡ Cancelled q.label) × Withdraws c m v ticket q w)
    (IsAnswered NotWaiting v outcome w)

-- the answer to a cancel
abbrev pub AnswersCancel : ServiceConfig → ℕ → ServiceView → ℕ → ServiceOutcome → ServiceView → Type 0
AnswersCancel c m v ticket outcome w = CancelsKnown c m v ticket (slice_get v.admitted ticket) outcome w
