-- Nothing is granted after its deadline.
use Rattle.std.proofs.Common.{ℕ, ◌≡◌, ◌∙◌, true, false, Some, None, refl, sym, ap, inl, inr}
use Rattle.std.specs.Prelude.{slice_get, ◌||◌}
use Rattle.std.proofs.lemmas.Bool.{eqb-true}
use Rattle.service_model.specs.declared.call.ServiceCall.{ServiceCall}
use Rattle.service_model.specs.declared.call.ServiceCall.TheVariants as call
use Rattle.service_model.specs.declared.config.ServiceConfig.{ServiceConfig}
use Rattle.service_model.specs.declared.outcome.ServiceOutcome.{ServiceOutcome}
use Rattle.service_model.specs.declared.outcome.ServiceOutcome.TheVariants as told
use Rattle.service_model.specs.View.{Forwarded, Admitted, ServiceView, stands_forwarded, stands_held, is_waiting}
use Rattle.service_model.specs.Moments.{at_moment}
use Rattle.service_model.specs.Submission.{is_before}
use Rattle.service_model.specs.Deadlines.{is_late, has_late, WithdrawsLate}
use Rattle.service_model.specs.Granting.{AnswersNext, AsksWorkers, Grants, Rests, may_grant}
use Rattle.service_model.specs.Answers.{AnswersAt}
use Rattle.service_model.specs.Runs.{granted_by, is_ticket, moment_of_step}
use Rattle.service_model.specs.Laws.{NoGrantIsLate}
use Rattle.service_laws.proofs.Lists.{either, none_passes, second_false, some_same}
use Rattle.service_laws.proofs.Outcomes.{IsPlain, plainly}
use Rattle.service_laws.proofs.Refreshed.{SameRequests, refreshed, requests_stay}

-- the outcome grants the request of this ticket, which waits in v, and whose deadline is not before m
record GrantsInTime (v : ServiceView) (m ticket : ℕ) : Type 0 where
  pub q : Admitted
  pub admitted : slice_get v.admitted ticket ≡ Some q
  pub in_time : is_before q.deadline m ≡ false

-- a plain outcome grants nothing
no_grant : (o : ServiceOutcome) → IsPlain o → granted_by o ≡ None
no_grant (told.Grant grant) x = absurd x
no_grant (told.Rest until) x = absurd x
no_grant (told.Ticket t) x = refl
no_grant (told.Cancelled label) x = refl
no_grant told.NotWaiting x = refl
no_grant (told.Late label t) x = refl
no_grant (told.Slot slot generation) x = refl
no_grant told.Accepted x = refl
no_grant (told.Refused cause) x = refl

-- what grants nothing grants no ticket
none_granted : (ticket : ℕ) (o : ServiceOutcome) → granted_by o ≡ None → is_ticket ticket (granted_by o) ≡ true → ⊥
none_granted ticket o none is = let k : false ≡ true = ap (is_ticket ticket) (sym none) ∙ is in absurd (cc)

-- a request that is forwarded, and does not wait past its deadline
in_time : (v : ServiceView) (m ticket request : ℕ) (q : Admitted) → has_late v m ≡ false
    → slice_get v.admitted ticket ≡ Some q → q.stands ≡ Forwarded request → is_before q.deadline m ≡ false
in_time v m ticket request q none at stands =
    second_false (is_waiting q) (is_before q.deadline m)
    (ap (λ s. stands_held s || stands_forwarded s) stands)
    (none_passes (is_late m) v.admitted none ticket q at)

module _ (c : ServiceConfig) (m : ℕ) (v : ServiceView) (o : ServiceOutcome) (w : ServiceView) (ticket : ℕ) where
  abbrev pub InTime : Type 0
  InTime = (q : Admitted) → slice_get v.admitted ticket ≡ Some q → is_before q.deadline m ≡ false

  by_grant : has_late v m ≡ false → (fresh : ServiceView) → fresh.admitted ≡ v.admitted → (worker : ℕ)
      → Grants m fresh worker o w → is_ticket ticket (granted_by o) ≡ true → InTime
  by_grant none fresh same worker x is q at =
      let ticket_is : x.ticket ≡ ticket = eqb-true x.ticket ticket (ap (λ p. is_ticket ticket (granted_by p)) (sym x.outcome_is) ∙ is) in
      let there : slice_get v.admitted ticket ≡ Some x.q =
      ap (λ l. slice_get l ticket) (sym same) ∙ ap (slice_get fresh.admitted) (sym ticket_is) ∙ x.admitted in
      let q_is : x.q ≡ q = some_same x.q q (sym there ∙ at) in
      ap (λ p. is_before p.deadline m) (sym q_is) ∙ in_time v m ticket x.request x.q none there x.stands

  by_asking : has_late v m ≡ false → AsksWorkers c m v o w → is_ticket ticket (granted_by o) ≡ true → InTime
  by_asking none x is = elim x.asks [
    | inl takes ↦ by_grant none x.fresh (refreshed SameRequests requests_stay c m v x.fresh x.refreshes).admitted takes.worker takes.grants is
    | inr rests ↦ absurd (none_granted ticket o (ap granted_by rests.1.0) is)
  ]

  pub by_next : AnswersNext c m v o w → is_ticket ticket (granted_by o) ≡ true → InTime
  by_next x is =
      either (has_late v m) (WithdrawsLate c m v o w) _ InTime
      (λ _ y. absurd (none_granted ticket o (ap granted_by y.outcome_is) is))
      (λ none y. either (may_grant v) (AsksWorkers c m v o w) (Rests m v 0 o w) InTime
      (λ _ z. by_asking none z is)
      (λ _ z. absurd (none_granted ticket o (ap granted_by z.0) is))
      y)
      x

by_call : (c : ServiceConfig) (m : ℕ) (v : ServiceView) (asked : ServiceCall) (o : ServiceOutcome) (w : ServiceView)
    (ticket : ℕ) → AnswersAt c m v asked o w → is_ticket ticket (granted_by o) ≡ true → (q : Admitted)
    → slice_get v.admitted ticket ≡ Some q → is_before q.deadline m ≡ false
by_call c m v (call.Next moment) o w ticket x is = by_next c m v o w ticket x is
by_call c m v (call.Submit moment slot generation kind declared deadline label) o w ticket x is =
    absurd (none_granted ticket o (no_grant o (plainly c m v (call.Submit moment slot generation kind declared deadline label) o w tt x)) is)
by_call c m v (call.Cancel moment t) o w ticket x is =
    absurd (none_granted ticket o (no_grant o (plainly c m v (call.Cancel moment t) o w tt x)) is)
by_call c m v (call.Used moment worker cost) o w ticket x is =
    absurd (none_granted ticket o (no_grant o (plainly c m v (call.Used moment worker cost) o w tt x)) is)
by_call c m v (call.Finish moment worker cost) o w ticket x is =
    absurd (none_granted ticket o (no_grant o (plainly c m v (call.Finish moment worker cost) o w tt x)) is)
by_call c m v (call.Join moment weight) o w ticket x is =
    absurd (none_granted ticket o (no_grant o (plainly c m v (call.Join moment weight) o w tt x)) is)
by_call c m v (call.Weight moment slot weight) o w ticket x is =
    absurd (none_granted ticket o (no_grant o (plainly c m v (call.Weight moment slot weight) o w tt x)) is)
by_call c m v (call.Limit moment slot most) o w ticket x is =
    absurd (none_granted ticket o (no_grant o (plainly c m v (call.Limit moment slot most) o w tt x)) is)
by_call c m v (call.Workers moment count) o w ticket x is =
    absurd (none_granted ticket o (no_grant o (plainly c m v (call.Workers moment count) o w tt x)) is)
by_call c m v (call.Close moment) o w ticket x is =
    absurd (none_granted ticket o (no_grant o (plainly c m v (call.Close moment) o w tt x)) is)

pub no_grant_is_late : NoGrantIsLate
no_grant_is_late c step older sound run ticket q is at =
    by_call c (moment_of_step step) (at_moment step.before (moment_of_step step)) step.asked step.outcome
    run.2.answered ticket run.2.answers is q at
