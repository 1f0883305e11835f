-- Next is answered by rest for a cause.
use Rattle.std.proofs.Common.{ℕ, ◌≡◌, ◌<◌, ◌≤◌, ◌∙◌, ◌⊎◌, Bool, true, false, Option, nat_lt, sym, subst, arith, inl, inr}
use Rattle.std.specs.Prelude.{◌&&◌}
use Rattle.std.proofs.lemmas.Bool.{cases_lt}
use Rattle.std.proofs.lemmas.Bool.Decides.{nat_tests}
use Rattle.service_model.specs.declared.call.ServiceCall.{ServiceCall}
use Rattle.service_model.specs.declared.call.ServiceCall.TheVariants as call
use Rattle.service_model.specs.declared.config.ServiceConfig.{ServiceConfig}
use Rattle.service_model.specs.declared.outcome.ServiceOutcome.{ServiceOutcome}
use Rattle.service_model.specs.declared.outcome.ServiceOutcome.TheVariants as told
use Rattle.service_model.specs.View.{ServiceView, has_any, is_forwarded, running_count, workers_now}
use Rattle.service_model.specs.Moments.{at_moment}
use Rattle.service_model.specs.Deadlines.{has_late, WithdrawsLate}
use Rattle.service_model.specs.Granting.{AnswersNext, AsksWorkers, Rests, may_grant}
use Rattle.service_model.specs.Answers.{AnswersAt}
use Rattle.service_model.specs.Runs.{moment_of_step}
use Rattle.service_model.specs.Laws.{RestsForCause, AllFreeDecline}
use Rattle.service_laws.proofs.Lists.{either, second_false}
use Rattle.service_laws.proofs.Outcomes.{IsPlain, plainly}

-- nothing waits in the present scheduler, or all workers run something, or the free ones decline
abbrev pub HasCause : ServiceConfig → ℕ → ServiceView → Type 0
HasCause c m v =
    (has_any v is_forwarded ≡ false) ⊎ ((workers_now v ≤ running_count v) ⊎ AllFreeDecline c m v)

-- an outcome that is neither late nor a grant
abbrev IsNoWork : ServiceOutcome → Type 0
IsNoWork (told.Grant grant) = ⊥
IsNoWork (told.Late label ticket) = ⊥
IsNoWork _ = Unit {0}

no_work : {o p : ServiceOutcome} (until : Option ℕ) → o ≡ told.Rest until → o ≡ p → IsNoWork p
no_work until rest e = subst IsNoWork (sym rest ∙ e) tt

below : (running workers : ℕ) → running < workers → nat_lt running workers ≡ true
below running workers l = grind (arith, nat_tests)

none_or_full : (running workers : ℕ) (some : Bool) → nat_lt running workers && some ≡ false
    → (some ≡ false) ⊎ (workers ≤ running)
none_or_full running workers some none = elim (cases_lt running workers) [
  | inl l ↦ inl (second_false (nat_lt running workers) some (below running workers l) none)
  | inr l ↦ inr l
]

module _ (c : ServiceConfig) (m : ℕ) (v : ServiceView) (o : ServiceOutcome) (w : ServiceView) (until : Option ℕ)
    (rest : o ≡ told.Rest until) where
  by_asking : AsksWorkers c m v o w → HasCause c m v
  by_asking x = elim x.asks [
    | inl takes ↦ absurd (no_work until rest takes.grants.outcome_is)
    | inr rests ↦ inr (inr (record { fresh = x.fresh; refreshes = x.refreshes; decline = rests.0 }))
  ]

  idle : may_grant v ≡ false → HasCause c m v
  idle none = elim (none_or_full (running_count v) (workers_now v) (has_any v is_forwarded) none) [
    | inl e ↦ inl e
    | inr l ↦ inr (inl l)
  ]

  pub by_next : AnswersNext c m v o w → HasCause c m v
  by_next x =
      either (has_late v m) (WithdrawsLate c m v o w) _ (HasCause c m v)
      (λ _ y. absurd (no_work until rest y.outcome_is))
      (λ _ y. either (may_grant v) (AsksWorkers c m v o w) (Rests m v 0 o w) (HasCause c m v)
      (λ _ z. by_asking z)
      (λ none z. idle none)
      y)
      x

by_call : (c : ServiceConfig) (m : ℕ) (v : ServiceView) (asked : ServiceCall) (o : ServiceOutcome) (w : ServiceView)
    (until : Option ℕ) → o ≡ told.Rest until → AnswersAt c m v asked o w → HasCause c m v
by_call c m v (call.Next moment) o w until rest x = by_next c m v o w until rest x
by_call c m v (call.Submit moment slot generation kind declared deadline label) o w until rest x =
    absurd (subst IsPlain rest (plainly c m v (call.Submit moment slot generation kind declared deadline label) o w tt x))
by_call c m v (call.Cancel moment t) o w until rest x =
    absurd (subst IsPlain rest (plainly c m v (call.Cancel moment t) o w tt x))
by_call c m v (call.Used moment worker cost) o w until rest x =
    absurd (subst IsPlain rest (plainly c m v (call.Used moment worker cost) o w tt x))
by_call c m v (call.Finish moment worker cost) o w until rest x =
    absurd (subst IsPlain rest (plainly c m v (call.Finish moment worker cost) o w tt x))
by_call c m v (call.Join moment weight) o w until rest x =
    absurd (subst IsPlain rest (plainly c m v (call.Join moment weight) o w tt x))
by_call c m v (call.Weight moment slot weight) o w until rest x =
    absurd (subst IsPlain rest (plainly c m v (call.Weight moment slot weight) o w tt x))
by_call c m v (call.Limit moment slot most) o w until rest x =
    absurd (subst IsPlain rest (plainly c m v (call.Limit moment slot most) o w tt x))
by_call c m v (call.Workers moment count) o w until rest x =
    absurd (subst IsPlain rest (plainly c m v (call.Workers moment count) o w tt x))
by_call c m v (call.Close moment) o w until rest x =
    absurd (subst IsPlain rest (plainly c m v (call.Close moment) o w tt x))

pub rests_for_cause : RestsForCause
rests_for_cause c step older sound run until rest =
    by_call c (moment_of_step step) (at_moment step.before (moment_of_step step)) step.asked step.outcome
    run.2.answered until rest run.2.answers
