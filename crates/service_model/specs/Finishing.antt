-- The end of a request, and what may go then.
use Rattle.std.specs.Prelude.{ℕ, ◌-◌, ◌≡◌, not, ◌&&◌, min, max, length, is_none, MatchBool}
use Rattle.std.specs.List.{FoldsTo, range_with_len}
use Rattle.vt_fixed.specs.declared.limits.TheConstants.{GREATEST_COST}
use Rattle.fq_model.specs.declared.event.Call.TheVariants as call
use Rattle.fq_model.specs.declared.event.Reply.TheVariants as answer
use Rattle.worker_reserve.specs.declared.reserve.Finished.{Finished}
use Rattle.worker_reserve.specs.Reserve.{with_end}
use Rattle.service_model.specs.declared.config.ServiceConfig.{ServiceConfig}
use Rattle.service_model.specs.declared.outcome.ServiceOutcome.{ServiceOutcome}
use Rattle.service_model.specs.declared.outcome.ServiceOutcome.TheVariants.{Accepted, Refused}
use Rattle.service_model.specs.declared.refusal.ServiceRefusal.TheVariants.{NotRunning}
use Rattle.service_model.specs.View.{Run, Ended, Admitted, ServiceView, IsOnWorker, ticket_on, reported, runs_before, with_standing}
use Rattle.service_model.specs.Scheduling.{MakesAt}
use Rattle.service_model.specs.Limits.{Releases}
use Rattle.service_model.specs.Idling.{with_end_of}
use Rattle.service_model.specs.Rows.{IsAnswered}

-- the cost of a run that ends at this one: raised to 1, to the greatest use that its worker named and to the last
-- report, and lowered to the greatest cost
abbrev pub cost_at_end : ServiceView → Run → ℕ → ℕ
cost_at_end v run cost = min (max (max 1 cost) (max run.named (reported v run))) GREATEST_COST

-- the run as the reserve sees its end
abbrev pub finished : ℕ → Run → ℕ → Finished
finished m run cost = record {
  moment = m;
  ran = m - run.taken;
  estimate = run.estimate;
  cost = cost;
  is_visitor = run.is_visitor;
}

-- the request q, of this ticket, has ended
abbrev pub with_ended : ℕ → ServiceView → ℕ → Admitted → Run → ℕ → ServiceView
with_ended m v ticket q run cost =
    with_end_of (record (with_standing v ticket q Ended) { reserve = with_end v.reserve (finished m run cost) }) q.slot

-- each slot in order forwards what it holds and may
abbrev pub ReleasesEach : ServiceConfig → ℕ → ServiceView → ServiceView → Type 0
ReleasesEach c m v w = FoldsTo (λ u slot x. Releases c m slot u x) v (range_with_len 0 (length v.slots)) w

-- The run of a worker ends at m. Then what its tenant holds may go; and, where it was the last that ran in a
-- scheduler before the present one, so that there may be a next one again, what all tenants hold.
pub record Finishes (c : ServiceConfig) (m : ℕ) (v : ServiceView) (worker cost : ℕ) (w : ServiceView) : Type 0 where
  pub ticket : ℕ
  pub q : Admitted
  pub run : Run
  pub runs : IsOnWorker v worker ticket q run
  pub made : ServiceView
  pub makes : MakesAt v run.scheduler (call.Done worker m worker (cost_at_end v run cost)) answer.Accepted made
  pub ended : ServiceView
  pub ended_is : ended ≡ with_ended m made ticket q run (cost_at_end v run cost)
  pub released : ServiceView
  pub releases : Releases c m q.slot ended released
  pub releases_each : MatchBool (runs_before v && not (runs_before ended))
      (ReleasesEach c m released w)
      (w ≡ released)

-- the answer to finish
abbrev pub AnswersFinish : ServiceConfig → ℕ → ServiceView → ℕ → ℕ → ServiceOutcome → ServiceView → Type 0
AnswersFinish c m v worker cost outcome w =
    MatchBool (is_none (ticket_on v worker))
    (IsAnswered (Refused NotRunning) v outcome w)
    ((outcome ≡ Accepted) × Finishes c m v worker cost w)
