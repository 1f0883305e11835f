-- The Take at which a worker is turned away.
use Rattle.std.proofs.Common.{◌≡◌, ℕ, ◌⊎◌, List, Option, subst, inl, inr}
use Rattle.fq_model.specs.declared.event.Call.TheVariants as call
use Rattle.history_lock.specs.Passes.{LockView}
use Rattle.desk.specs.declared.floor.Crew.{Crew}
use Rattle.desk.specs.declared.tokens.Took.{Took}
use Rattle.desk.specs.declared.tokens.Took.TheVariants as took
use Rattle.desk.specs.declared.tokens.Worker.{Worker}
use Rattle.desk.specs.Replies.{took_reply, took_pass, took_worker}
use Rattle.desk.specs.Tokens.{Stays, IsAnswered}
use Rattle.gate_rules.specs.declared.counters.Counters.{Counters}
use Rattle.gate_rules.specs.declared.logged_gate.Asked.{Asked}
use Rattle.worker_gate.specs.Running.{Worked}
use Rattle.worker_gate.specs.Serving.{Serves}
use Rattle.worker_gate.proofs.ServingRuns.{worked}
use Rattle.worker_gate.proofs.ServingSteps.{rest_step}

module _ {J : Type 0} (label : J → ℕ) (lock : LockView Crew) (Tells : ℕ → Type 0) (course_of : ℕ → Option (List Counters)) (cost_of : Counters → ℕ) where
  -- the answer to a Take
  pub record HasTaken (old : Worker) (m : ℕ) (answer : Took J) : Type 0 where
    pub stays : Stays lock old.pass (took_pass answer)
    pub answers : IsAnswered lock.frame old.pass (call.Take old.pass.number m old.worker) (took_reply label answer) (took_pass answer)
    pub worker : took_worker answer ≡ old.worker

  pub turned_away : (start old back : Worker) (asked asked2 : List Asked) (m : ℕ) (answer : Took J) → Serves lock Tells course_of cost_of start old asked asked2 → Tells m → HasTaken old m answer
      → (answer ≡ took.Drained back) ⊎ ((workers : ℕ) × (answer ≡ took.Retired back workers)) → Worked lock course_of cost_of Tells start back asked asked2
  turned_away start old back asked asked2 m answer s tells h (inl is) =
      let x : HasTaken old m (took.Drained back) = subst (HasTaken old m) is h in
      worked lock Tells course_of cost_of start old back asked asked2 m _ s (rest_step lock Tells old back.pass m (took_reply label (took.Drained back)) x.stays tells tt x.answers) x.worker tt
  turned_away start old back asked asked2 m answer s tells h (inr (workers, is)) =
      let x : HasTaken old m (took.Retired back workers) = subst (HasTaken old m) is h in
      worked lock Tells course_of cost_of start old back asked asked2 m _ s (rest_step lock Tells old back.pass m (took_reply label (took.Retired back workers)) x.stays tells tt x.answers) x.worker tt
