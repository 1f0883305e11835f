-- A course as far as a worker has followed it.
use Rattle.std.proofs.Common.{◌≡◌, ℕ, suc, ◌<◌, List, [], ◌∷◌, map, length, Option, Some, None, ap, ◌∙◌, refl, arith}
use Rattle.fq_model.specs.declared.limits.TheConstants.{MOST_SLICES}
use Rattle.gate_rules.specs.declared.counters.Counters.{Counters}
use Rattle.gate_rules.specs.declared.counters.TheConstants.{NO_COUNTERS}
use Rattle.gate_rules.specs.declared.gate.Slice.{Slice}
use Rattle.gate_rules.specs.declared.gate.Slice.TheVariants.{More, End}
use Rattle.gate_rules.specs.Slices.{counters_after, counters_before, IsCourse, Follows, FollowsIfTold, GoesOn}
use Rattle.worker_gate.specs.Running.{Use, JobRun, uses_after, IsAsTold}
use Rattle.gate_rules.proofs.Slices.{slices_go_on}

module _ (cost_of : Counters → ℕ) where
  -- there is a slice k, these are the counters before it, and these the uses of the slices before
  pub record IsAt (course : List Counters) (k : ℕ) (last : Counters) (uses : List Use) : Type 0 where
    pub here : IsCourse course → k < length course
    pub last_is : last ≡ counters_before course k
    pub uses_are : map (λ u. u.used) uses ≡ uses_after cost_of course k

  -- so it is where the gate tells the course
  abbrev pub IsAtIfTold : Option (List Counters) → ℕ → Counters → List Use → Type 0
  IsAtIfTold None k last uses = Unit {0}
  IsAtIfTold (Some course) k last uses = IsAt course k last uses

  pub at_first : (course : Option (List Counters)) → IsAtIfTold course 0 NO_COUNTERS []
  at_first None = tt
  at_first (Some course) = record { here = λ c. c.some; last_is = refl; uses_are = refl }

  goes_so : (course : List Counters) (k : ℕ) (last : Counters) (uses : List Use) (answer : Slice) → Follows course k last answer → IsAt course k last uses → GoesOn course k answer
  goes_so course k last uses answer f at = slices_go_on course k last answer f (at.here f.is_course) at.last_is

  -- after a slice that is not the last, and the use of it
  pub at_next : (course : Option (List Counters)) (k : ℕ) (last counters : Counters) (uses : List Use) (use_ : Use) → FollowsIfTold course k last (More counters) → IsAtIfTold course k last uses → use_.used ≡ cost_of counters → IsAtIfTold course (suc k) counters (use_ ∷ uses)
  at_next None k last counters uses use_ f at is = tt
  at_next (Some course) k last counters uses use_ f at is =
      let on : GoesOn course k (More counters) = goes_so course k last uses (More counters) f at in
      let used : use_.used ≡ cost_of (counters_after course k) = is ∙ ap cost_of on.1 in
      record { here = λ _. on.0; last_is = on.1; uses_are = ap (λ n. n ∷ map (λ u. u.used) uses) used ∙ ap (λ l. cost_of (counters_after course k) ∷ l) at.uses_are }

  -- after the last slice
  pub at_end : (course : Option (List Counters)) (k : ℕ) (last counters : Counters) (run : JobRun) → FollowsIfTold course k last (End counters) → IsAtIfTold course k last run.uses → run.cost ≡ cost_of counters → IsAsTold cost_of course run
  at_end None k last counters run f at is = tt
  at_end (Some course) k last counters run f at is =
      let on : GoesOn course k (End counters) = goes_so course k last run.uses (End counters) f at in
      record { is_course = f.is_course; last = k; last_is = on.0; uses_are = at.uses_are; cost_is = is ∙ ap cost_of on.1 }

  -- the last slice that there may be is the end, whatever the gate answers
  pub at_most : (course : Option (List Counters)) (k : ℕ) (last counters : Counters) (run : JobRun) → suc k ≡ MOST_SLICES → FollowsIfTold course k last (More counters) → IsAtIfTold course k last run.uses → run.cost ≡ cost_of counters → IsAsTold cost_of course run
  at_most None k last counters run most f at is = tt
  at_most (Some course) k last counters run most f at is =
      let on : GoesOn course k (More counters) = goes_so course k last run.uses (More counters) f at in
      absurd (omega (arith, on.0, most, f.is_course.few))
