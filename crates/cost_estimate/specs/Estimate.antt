-- The answer of an estimator, and its learning, by the completed requests that it stands for.
use Rattle.std.specs.Prelude.{ℕ, ◌≡◌, List, ◌∷◌}
use Rattle.fq_model.specs.declared.config.Estimator.{Estimator}
use Rattle.fq_model.specs.Charge.{Completed, completed_costs, estimate_from}

-- whatever completed requests stand, the answer is the rule's estimate from the costs of this tenant and kind
abbrev pub IsEstimate : (List Completed → Type 0) → Estimator → ℕ → ℕ → ℕ → ℕ → ℕ → Type 0
IsEstimate Stands rule initial tenant kind declared answer =
    (cs : List Completed) → Stands cs → answer ≡ estimate_from rule initial (completed_costs cs tenant kind) declared

-- whatever completed requests stood before, they and one more stand after
abbrev pub Learns : (List Completed → Type 0) → (List Completed → Type 0) → ℕ → ℕ → ℕ → Type 0
Learns Before After tenant kind cost =
    (cs : List Completed) → Before cs → After (record { tenant = tenant; kind = kind; cost = cost } ∷ cs)
