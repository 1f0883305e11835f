-- The estimator of a history at one entry more.
use Rattle.std.proofs.Common.{List, true, ℕ, ◌≡◌, refl, sym, subst, ◌∙◌, ◌∷◌}
use Rattle.fq_model.specs.declared.config.Config.{Config}
use Rattle.fq_model.specs.History.{History}
use Rattle.fq_model.specs.declared.event.Act.{Act}
use Rattle.fq_model.specs.declared.event.Act.TheVariants.{Done}
use Rattle.fq_laws.specs.Words.{is_quiet}
use Rattle.std.proofs.lemmas.Bool.{false≢true}
use Rattle.fq_model.specs.Charge.{Completed, completed, completed_costs, with_completion, estimate_from, estimate_at}
use Rattle.cost_estimate.specs.declared.any.AnyCost.{AnyCost}
use Rattle.cost_estimate.specs.AnyCost.{rule_of, initial_of, tenants_of, kinds_of, StandsFor}
use Rattle.sched_state.specs.Costs.{CostsAre}

-- another history with the same completed requests
pub costs_stay : (C : Config) (P Q : History) (costs : AnyCost) → CostsAre C P costs → completed Q ≡ completed P → CostsAre C Q costs
costs_stay C P Q costs is same = record { rule = is.rule; initial = is.initial; tenants = is.tenants; kinds = is.kinds; learned = subst (StandsFor costs) (sym same) is.learned }

-- its answer is the estimate
pub estimate_is : (C : Config) (P : History) (costs : AnyCost) (tenant kind declared : ℕ) → CostsAre C P costs → estimate_from (rule_of costs) (initial_of costs) (completed_costs (completed P) tenant kind) declared ≡ estimate_at C P tenant kind declared
unfolding estimate_at
estimate_is C P costs tenant kind declared is = rw (is.rule, is.initial) refl

-- one more completed request is learned
pub costs_learned : (C : Config) (P Q : History) (one : Completed) (old new : AnyCost) → CostsAre C P old → completed Q ≡ one ∷ completed P → rule_of new ≡ rule_of old → initial_of new ≡ initial_of old → tenants_of new ≡ tenants_of old → kinds_of new ≡ kinds_of old → StandsFor new (one ∷ completed P) → CostsAre C Q new
costs_learned C P Q one old new is more rule initial tenants kinds learned = record {
  rule = rule ∙ is.rule;
  initial = initial ∙ is.initial;
  tenants = tenants ∙ is.tenants;
  kinds = kinds ∙ is.kinds;
  learned = subst (StandsFor new) (sym more) learned;
}

-- an act that touches no request completes none
pub completed_quiet : (P : History) (a : Act) (older : List Completed) → is_quiet a ≡ true → with_completion P a older ≡ older
completed_quiet P (Done worker request cost) older q = absurd (false≢true q)
completed_quiet P _ older q = refl
