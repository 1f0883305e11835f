-- The estimator that a configuration names, by cases.
use Rattle.std.specs.Prelude.{ℕ, List}
use Rattle.fq_model.specs.declared.config.Estimator.{Estimator}
use Rattle.fq_model.specs.declared.config.Estimator.TheVariants as rules
use Rattle.fq_model.specs.Charge.{Completed}
use Rattle.cost_estimate.specs.declared.any.AnyCost.{AnyCost}
use Rattle.cost_estimate.specs.declared.any.AnyCost.TheVariants.{Declared, Recent, Pessimistic}
use Rattle.cost_estimate.specs.Tables.{HasGreatest, HasRecent}

abbrev pub rule_of : AnyCost → Estimator
rule_of (Declared e) = rules.Declared
rule_of (Recent e) = rules.Recent
rule_of (Pessimistic e) = rules.Pessimistic

abbrev pub initial_of : AnyCost → ℕ
initial_of (Declared e) = e.initial
initial_of (Recent e) = e.initial
initial_of (Pessimistic e) = e.initial

abbrev pub tenants_of : AnyCost → ℕ
tenants_of (Declared e) = e.pairs.tenants
tenants_of (Recent e) = e.pairs.tenants
tenants_of (Pessimistic e) = e.pairs.tenants

abbrev pub kinds_of : AnyCost → ℕ
kinds_of (Declared e) = e.pairs.kinds
kinds_of (Recent e) = e.pairs.kinds
kinds_of (Pessimistic e) = e.pairs.kinds

-- the estimator in it stands for these completed requests
abbrev pub StandsFor : AnyCost → List Completed → Type 0
StandsFor (Declared e) cs = Unit {0}
StandsFor (Recent e) cs = HasRecent e.pairs.tenants e.pairs.kinds e.rings.items cs
StandsFor (Pessimistic e) cs = HasGreatest e.pairs.tenants e.pairs.kinds e.initial e.greatest.items cs
