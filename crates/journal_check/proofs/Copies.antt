-- A configuration that is copied stays in its limits.
use Rattle.std.proofs.Common.{ℕ, nat_lt, false, List, ◌≡◌, ◌∙◌, Result, Ok, Err, Some, None, refl, ap, arith}
use Rattle.std.proofs.lemmas.Bool.{le-ltb}
use Rattle.std.specs.Prelude.{IsOk, IfErr}
use Rattle.fq_model.specs.declared.config.Config.{Config}
use Rattle.fq_model.specs.declared.config.Policy.{Policy}
use Rattle.fq_model.specs.declared.config.Estimator.{Estimator}
use Rattle.fq_model.specs.declared.config.ConfigFault.{ConfigFault}
use Rattle.fq_model.specs.Limits.{InLimits, config_fault}
use Rattle.fq_model.specs.declared.limits.Limits.{Limits}
use Rattle.fq_laws.proofs.Faults.{no_fault}

-- a configuration of the numbers of another is equal to it
pub same_config : (C : Config) (limits : Limits) (workers : ℕ) (weights : List ℕ) (kinds entries requests : ℕ) (policy : Policy) (estimate : Estimator) (initial : ℕ)
    → limits ≡ C.limits → workers ≡ C.workers → weights ≡ C.weights → kinds ≡ C.kinds → entries ≡ C.entries → requests ≡ C.requests → policy ≡ C.policy → estimate ≡ C.estimate → initial ≡ C.initial
    → ◌≡◌ {A = Config} (record { limits = limits; workers = workers; weights = weights; kinds = kinds; entries = entries; requests = requests; policy = policy; estimate = estimate; initial = initial }) C
same_config C limits workers weights kinds entries requests policy estimate initial z a b c d e f g h = rw (z, a, b, c, d, e, f, g, h) refl

-- a configuration that is equal to one in its limits has no fault
pub checked : {A : Type 0} (copy C : Config) (made : Result A ConfigFault) → copy ≡ C → InLimits C → IfErr made (λ fault. config_fault copy ≡ Some fault) → IsOk made
checked copy C (Ok x) same limits fault = refl
checked copy C (Err e) same limits fault = let none : config_fault copy ≡ None = ap config_fault same ∙ no_fault C limits in absurd (cc)
