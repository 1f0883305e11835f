-- A configuration under other limits; and acts and calls that give no more than some weight.
use Rattle.std.specs.Prelude.{ℕ, ◌≤◌, All}
use Rattle.fq_model.specs.declared.config.Config.{Config}
use Rattle.fq_model.specs.declared.event.Act.{Act}
use Rattle.fq_model.specs.declared.event.Act.TheVariants.{Weight}
use Rattle.fq_model.specs.declared.event.Call.{Call}
use Rattle.fq_model.specs.declared.event.Call.TheVariants as call
use Rattle.fq_model.specs.declared.limits.Limits.{Limits}
use Rattle.fq_model.specs.History.{History}

-- the configuration of these numbers that keeps the limits l
abbrev pub with_limits : Limits → Config → Config
with_limits l C = record C { limits = l }

-- the act is no Weight, or gives its tenant at most this weight
abbrev pub GivesAtMost : ℕ → Act → Type 0
GivesAtMost greatest (Weight tenant weight) = weight ≤ greatest
GivesAtMost greatest _ = Unit {0}

-- no entry of the history gives a tenant more than this weight
abbrev pub WeightsAtMost : ℕ → History → Type 0
WeightsAtMost greatest P = All (λ e. GivesAtMost greatest e.act) P

-- the call is no Weight, or asks for at most this weight
abbrev pub AsksAtMost : ℕ → Call → Type 0
AsksAtMost greatest (call.Weight who moment tenant weight) = weight ≤ greatest
AsksAtMost greatest _ = Unit {0}
