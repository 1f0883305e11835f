use Rattle.std.proofs.Common.{ℕ, length, take, All, ◌-◌, ◌≡◌}
use Rattle.fq_model.specs.declared.config.Config.{Config}
use Rattle.fq_model.specs.History.{weight_at}
use Rattle.fq_model.specs.Fluid.{history_of_changes}
use Rattle.fluid_reference.specs.Slots.{ChangedBy, owner_of}
use Rattle.fluid_reference.proofs.replaying.weigh.Given as goal

abbrev pub invariant-change : goal.invariant-change
invariant-change l = record {
  came : ChangedBy l.changes l.at l.changed;
  weight : (C : Config) (t : ℕ) → All (λ c. owner_of c ≡ t) l.changes → l.fn.weight ≡ weight_at C (history_of_changes (take l.from l.changes)) t → l.weight ≡ weight_at C (history_of_changes (take l.changed l.changes)) t;
}

abbrev pub decreases-change : goal.decreases-change
decreases-change l = length l.changes - l.changed
