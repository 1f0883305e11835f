use Rattle.std.proofs.Common.{length, ◌-◌, ◌≡◌, ◌≤◌, All, take}
use Rattle.fq_model.specs.declared.limits.TheConstants.{TEXT_WORKERS}
use Rattle.fq_model.specs.declared.config.Config.{Config}
use Rattle.fq_model.specs.Limits.{IsTextWeight, IsWithin}
use Rattle.fluid_reference.specs.Slots.{SettingIs}
use Rattle.fluid_reference.proofs.setting.change.Given as goal

abbrev pub invariant-change : goal.invariant-change
invariant-change l = record {
  len : length l.weights ≡ length l.fn.weights;
  place : l.changed ≤ length l.changes;
  weights : All IsTextWeight l.weights;
  workers : IsWithin 1 TEXT_WORKERS l.workers;
  set : (C : Config) → SettingIs C (take l.from l.changes) l.fn.weights l.fn.workers → SettingIs C (take l.changed l.changes) l.weights l.workers;
  before : All (λ c. c.moment ≤ l.at) (take l.changed l.changes);
}

abbrev pub decreases-change : goal.decreases-change
decreases-change l = length l.changes - l.changed
