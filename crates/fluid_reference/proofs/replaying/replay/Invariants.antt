use Rattle.std.proofs.Common.{◌*◌, ◌-◌, ◌≤◌, ◌≡◌, length, suc, take}
use Rattle.fq_model.specs.History.{weight_at}
use Rattle.fq_model.specs.Fluid.{history_of_changes}
use Rattle.fq_model.specs.Sums.{list_below}
use Rattle.fluid_reference.specs.Slots.{CameBy, ChangedBy, replayed}
use Rattle.fluid_reference.proofs.replaying.replay.Given as goal

abbrev pub invariant-slots : goal.invariant-slots
invariant-slots l = record {
  within : l.k ≤ length l.levels;
  joined : CameBy l.own (l.k * l.slot) l.joined l.cost;
  changed : ChangedBy l.changes (l.k * l.slot) l.changed;
  weight : l.weight ≡ weight_at l.config (history_of_changes (take l.changed l.changes)) l.tenant;
  served : l.served ≡ replayed l.config l.rows l.fn.changes l.levels l.slot l.tenant l.k;
  services : l.services.items ≡ list_below (λ k. replayed l.config l.rows l.fn.changes l.levels l.slot l.tenant (suc k)) l.k;
}

abbrev pub decreases-slots : goal.decreases-slots
decreases-slots l = length l.levels - l.k
