use Rattle.std.proofs.Common.{◌≡◌, take}
use Rattle.fq_model.specs.Level.{total_units}
use Rattle.water_level.proofs.gifts.sum_of_units.Given as goal

abbrev pub invariant-loop-b : goal.invariant-loop-b
invariant-loop-b l = l.sum ≡ total_units (take l.b-index l.rows)
