use Rattle.std.proofs.Common.{◌≡◌, take}
use Rattle.fq_model.specs.Level.{gifts_at}
use Rattle.water_level.proofs.gifts.measured.Given as goal

abbrev pub invariant-loop-b : goal.invariant-loop-b
invariant-loop-b l = l.sum ≡ gifts_at l.x (take l.b-index l.rows)
