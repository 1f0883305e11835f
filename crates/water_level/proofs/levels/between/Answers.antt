use Rattle.std.proofs.Common.{arith}
use Rattle.water_level.proofs.Sums.{gifts_none}
use Rattle.water_level.proofs.TheOne.{gifts_highest}
use Rattle.water_level.proofs.levels.between.Goals as goal

pub closer-init : goal.closer-init
closer-init c = record {
  fits = omega (arith, gifts_none c.args.rows.now);
  over = omega (arith, c.requires.over, gifts_highest c.args.rows.now c.requires.in_range);
}
