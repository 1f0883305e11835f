use Rattle.std.proofs.Common.{arith, ◌<◌}
use Rattle.fq_model.specs.declared.level.Level.TheVariants as levels
use Rattle.fq_model.specs.Level.{total_units}
use Rattle.water_level.proofs.Left.{leaves_few}
use Rattle.water_level.proofs.levels.level.Goals as goal

pub between-low-requires-clause-over : goal.between-low-requires-clause-over
between-low-requires-clause-over c = omega (arith, c.if-sum_of_units-cap.false, c.sum_of_units.ensures)

pub returns-clause-level : goal.returns-clause-level
returns-clause-level c =
    let over : c.args.cap < total_units c.args.rows.now = omega (arith, c.if-sum_of_units-cap.false, c.sum_of_units.ensures) in
    (over, c.search.ensures)

pub returns-clause-leaves : goal.returns-clause-leaves
returns-clause-leaves c =
    let over : c.args.cap < total_units c.args.rows.now = omega (arith, c.if-sum_of_units-cap.false, c.sum_of_units.ensures) in
    leaves_few c.args.cap c.args.rows.now (levels.At c.search.result) c.requires.in_range (over, c.search.ensures)
