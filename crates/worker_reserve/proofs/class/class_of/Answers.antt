use Rattle.std.proofs.Common.{arith}
use Rattle.worker_reserve.proofs.Powers.{class_is, class_few}
use Rattle.worker_reserve.proofs.class.class_of.Goals as goal

pub returns-clause-class : goal.returns-clause-class
returns-clause-class c = class_is c.args.size c.max.result c.ilog2.result c.max.ensures c.ilog2.ensures.power_le c.ilog2.ensures.next_power_gt (omega (arith, c.ilog2.ensures.bound))

pub returns-clause-few : goal.returns-clause-few
returns-clause-few c = λ few. class_few c.max.result c.ilog2.result c.ilog2.ensures.power_le (omega (arith, c.max.ensures, few))
