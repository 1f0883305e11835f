use Rattle.std.proofs.Common.{arith}
use Rattle.std.proofs.lemmas.List.Sums.{sum_by_more_le}
use Rattle.fq_model.specs.Level.{gift_at}
use Rattle.water_level.proofs.Sums.{total_bound, gifts_low}
use Rattle.water_level.proofs.gifts.measured.Goals as goal

pub overflow_add-sum : goal.overflow_add-sum
overflow_add-sum c = omega (arith, total_bound c.args.rows.now c.requires.in_range c.requires.few, gifts_low c.args.x c.args.rows.now, c.loop-b.invariant, c.gift_at-gift.ensures, sum_by_more_le (gift_at c.args.x) c.args.rows.now c.loop-b.b-index (record { units = 0; weight = 0 }) c.loop-b-test.true)
