use Rattle.std.proofs.Common.{arith, ◌^◌}
use Rattle.std.proofs.Math.Nat.{div-le_self}
use Rattle.worker_table.proofs.Words.{first_left, none_left}
use Rattle.worker_table.proofs.bits.first_bit.Goals as goal

-- src/bits.rt:13:9
pub returns-then-rest-eq0-clause-none : goal.returns-then-rest-eq0-clause-none
returns-then-rest-eq0-clause-none c = none_left c.args.word c.args.from c.if-rest-eq0.true

-- src/bits.rt:6:1
pub returns-clause-some : goal.returns-clause-some
returns-clause-some c =
    first_left
    c.args.word
    c.args.from
    c.ranges.word.fits
    (omega (arith, c.if-rest-eq0.false))
    (omega (arith, c.ranges.word.fits, div-le_self c.args.word (2 ^ c.args.from)))
