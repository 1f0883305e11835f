-- The credit with its sign.
use Rattle.std.proofs.Common.{◌*◌, arith}
use Rattle.std.proofs.lemmas.Int.{ints, int_min_is, int_max_is}
use Rattle.std.specs.Prelude.{pos, ◌+ℤ◌}
use Rattle.worker_reserve.specs.Credit.{cap, earned}
use Rattle.worker_reserve.specs.Signed.{credit_of, CreditIsEarnedAndSpent, CreditIsLowered, CreditIsRead}

pub credit_is_earned_and_spent : CreditIsEarnedAndSpent
credit_is_earned_and_spent v p = omega (arith, ints, int_min_is (pos (cap v)) (credit_of v +ℤ pos (earned v p)))

pub credit_is_lowered : CreditIsLowered
credit_is_lowered v n = omega (arith, ints, int_min_is (pos (v.idle_ppm * 1000000 * n)) (credit_of v))

pub credit_is_read : CreditIsRead
credit_is_read v = omega (arith, ints, int_max_is (pos 0) (credit_of v))
