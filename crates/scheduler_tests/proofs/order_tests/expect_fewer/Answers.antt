use Rattle.std.proofs.Common.{arith}
use Rattle.scheduler_tests.proofs.order_tests.expect_fewer.Goals as goal

pub take_out-requires-3-clause-there : goal.take_out-requires-3-clause-there
take_out-requires-3-clause-there g c =
    let first = c.take_out.ensures (λ k low high. c.seventy-order.ensures k (omega arith) high) in
    let second = c.take_out-2.ensures (λ k low high. first k (omega (arith, low)) high) in
    λ k low high. second k (omega (arith, low)) (omega (arith, high))
