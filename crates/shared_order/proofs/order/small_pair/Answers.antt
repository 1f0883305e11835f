use Rattle.std.proofs.Common.{arith, inl, inr, refl}
use Rattle.shared_order.proofs.order.small_pair.Goals as goal

pub returns-then-are_small : goal.returns-then-are_small
returns-then-are_small c = record { small = c.are_small.ensures.0 c.if-are_small.true; among = inl refl }

pub returns-then-are_small-2 : goal.returns-then-are_small-2
returns-then-are_small-2 c = record { small = c.are_small-then-at-gt0.ensures.0 c.if-are_small-2.true; among = inr (omega (arith, c.if-at-gt0.true)) }
