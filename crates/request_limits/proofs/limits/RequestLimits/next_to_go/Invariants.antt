use Rattle.request_limits.specs.Next.{IsFoundBelow}
use Rattle.request_limits.proofs.limits.RequestLimits.next_to_go.Given as goal

abbrev pub invariant-loop-kind : goal.invariant-loop-kind
invariant-loop-kind l = IsFoundBelow l.self l.slot l.kind l.next
