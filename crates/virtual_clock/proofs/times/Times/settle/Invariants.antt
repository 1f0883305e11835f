use Rattle.virtual_clock.proofs.Settling.{Settling, lingering_count}
use Rattle.virtual_clock.proofs.times.Times.settle.Given as goal

abbrev pub invariant-reached : goal.invariant-reached
invariant-reached l = Settling l.initial.self l.self

abbrev pub decreases-reached : goal.decreases-reached
decreases-reached l = lingering_count l.self
