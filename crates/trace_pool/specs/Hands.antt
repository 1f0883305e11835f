-- The hands of a trace's pool.
use Rattle.std.specs.Prelude.{ℕ}
use Rattle.worker_gate.specs.declared.pool.Hand.{Hand}
use Rattle.trace_pool.specs.declared.gate.TraceGate.{TraceGate}

-- jobs are numbers of rows, and the gate counts their costs up
abbrev pub TraceHand : Type 0
TraceHand = Hand ℕ TraceGate
