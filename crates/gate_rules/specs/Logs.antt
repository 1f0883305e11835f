-- A log as a list.
use Rattle.std.specs.Prelude.{List, [], ◌∷◌}
use Rattle.gate_rules.specs.declared.logged_gate.Asked.{Asked}
use Rattle.gate_rules.specs.declared.logged_gate.Asks.{Asks, Nothing, Next'}

-- the slices of a log, the newest first
abbrev pub asks_in : Asks → List Asked
asks_in Nothing = []
asks_in (Next' asked mark before) = asked.value ∷ asks_in before
