-- How counters compare.
use Rattle.std.specs.Prelude.{◌≤◌, max}
use Rattle.gate_rules.specs.declared.counters.Counters.{Counters}

-- no part of a is greater than the part of b
pub record IsAtMost (a b : Counters) : Type 0 where
  pub work : a.work ≤ b.work
  pub items : a.items ≤ b.items
  pub bytes : a.bytes ≤ b.bytes

-- the greater of each part
abbrev pub greater_of : Counters → Counters → Counters
greater_of a b = record { work = max a.work b.work; items = max a.items b.items; bytes = max a.bytes b.bytes }
