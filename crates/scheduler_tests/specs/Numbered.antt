-- The heads of the tests.
use Rattle.std.specs.Prelude.{ℕ, ◌+◌, ◌-◌, ◌<◌, ◌≤◌, List, pos}
use Rattle.std.specs.List.{Contains}
use Rattle.shared_order.specs.Heads.{HeadView}

-- of two such heads the lesser number finishes first and is longer
abbrev pub numbered : ℕ → HeadView
numbered k = record { tenant = k; finish = pos (1000 + k); len = pos (100 - k); request = k }

abbrev pub HasNumbers : List HeadView → ℕ → ℕ → Type 0
HasNumbers heads from to = (k : ℕ) → from ≤ k → k < to → Contains heads (numbered k)
