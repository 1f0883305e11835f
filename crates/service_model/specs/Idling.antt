-- The order in which slots began to be idle.
use Rattle.std.specs.Prelude.{ℕ, ◌==◌, not, if◌then◌else◌, List, [], ◌∷◌, ◌++◌}
use Rattle.std.specs.List.{filter}
use Rattle.service_model.specs.View.{ServiceView, has_any, of_slot, is_open}

abbrev pub without_slot : List ℕ → ℕ → List ℕ
without_slot slots slot = filter (λ s. not (s == slot)) slots

-- a request of this slot came
abbrev pub with_work : ServiceView → ℕ → ServiceView
with_work v slot = record v { idle = without_slot v.idle slot }

-- the slot begins to be idle
abbrev pub with_idle : ServiceView → ℕ → ServiceView
with_idle v slot = record v { idle = without_slot v.idle slot ++ slot ∷ [] }

-- a request of this slot has come to its end: the slot begins to be idle where it was the last
abbrev pub with_end_of : ServiceView → ℕ → ServiceView
with_end_of v slot = if has_any v (of_slot slot is_open) then v else with_idle v slot
