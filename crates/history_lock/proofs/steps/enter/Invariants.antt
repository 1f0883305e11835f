use Rattle.std.proofs.Common.{◌≡◌, ℕ, ◌%◌, ◌^◌, []}
use Rattle.history_lock.specs.declared.table.Stage.TheVariants.{Waits}
use Rattle.history_lock.specs.Views.{at_stage}
use Rattle.history_lock.proofs.steps.enter.Given as goal

abbrev pub invariant-loop : goal.invariant-loop
invariant-loop g l =
    (goal.iterator-loop g).can_next l.iterator' × (goal.iterator-loop g).is_finite l.iterator'
    × (l.place.table_id ≡ l.fn.place.table_id) × (l.place.id ≡ l.fn.place.id)
    × ((t : ℕ) × (l.turn ≡ t % 2 ^ 64) × (l.place.me ≡ (at_stage l.fn.place.me.0 (Waits t), [])))
