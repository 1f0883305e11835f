use Rattle.std.proofs.Common.{◌≡◌, ◌≤◌, replicate, vec_capacity}
use Rattle.eligible_index.specs.Trees.{empty_trees}
use Rattle.eligible_index.proofs.index.open_trees.Given as goal

abbrev pub invariant-loop : goal.invariant-loop
invariant-loop l = record { made : l.trees.items ≡ replicate l.counter (empty_trees l.tenants); room : l.workers ≤ vec_capacity l.trees }
