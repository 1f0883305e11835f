use Rattle.std.proofs.Common.{◌≡◌, ◌<◌, ℕ, length, get_or, None, Some}
use Rattle.trace_runner.proofs.Trees.{no_key}
use Rattle.trace_runner.proofs.staff.Staff.open.Given as goal

abbrev pub invariant-loop-worker : goal.invariant-loop-worker
invariant-loop-worker l = record { len : length l.idle ≡ l.workers; idle : (j : ℕ) → j < l.worker → get_or l.idle j None ≡ Some no_key }
