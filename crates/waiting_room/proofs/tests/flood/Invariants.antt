use Rattle.std.proofs.Common.{◌≡◌, ◌<◌, length}
use Rattle.waiting_room.proofs.tests.flood.Given as goal

abbrev pub invariant-loop-i : goal.invariant-loop-i
invariant-loop-i g l = record { known : l.slot < length l.room.waiting; same : length l.room.waiting ≡ length l.fn.room.waiting }
