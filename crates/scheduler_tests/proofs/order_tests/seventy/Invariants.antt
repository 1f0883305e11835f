use Rattle.std.proofs.Common.{◌≡◌, ◌<◌, ◌≤◌, length}
use Rattle.std.specs.List.{All}
use Rattle.scheduler_tests.specs.Numbered.{HasNumbers}
use Rattle.scheduler_tests.proofs.order_tests.seventy.Given as goal

abbrev pub invariant-loop-number : goal.invariant-loop-number
invariant-loop-number g l = record {
  room : 70 ≤ l.order.room;
  count : length l.order.heads ≡ l.number;
  before : All (λ h. h.request < l.number) l.order.heads;
  there : HasNumbers l.order.heads 0 l.number;
}
