-- What declining by the rule costs.
use Rattle.std.specs.Prelude.{◌≡◌, ◌≤◌, ◌+◌, ◌-◌, ◌*◌, List}
use Rattle.worker_reserve.specs.declared.credit.Passed.{Passed}
use Rattle.worker_reserve.specs.Credit.{CreditView, cap, budget_of, IsTimely}
use Rattle.worker_reserve.specs.Rule.{pause_of}
use Rattle.worker_reserve.specs.Course.{Event, DeclineInTurn, IsCourse, KeepsWorkers, all_busy, all_idle, most_workers}

-- workers that decline by the rule are asked again in time, where it is no later than the pause of the credit says
abbrev pub PausesAreTimely : Type 0
PausesAreTimely = (v : CreditView) (p : Passed) → DeclineInTurn (budget_of v) p.declining
    → p.asked_again ≤ v.moment + pause_of (budget_of v) p.declining → IsTimely v p

-- From a full credit on, where workers decline by the rule alone and each pause is that of the credit: all declining
-- together lasts at most the idle part of all busy time, the cap, and a millisecond and a microsecond of each worker.
abbrev pub DecliningIsBounded : Type 0
DecliningIsBounded = (v : CreditView) (run : List Event) → v.used ≡ 0 → IsCourse v run → KeepsWorkers run
    → 1000000 * all_idle v run ≤ v.idle_ppm * all_busy v run + cap v + 1001000000 * v.workers

-- The same from any credit on, and while the number of workers changes. A raise adds nothing, since it leaves the
-- credit as it is, and a lower number takes credit away at most. So what counts is the credit at the beginning, and a
-- millisecond and a microsecond of each of the most workers that there were.
abbrev pub ChangesAddNothing : Type 0
ChangesAddNothing = (v : CreditView) (run : List Event) → IsCourse v run
    → 1000000 * all_idle v run
    ≤ v.idle_ppm * all_busy v run + (cap v - v.used) + 1001000000 * most_workers v.workers run
