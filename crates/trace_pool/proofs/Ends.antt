-- The proofs of a pool's laws.
use Rattle.std.proofs.Common.{ℕ}
use Rattle.fq_model.specs.History.{history_of}
use Rattle.trace_pool.specs.Laws.{PoolHistoryIs, PoolMomentsAre}
use Rattle.trace_pool.proofs.Callers.{all_known}
use Rattle.trace_pool.proofs.Closed.{is_fed, is_closed_once}
use Rattle.trace_pool.proofs.Absent.{no_change}
use Rattle.trace_pool.proofs.Parts.{pool_parts, parts_told}
use Rattle.trace_pool.proofs.Served.{is_served}
use Rattle.trace_pool.proofs.Courses.{is_serving}
use Rattle.program_model.specs.Courses.{worker_caller}

pub pool_history : (Tells : ℕ → Type 0) → PoolHistoryIs Tells
pool_history Tells T O lock past law range lim ends =
    let H = history_of past in
    let p = pool_parts T O lock Tells past ends in
    record {
      legal = p.legal;
      fed = is_fed T O Tells H law lim p;
      closed = is_closed_once T O Tells H law lim p;
      serving = is_serving T O Tells H law range lim p;
      served = is_served T O Tells H range lim p;
      known = all_known (worker_caller T.rows O.workers) H p.no_other;
      unchanged = no_change T O Tells H p;
    }

pub pool_moments : (Tells : ℕ → Type 0) → PoolMomentsAre Tells
pool_moments Tells T O lock past p = parts_told T O Tells (history_of past) (pool_parts T O lock Tells past p)
