-- The requests that workers serve, and the order of the workers' next entries.
use Rattle.std.specs.Prelude.{ℕ, ◌+◌, ◌<◌, ◌≤◌, ◌≡◌, ◌≢◌, ◌==◌, ◌⊎◌, min, if◌then◌else◌, List, Option, Some, None, is_none, option_map, map, length, slice_index_or, pos}
use Rattle.vt_fixed.specs.declared.limits.TheConstants.{GREATEST_MOMENT}
use Rattle.winner_tree.specs.declared.key.Key.{Key}
use Rattle.trace_runner.specs.declared.staff.Work.{Work}
use Rattle.program_model.specs.Simulated.{RankBefore}

-- the work of a worker that takes a request at the start: its first Report is at refresh, if that is below the cost
abbrev pub new_work : ℕ → ℕ → ℕ → Work
new_work start cost refresh = record {
  start = start;
  cost = cost;
  due = if refresh == 0 then cost else min refresh cost;
}

-- the work after its Report: the next Report is one refresh later, if that is below the cost
abbrev pub reported_work : Work → ℕ → Work
reported_work w refresh = record { start = w.start; cost = w.cost; due = min (w.due + refresh) w.cost }

-- the moment of its next entry
abbrev pub work_moment : Work → ℕ
work_moment w = w.start + w.due

-- the rank of this entry's act: Reports are before Dones, and each go by worker
abbrev pub work_rank : ℕ → Work → ℕ × ℕ
work_rank i w = (if w.due == w.cost then 1 else 0, i)

-- no entry of it is later than any history may have
pub record IsSmall (w : Work) : Type 0 where
  pub ends : w.start + w.cost ≤ GREATEST_MOMENT
  pub due : w.due ≤ w.cost

-- the work of worker i, if it is not idle
abbrev pub work_at : List (Option Work) → ℕ → Option Work
work_at works i = slice_index_or works i None

-- no worker serves a request
abbrev pub NoneWorks : List (Option Work) → Type 0
NoneWorks works = (i : ℕ) → work_at works i ≡ None

-- worker i is one of them, and serves no request
pub record IsIdle (works : List (Option Work)) (i : ℕ) : Type 0 where
  pub known : i < length works
  pub idle : work_at works i ≡ None

-- each worker serves a request
abbrev pub NoneIdle : List (Option Work) → Type 0
NoneIdle works = (i : ℕ) → ¬ IsIdle works i

-- an entry at m of the first rank is before one at n of the second
abbrev pub ComesBefore : ℕ → ℕ × ℕ → ℕ → ℕ × ℕ → Type 0
ComesBefore m a n b = (m < n) ⊎ ((m ≡ n) × RankBefore a b)

-- worker i serves this, and its next entry is before that of each other worker
pub record IsFirstWork (works : List (Option Work)) (i : ℕ) (w : Work) : Type 0 where
  pub serves : work_at works i ≡ Some w
  pub small : IsSmall w
  pub first : (j : ℕ) (x : Work) → j ≢ i → work_at works j ≡ Some x →
      ComesBefore (work_moment w) (work_rank i w) (work_moment x) (work_rank j x)

-- worker i is idle, and no lower one is
pub record IsFirstIdle (works : List (Option Work)) (i : ℕ) : Type 0 where
  pub is_idle : IsIdle works i
  pub least : (j : ℕ) → IsIdle works j → i ≤ j

-- The invariant of the two trees.

-- the key of a worker by its next entry
abbrev pub work_key : Work → Key
work_key w = record { a = pos (work_moment w); b = pos (if w.due == w.cost then 1 else 0); c = 0 }

abbrev pub busy_key : Option Work → Option Key
busy_key work = option_map work_key work

-- idle workers have equal keys, so that the lowest is the first
abbrev pub idle_key : Option Work → Option Key
idle_key work = if is_none work then Some (record { a = pos 0; b = pos 0; c = 0 }) else None

-- one tree has the keys of the workers that serve a request, the other those of the idle ones
pub record KeepsStaff (works : List (Option Work)) (busy idle : List (Option Key)) : Type 0 where
  pub busy_is : busy ≡ map busy_key works
  pub idle_is : idle ≡ map idle_key works
  pub small : (i : ℕ) (w : Work) → work_at works i ≡ Some w → IsSmall w
