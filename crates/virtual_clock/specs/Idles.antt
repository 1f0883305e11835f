-- The view of an idle time in contracts, and the idle time after each call.
use Rattle.std.specs.Prelude.{ℕ, ◌+◌, ◌-◌, ◌==◌, Bool, if◌then◌else◌, List, slice_index_or, ℤ, pos, ◌+ℤ◌, ◌-ℤ◌, ◌≤ℤ◌}
use Rattle.fq_model.specs.declared.limits.TheConstants.{GREATEST_VIRTUAL_TIME}
use Rattle.virtual_clock.specs.declared.idles.Idle.{Idle}

-- asleep since virtual time 0
abbrev pub asleep_at_first : Idle
asleep_at_first = record { whole = pos 0; since = pos 0; undone = 0 }

-- the idle time of a tenant
abbrev pub idle_of : List Idle → ℕ → Idle
idle_of idles tenant = slice_index_or idles tenant asleep_at_first

-- a tenant is asleep while it has no open request
abbrev pub is_asleep : Idle → Bool
is_asleep i = i.undone == 0

-- the idle time up to virtual time v: it goes on while the tenant is asleep
abbrev pub total_at : Idle → ℤ → ℤ
total_at i v = if is_asleep i then i.whole +ℤ (v -ℤ i.since) else i.whole

-- a tenant that was asleep is awake from v on, with one open request
abbrev pub woken : Idle → ℤ → Idle
woken i v = record { whole = i.whole +ℤ (v -ℤ i.since); since = v; undone = 1 }

-- a tenant that was awake is asleep from v on
abbrev pub put_to_sleep : Idle → ℤ → Idle
put_to_sleep i v = record { whole = i.whole; since = v; undone = 0 }

-- with one more open request from v on: the first wakes the tenant
abbrev pub opened : Idle → ℤ → Idle
opened i v = if is_asleep i then woken i v else record { whole = i.whole; since = i.since; undone = i.undone + 1 }

-- its one open request is the last
abbrev pub is_at_last : Idle → Bool
is_at_last i = i.undone == 1

-- with one open request less from v on: without the last the tenant falls asleep
abbrev pub closed : Idle → ℤ → Idle
closed i v =
    if is_at_last i then put_to_sleep i v else record { whole = i.whole; since = i.since; undone = i.undone - 1 }

-- an idle time is at most the virtual time up to which it goes
pub record IsIdle (i : Idle) : Type 0 where
  pub low : pos 0 ≤ℤ i.whole
  pub high : i.whole ≤ℤ i.since
  pub since_in_range : i.since ≤ℤ GREATEST_VIRTUAL_TIME
