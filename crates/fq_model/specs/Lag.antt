-- The work done on requests, and how far tenants lag behind the fluid reference.
use Rattle.std.specs.Prelude.{ℕ, ◌-◌, ◌*◌, ◌/◌, nat_le, if◌then◌else◌, unwrap_or, ℤ, pos, ◌-ℤ◌}
use Rattle.fq_model.specs.declared.config.Config.{Config}
use Rattle.fq_model.specs.Sums.{sum_below}
use Rattle.fq_model.specs.History.{History, request_at, is_of_tenant, is_take_of, is_done_of, request_bound}
use Rattle.fq_model.specs.Charge.{final_cost}
use Rattle.fq_model.specs.Fluid.{moment_of, fluid_service}

-- the moment of the Take of r, or 0 where it is not taken
abbrev pub take_moment : History → ℕ → ℕ
take_moment H r = unwrap_or (moment_of (is_take_of r) H) 0

-- the moment of the Done of r, or 0 where it is not done
abbrev pub done_moment : History → ℕ → ℕ
done_moment H r = unwrap_or (moment_of (is_done_of r) H) 0

-- the measured cost of r, or 0 where it is not done
abbrev pub measured_cost : History → ℕ → ℕ
measured_cost H r = unwrap_or (final_cost H r) 0

-- the work done by m on a request that was taken at `taken` and done at `ended`: all of its cost from its Done on, none
-- up to its Take, and in between as large a part of its cost as of its time has gone by, rounded down
abbrev pub work_between : ℕ → ℕ → ℕ → ℕ → ℕ
work_between taken ended cost m =
    if nat_le ended m then cost
    else if nat_le m taken then 0
    else cost * (m - taken) / (ended - taken)

-- the work done on r by m; 0 where r is not done, since it may run still, or was withdrawn
abbrev pub work_done : History → ℕ → ℕ → ℕ
work_done H r m = work_between (take_moment H r) (done_moment H r) (measured_cost H r) m

-- the work done on r by m where r is a request of tenant t, else 0
abbrev pub work_done_for : History → ℕ → ℕ → ℕ → ℕ
work_done_for H t m r = if is_of_tenant t (request_at H r) then work_done H r m else 0

-- the work done on the requests of tenant t by m
unfoldable pub work_of : History → ℕ → ℕ → ℕ
work_of H t m = sum_below (work_done_for H t m) request_bound

-- how far tenant t lags behind its fluid service after k slots of length Q
abbrev pub lag : Config → History → ℕ → ℕ → ℕ → ℤ
lag C H Q t k = pos (fluid_service C H Q t k) -ℤ pos (work_of H t (k * Q))
