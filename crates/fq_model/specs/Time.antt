-- Active tenants, moments, and virtual time as the clock moves it.
use Rattle.std.specs.Prelude.{ℕ, ◌+◌, ◌-◌, max, min, Bool, not, ◌&&◌, if◌then◌else◌, [], ◌∷◌, length, nat_lt}
use Rattle.vt_fixed.specs.Rounding.{advance_of}
use Rattle.fq_model.specs.declared.config.Config.{Config}
use Rattle.vt_fixed.specs.declared.limits.TheConstants.{GREATEST_MOMENT}
use Rattle.fq_model.specs.Sums.{sum_below, count_below}
use Rattle.fq_model.specs.History.{History, request_at, is_of_tenant, is_ended, request_bound, weight_at, pool_at}

-- r is a request of tenant t, and is neither done nor withdrawn
unfoldable pub is_open : History → ℕ → ℕ → Bool
is_open P t r = is_of_tenant t (request_at P r) && not (is_ended P r)

-- how many requests of tenant t are neither done nor withdrawn
unfoldable pub open_requests : History → ℕ → ℕ
open_requests P t = count_below (is_open P t) request_bound

-- tenant t has a request waiting or running
unfoldable pub is_active : History → ℕ → Bool
is_active P t = nat_lt 0 (open_requests P t)

-- the weight of tenant t where it is active, else 0
abbrev pub weight_if_active : Config → History → ℕ → ℕ
weight_if_active C P t = if is_active P t then weight_at C P t else 0

-- the sum of the weights of the active tenants
unfoldable pub active_weight : Config → History → ℕ
active_weight C P = sum_below (weight_if_active C P) (length C.weights)

-- the moment of the last entry, or 0
abbrev pub last_moment : History → ℕ
last_moment [] = 0
last_moment (e ∷ P) = e.moment

-- the moment at which a call that names m takes effect
abbrev pub effective_moment : History → ℕ → ℕ
effective_moment P m = min (max m (last_moment P)) GREATEST_MOMENT

-- how far virtual time by the clock rises from the last entry to m: at the rate of the workers over the active weights
unfoldable pub virtual_advance : Config → History → ℕ → ℕ
virtual_advance C P m = advance_of (m - last_moment P) (pool_at C P) (active_weight C P)

-- virtual time by the clock alone at m, which is not before the last entry: the sum of its pieces between entries, and
-- from the last to m
unfoldable pub clock_time : Config → History → ℕ → ℕ
clock_time C [] m = 0
clock_time C (e ∷ P) m = clock_time C P e.moment + virtual_advance C (e ∷ P) m

-- the virtual time by the clock that passed up to m while tenant t was not active
unfoldable pub virtual_idle_time : Config → History → ℕ → ℕ → ℕ
virtual_idle_time C [] m t = 0
virtual_idle_time C (e ∷ P) m t =
    virtual_idle_time C P e.moment t + (if is_active (e ∷ P) t then 0 else virtual_advance C (e ∷ P) m)
