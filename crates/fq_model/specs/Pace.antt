-- Virtual time and the bases of tags, by policy. Under 2dfq+ they go hand in hand: a tag is raised to virtual time, and
-- virtual time goes on by the tags, and is capped and lifted by them.
use Rattle.std.specs.Prelude.{ℕ, ◌+◌, ◌-◌, ◌==◌, max, min, nat_lt, Bool, false, ◌&&◌, ◌||◌, if◌then◌else◌, [], ◌∷◌, length, Option, Some, None, is_none}
use Rattle.vt_fixed.specs.Rounding.{length_of, part_of, advance_of}
use Rattle.fq_model.specs.declared.config.Config.{Config}
use Rattle.fq_model.specs.declared.config.Policy.{Policy}
use Rattle.fq_model.specs.declared.config.Policy.TheVariants.{TwoDfqPlus}
use Rattle.fq_model.specs.declared.event.Act.{Act}
use Rattle.fq_model.specs.declared.event.Act.TheVariants.{Submit, Take}
use Rattle.fq_model.specs.Sums.{sum_below}
use Rattle.fq_model.specs.History.{History, Request, request_at, head, weight_at, pool_at}
use Rattle.fq_model.specs.Time.{is_active, last_moment, clock_time}
use Rattle.fq_model.specs.Charge.{virtual_charge}

-- the act submits a request of tenant t
abbrev pub is_submit_for : ℕ → Act → Bool
is_submit_for t (Submit request tenant kind declared label) = tenant == t
is_submit_for t _ = false

-- ---- by the clock alone

-- the greatest of 0 and virtual time by the clock less virtual charge, just before each Submit of tenant t that finds
-- none of its requests waiting
unfoldable pub clock_base : Config → History → ℕ → ℕ
clock_base C [] t = 0
clock_base C (e ∷ P) t =
    if is_submit_for t e.act && is_none (head P t)
    then max (clock_time C P e.moment - virtual_charge C P t) (clock_base C P t)
    else clock_base C P t

-- ---- under 2dfq+

-- virtual time just after the last entry; the greatest finish at which a request was taken, or 0; and by tenant the
-- base of its tag
pub record Pace : Type 0 where
  pub now : ℕ
  pub reached : ℕ
  pub base : ℕ → ℕ

-- the fluid serves tenant t: it has a request waiting or running, or its start is above virtual time. (A request is done
-- sooner on a worker of its own than in the fluid, which serves the tenant at its share.)
abbrev pub is_served : Config → History → Pace → ℕ → Bool
is_served C P s t = is_active P t || nat_lt s.now (virtual_charge C P t + s.base t)

-- the weight of tenant t where the fluid serves it, else 0
abbrev pub weight_if_served : Config → History → Pace → ℕ → ℕ
weight_if_served C P s t = if is_served C P s t then weight_at C P t else 0

-- the sum of the weights of the tenants that the fluid serves
unfoldable pub served_weight : Config → History → Pace → ℕ
served_weight C P s = sum_below (weight_if_served C P s) (length C.weights)

-- how far virtual time would rise from the last entry to m: at the rate of the workers over the weights that the fluid
-- serves just after the last entry
unfoldable pub paced_advance : Config → History → Pace → ℕ → ℕ
paced_advance C P s m = advance_of (m - last_moment P) (pool_at C P) (served_weight C P s)

-- capped: virtual time rises with the clock, but never above the greatest finish at which a request was taken
abbrev pub paced_to : Config → History → Pace → ℕ → ℕ
paced_to C P s m = min (s.now + paced_advance C P s m) s.reached

-- a Submit of tenant t at virtual time v: the base of t rises where none of its requests waits
abbrev pub pace_of_submit : Config → History → ℕ → Pace → ℕ → Pace
pace_of_submit C P v s t = record {
  now = v;
  reached = s.reached;
  base = λ u. if (t == u) && is_none (head P u) then max (v - virtual_charge C P u) (s.base u) else s.base u;
}

-- lifted: a Take makes virtual time at least the eligible key of its request, and the cap at least its finish. The
-- request starts at x, has this length, and is taken by worker i of a pool.
abbrev pub pace_of_take : ℕ → Pace → ℕ → ℕ → ℕ → ℕ → Pace
pace_of_take v s x len i pool = record {
  now = max v (x - part_of len i pool);
  reached = max s.reached (x + len);
  base = s.base;
}

-- a Take by worker i of a request of tenant t, at this estimate and virtual time v
abbrev pub pace_of_tenant_take : Config → History → ℕ → Pace → ℕ → ℕ → ℕ → Pace
pace_of_tenant_take C P v s t i estimate =
    pace_of_take v s (virtual_charge C P t + s.base t) (length_of estimate (weight_at C P t)) i (pool_at C P)

-- the tenant of a known request, else 0
abbrev pub tenant_of : Option Request → ℕ
tenant_of None = 0
tenant_of (Some q) = q.tenant

-- after one act more, at m
abbrev pub pace_after : Config → History → ℕ → Act → Pace → Pace
pace_after C P m (Submit request tenant kind declared label) s = pace_of_submit C P (paced_to C P s m) s tenant
pace_after C P m (Take worker request estimate) s =
    pace_of_tenant_take C P (paced_to C P s m) s (tenant_of (request_at P request)) worker estimate
pace_after C P m _ s = record { now = paced_to C P s m; reached = s.reached; base = s.base }

-- after all entries of the history
unfoldable pub pace : Config → History → Pace
pace C [] = record { now = 0; reached = 0; base = λ t. 0 }
pace C (e ∷ P) = pace_after C P e.moment e.act (pace C P)

-- ---- by policy

abbrev pub time_for : Policy → ℕ → ℕ → ℕ
time_for TwoDfqPlus by_clock paced = paced
time_for _ by_clock paced = by_clock

-- virtual time at m, which is not before the last entry
unfoldable pub virtual_time : Config → History → ℕ → ℕ
virtual_time C P m = time_for C.policy (clock_time C P m) (paced_to C P (pace C P) m)

abbrev pub base_for : Policy → ℕ → ℕ → ℕ
base_for TwoDfqPlus by_clock paced = paced
base_for _ by_clock paced = by_clock

-- the base of the tag of tenant t (a law says how it rises under every policy: at a Submit that finds none of the
-- tenant's requests waiting, to virtual time less virtual charge, where that is greater)
unfoldable pub tag_base : Config → History → ℕ → ℕ
tag_base C P t = base_for C.policy (clock_base C P t) ((pace C P).base t)
