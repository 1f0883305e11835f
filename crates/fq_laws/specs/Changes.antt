-- The change at one entry: of the charge of a request, of the charges of a tenant, and of an estimate.
use Rattle.std.specs.Prelude.{ℕ, ◌+◌, ◌≡◌, ◌==◌, max, Bool, if◌then◌else◌, List, [], ◌∷◌, ◌++◌, ℤ, pos, ◌-ℤ◌}
use Rattle.vt_fixed.specs.Rounding.{length_of}
use Rattle.fq_model.specs.declared.config.Config.{Config}
use Rattle.fq_model.specs.declared.event.Act.{Act}
use Rattle.fq_model.specs.declared.event.Act.TheVariants.{Submit, Take, Report, Done, Withdraw}
use Rattle.fq_model.specs.History.{History, request_at, is_of_tenant, weight_at}
use Rattle.fq_model.specs.Time.{open_requests}
use Rattle.fq_model.specs.Charge.{charge, taken_weight, virtual_charge, net_charge, greatest, decayed_by_age}

-- the charge of r after the act
abbrev pub charge_after : History → ℕ → Act → ℕ
charge_after P r (Take worker request estimate) = if request == r then estimate else charge P r
charge_after P r (Report worker request used) = if request == r then max used (charge P r) else charge P r
charge_after P r (Done worker request cost) = if request == r then cost else charge P r
charge_after P r _ = charge P r

-- how the length changes at this weight where the first charge becomes the second
abbrev pub length_change : ℕ → ℕ → ℕ → ℤ
length_change weight old new = pos (length_of new weight) -ℤ pos (length_of old weight)

-- the change of a tenant at an entry: the numbers of its requests that the entry opens and closes, the charge of one of
-- its requests before the entry (`charged`) and after it (`recharged`; both 0 where the entry charges none), and the
-- weight that the tenant had just before the Take of that request
pub record Change : Type 0 where
  pub opened : ℕ
  pub closed : ℕ
  pub charged : ℕ
  pub recharged : ℕ
  pub weight : ℕ

-- nothing is opened, closed or charged
abbrev pub no_change : Change
no_change = record { opened = 0; closed = 0; charged = 0; recharged = 0; weight = 0 }

-- the change of a request's charge, where the tenant owns the request
abbrev pub recharge : Bool → ℕ → ℕ → ℕ → ℕ → Change
recharge own closed charged recharged weight = record {
  opened = 0;
  closed = closed;
  charged = if own then charged else 0;
  recharged = if own then recharged else 0;
  weight = weight;
}

-- the change of tenant t by an act after P
abbrev pub change_of : Config → History → ℕ → Act → Change
change_of C P t (Submit request tenant kind declared label) = record no_change { opened = if tenant == t then 1 else 0 }
change_of C P t (Take worker request estimate) =
    recharge (is_of_tenant t (request_at P request)) 0 0 estimate (weight_at C P t)
change_of C P t (Report worker request used) =
    recharge (is_of_tenant t (request_at P request)) 0 (charge P request) (max used (charge P request))
    (taken_weight C P t request)
change_of C P t (Done worker request cost) =
    recharge (is_of_tenant t (request_at P request)) (if is_of_tenant t (request_at P request) then 1 else 0)
    (charge P request) cost (taken_weight C P t request)
change_of C P t (Withdraw request) =
    record no_change { closed = if is_of_tenant t (request_at P request) then 1 else 0 }
change_of C P t _ = no_change

-- the history Q has this change for tenant t over P
pub record Changes (C : Config) (P Q : History) (t : ℕ) (d : Change) : Type 0 where
  pub open_is : open_requests Q t + d.closed ≡ open_requests P t + d.opened
  pub charge_is :
      virtual_charge C Q t + length_of d.charged d.weight ≡ virtual_charge C P t + length_of d.recharged d.weight
  pub net_is : net_charge Q t + d.charged ≡ net_charge P t + d.recharged

-- the greatest of the costs, the newest first, each decayed once for each that is newer, the initial value the oldest
abbrev pub greatest_cost_from : ℕ → List ℕ → ℕ
greatest_cost_from initial cs = greatest (decayed_by_age 0 (cs ++ initial ∷ []))
