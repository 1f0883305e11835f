-- Charges and estimates.
use Rattle.std.specs.Prelude.{ℕ, zero, suc, ◌/◌, ◌==◌, max, Bool, ◌&&◌, if◌then◌else◌, List, [], ◌∷◌, ◌++◌, Option, Some, None, length, take, sum}
use Rattle.vt_fixed.specs.Rounding.{length_of, decay_of}
use Rattle.fq_model.specs.declared.config.Config.{Config}
use Rattle.fq_model.specs.declared.config.Estimator.{Estimator}
use Rattle.fq_model.specs.declared.config.Estimator.TheVariants.{Declared, Recent, Pessimistic}
use Rattle.fq_model.specs.declared.event.Act.{Act}
use Rattle.fq_model.specs.declared.event.Act.TheVariants.{Take, Done}
use Rattle.fq_model.specs.Sums.{sum_below}
use Rattle.fq_model.specs.History.{History, Request, request_at, is_of_tenant, is_take_of, is_taken, last_use, request_bound, weight_at}

abbrev pub estimate_in : ℕ → Act → Option ℕ → Option ℕ
estimate_in r (Take worker request estimate) older = if request == r then Some estimate else older
estimate_in r _ older = older

-- the estimate in the Take of r, if it is taken
abbrev pub taken_estimate : History → ℕ → Option ℕ
taken_estimate [] r = None
taken_estimate (e ∷ P) r = estimate_in r e.act (taken_estimate P r)

abbrev pub cost_in : ℕ → Act → Option ℕ → Option ℕ
cost_in r (Done worker request cost) older = if request == r then Some cost else older
cost_in r _ older = older

-- the cost in the Done of r, if it is done
abbrev pub final_cost : History → ℕ → Option ℕ
final_cost [] r = None
final_cost (e ∷ P) r = cost_in r e.act (final_cost P r)

abbrev pub charge_from : Option ℕ → Option ℕ → ℕ → ℕ
charge_from None _ used = 0
charge_from (Some estimate) None used = max estimate used
charge_from (Some estimate) (Some cost) used = cost

-- the charge of r: 0 before its Take, the greater of its estimate and its greatest reported use while it runs,
-- and its measured cost once it is done
abbrev pub charge : History → ℕ → ℕ
charge P r = charge_from (taken_estimate P r) (final_cost P r) (last_use P r)

-- the weight of tenant t just before the Take of r
abbrev pub taken_weight : Config → History → ℕ → ℕ → ℕ
taken_weight C [] t r = 0
taken_weight C (e ∷ P) t r = if is_take_of r e.act then weight_at C P t else taken_weight C P t r

-- r is a request of tenant t, and is taken
unfoldable pub is_taken_of : History → ℕ → ℕ → Bool
is_taken_of P t r = is_of_tenant t (request_at P r) && is_taken P r

-- the part of r in the virtual charge of tenant t: the length of its charge
abbrev pub charged : Config → History → ℕ → ℕ → ℕ
charged C P t r = if is_taken_of P t r then length_of (charge P r) (taken_weight C P t r) else 0

-- the virtual charge of tenant t: the sum of the lengths of the charges of its taken requests
unfoldable pub virtual_charge : Config → History → ℕ → ℕ
virtual_charge C P t = sum_below (charged C P t) request_bound

abbrev pub net_charged : History → ℕ → ℕ → ℕ
net_charged P t r = if is_taken_of P t r then charge P r else 0

-- the net charge of tenant t: the sum of the charges of its taken requests
unfoldable pub net_charge : History → ℕ → ℕ
net_charge P t = sum_below (net_charged P t) request_bound

-- one completed request
pub record Completed : Type 0 where
  pub tenant : ℕ
  pub kind : ℕ
  pub cost : ℕ

-- one more completed request, with its Submit and its cost
abbrev pub with_cost : Option Request → ℕ → List Completed → List Completed
with_cost None cost older = older
with_cost (Some q) cost older = record { tenant = q.tenant; kind = q.kind; cost = cost } ∷ older

abbrev pub with_completion : History → Act → List Completed → List Completed
with_completion P (Done worker request cost) older = with_cost (request_at P request) cost older
with_completion P _ older = older

-- the completed requests, the newest first
abbrev pub completed : History → List Completed
completed [] = []
completed (e ∷ P) = with_completion P e.act (completed P)

-- the costs of the completed requests of tenant t and kind k, the newest first
abbrev pub completed_costs : List Completed → ℕ → ℕ → List ℕ
completed_costs [] t k = []
completed_costs (c ∷ cs) t k =
    if (c.tenant == t) && (c.kind == k) then c.cost ∷ completed_costs cs t k else completed_costs cs t k

-- the mean of numbers, rounded down
abbrev pub mean : List ℕ → ℕ
mean xs = sum xs / length xs

-- the mean of the last eight costs and at least 1, or the initial value where there is no cost
abbrev pub recent_mean : ℕ → List ℕ → ℕ
recent_mean initial [] = initial
recent_mean initial (c ∷ cs) = max 1 (mean (take 8 (c ∷ cs)))

-- a cost after this number of decays
abbrev pub decayed : ℕ → ℕ → ℕ
decayed zero c = c
decayed (suc age) c = decay_of (decayed age c)

-- each cost decayed once for each that is newer; `age` costs are newer than all of these
abbrev pub decayed_by_age : ℕ → List ℕ → List ℕ
decayed_by_age age [] = []
decayed_by_age age (c ∷ cs) = decayed age c ∷ decayed_by_age (suc age) cs

-- the greatest of numbers, or 0
abbrev pub greatest : List ℕ → ℕ
greatest [] = 0
greatest (x ∷ xs) = max x (greatest xs)

-- the greatest of 1 and the decayed costs, the initial value counting as the oldest cost
abbrev pub pessimistic_cost : ℕ → List ℕ → ℕ
pessimistic_cost initial costs = max 1 (greatest (decayed_by_age 0 (costs ++ initial ∷ [])))

-- the estimate from the costs of a tenant and kind, the newest first
abbrev pub estimate_from : Estimator → ℕ → List ℕ → ℕ → ℕ
estimate_from Declared initial costs declared = declared
estimate_from Recent initial costs declared = recent_mean initial costs
estimate_from Pessimistic initial costs declared = pessimistic_cost initial costs

-- the estimate at P of a request of tenant t and kind k with this declared cost
unfoldable pub estimate_at : Config → History → ℕ → ℕ → ℕ → ℕ
estimate_at C P t k declared = estimate_from C.estimate C.initial (completed_costs (completed P) t k) declared

abbrev pub request_estimate : Config → History → Request → ℕ
request_estimate C P q = estimate_at C P q.tenant q.kind q.declared
