-- Words for the laws.
use Rattle.std.specs.Prelude.{ℕ, ◌*◌, ◌<◌, ◌≡◌, ◌==◌, ◌⊎◌, min, Bool, true, false, List, [], ◌∷◌, Option, Some, None}
use Rattle.vt_fixed.specs.Rounding.{steps_per_unit}
use Rattle.vt_fixed.specs.declared.limits.TheConstants.{GREATEST_COST, MOST_WORKERS}
use Rattle.fq_model.specs.declared.event.Act.{Act}
use Rattle.fq_model.specs.declared.event.Act.TheVariants.{Submit, Take, Report, Done, Weight, Withdraw}
use Rattle.fq_model.specs.declared.config.Config.{Config}
use Rattle.fq_model.specs.declared.config.Policy.{Policy}
use Rattle.fq_model.specs.declared.config.Policy.TheVariants.{TwoDfqPlus}
use Rattle.fq_model.specs.declared.event.Call.{Call}
use Rattle.fq_model.specs.declared.event.Call.TheVariants as call
use Rattle.fq_model.specs.History.{History, request_at, is_of_tenant, head, weight_at}
use Rattle.fq_model.specs.Time.{open_requests, active_weight, effective_moment}
use Rattle.fq_model.specs.Charge.{virtual_charge, net_charge, completed, completed_costs}
use Rattle.fq_model.specs.Pace.{pace, served_weight, time_for, tag_base}

-- the history with one entry more
abbrev pub one_more : ℕ → ℕ → Act → History → History
one_more who moment act P = record { who = who; moment = moment; act = act } ∷ P

-- the greatest length, in steps: that of the greatest cost at weight 1
abbrev pub greatest_length : ℕ
greatest_length = GREATEST_COST * steps_per_unit

-- the most steps that virtual time makes in a microsecond: those of the most workers at an active weight of 1
abbrev pub greatest_rate : ℕ
greatest_rate = MOST_WORKERS * steps_per_unit

-- the first of a list, if there is one
abbrev pub first : List ℕ → Option ℕ
first [] = None
first (x ∷ xs) = Some x

-- r is in the list
abbrev pub Member : ℕ → List ℕ → Type 0
Member r [] = ⊥
Member r (x ∷ xs) = (r ≡ x) ⊎ Member r xs

-- each is less than those that follow it
abbrev pub Ascends : List ℕ → Type 0
Ascends [] = Unit {0}
Ascends (x ∷ xs) = ((s : ℕ) → Member s xs → x < s) × Ascends xs

-- the act touches no request: it is a Close, a Weight or a Workers
abbrev pub is_quiet : Act → Bool
is_quiet (Submit request tenant kind declared label) = false
is_quiet (Take worker request estimate) = false
is_quiet (Report worker request used) = false
is_quiet (Done worker request cost) = false
is_quiet (Withdraw request) = false
is_quiet _ = true

abbrev pub is_take : Act → Bool
is_take (Take worker request estimate) = true
is_take _ = false

-- virtual time where the clock has moved it to v, and the cap has reached so far: under 2dfq+ alone it is capped
abbrev pub capped : Policy → ℕ → ℕ → ℕ
capped TwoDfqPlus reached v = min v reached
capped _ reached v = v

-- the weight over which virtual time goes on: that of the active tenants, and under 2dfq+ that of the tenants which the
-- fluid serves
abbrev pub rate_weight : Config → History → ℕ
rate_weight C P = time_for C.policy (active_weight C P) (served_weight C P (pace C P))

-- the act submits a request of tenant t, is done to one, or sets the weight of t
abbrev pub concerns : History → ℕ → Act → Bool
concerns P t (Submit request tenant kind declared label) = tenant == t
concerns P t (Take worker request estimate) = is_of_tenant t (request_at P request)
concerns P t (Report worker request used) = is_of_tenant t (request_at P request)
concerns P t (Done worker request cost) = is_of_tenant t (request_at P request)
concerns P t (Weight tenant weight) = tenant == t
concerns P t (Withdraw request) = is_of_tenant t (request_at P request)
concerns P t _ = false

-- head, weight, charges, base, open requests and completed costs of tenant t are equal in Q and P
pub record Leaves (C : Config) (P Q : History) (t : ℕ) : Type 0 where
  pub head_same : head Q t ≡ head P t
  pub weight_same : weight_at C Q t ≡ weight_at C P t
  pub charge_same : virtual_charge C Q t ≡ virtual_charge C P t
  pub net_same : net_charge Q t ≡ net_charge P t
  pub base_same : tag_base C Q t ≡ tag_base C P t
  pub open_same : open_requests Q t ≡ open_requests P t
  pub costs_same : (kind : ℕ) → completed_costs (completed Q) t kind ≡ completed_costs (completed P) t kind

-- who makes the call
abbrev pub caller : Call → ℕ
caller (call.Submit who moment tenant kind declared label) = who
caller (call.Take who moment worker) = who
caller (call.Report who moment worker used) = who
caller (call.Done who moment worker cost) = who
caller (call.Close who moment) = who
caller (call.Weight who moment tenant weight) = who
caller (call.Workers who moment count) = who
caller (call.Withdraw who moment request) = who

-- the moment that the call names
abbrev pub named_moment : Call → ℕ
named_moment (call.Submit who moment tenant kind declared label) = moment
named_moment (call.Take who moment worker) = moment
named_moment (call.Report who moment worker used) = moment
named_moment (call.Done who moment worker cost) = moment
named_moment (call.Close who moment) = moment
named_moment (call.Weight who moment tenant weight) = moment
named_moment (call.Workers who moment count) = moment
named_moment (call.Withdraw who moment request) = moment

-- Q is P, or P and one entry more, of this caller and at the moment at which its call takes effect
abbrev pub Extends : ℕ → ℕ → History → History → Type 0
Extends who moment P Q = (Q ≡ P) ⊎ ((a : Act) × (Q ≡ one_more who (effective_moment P moment) a P))
