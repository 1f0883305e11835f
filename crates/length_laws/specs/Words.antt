-- Costs and weights that keep to limits.
use Rattle.std.specs.Prelude.{ℕ, ◌≡◌, ◌≤◌, if◌then◌else◌, Some}
use Rattle.fq_model.specs.declared.config.Config.{Config}
use Rattle.fq_model.specs.Charge.{final_cost}
use Rattle.fq_model.specs.Gap.{is_declared}
use Rattle.fq_model.specs.History.{History, Request, request_at, last_use, weight_at}
use Rattle.gap_laws.specs.Words.{IsPrefix}

-- the estimate of a request before any request is done: its declared cost, or the initial value
abbrev pub first_cost : Config → Request → ℕ
first_cost C q = if is_declared C.estimate then q.declared else C.initial

-- c is at least that estimate, the last use of the request at P, and its cost, if it is done there
pub record CostsAtMost (C : Config) (P : History) (r : ℕ) (q : Request) (c : ℕ) : Type 0 where
  pub first : first_cost C q ≤ c
  pub used : last_use P r ≤ c
  pub cost : (n : ℕ) → final_cost P r ≡ Some n → n ≤ c

-- each request of tenant t costs at most c, at all prefixes of H
abbrev pub CostsStayBelow : Config → History → ℕ → ℕ → Type 0
CostsStayBelow C H t c =
    (P : History) (r : ℕ) (q : Request) → IsPrefix P H → request_at P r ≡ Some q → q.tenant ≡ t → CostsAtMost C P r q c

-- tenant t has no lesser weight than w, at all prefixes of H
abbrev pub WeightStaysAbove : Config → History → ℕ → ℕ → Type 0
WeightStaysAbove C H t w = (P : History) → IsPrefix P H → w ≤ weight_at C P t
