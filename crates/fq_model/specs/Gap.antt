-- The difference of the starts of two tenants while both wait, and its bound.
use Rattle.std.specs.Prelude.{ℕ, ◌*◌, ◌==◌, nat_le, Bool, true, false, not, ◌&&◌, if◌then◌else◌, List, [], ◌∷◌, ◌++◌, map, Option, Some, None, is_some, option_map, ℤ, pos, ◌-ℤ◌}
use Rattle.std.specs.Int.{int_max}
use Rattle.vt_fixed.specs.Rounding.{length_of}
use Rattle.fq_model.specs.declared.config.Config.{Config}
use Rattle.fq_model.specs.declared.config.Estimator.{Estimator}
use Rattle.fq_model.specs.declared.config.Estimator.TheVariants.{Declared}
use Rattle.fq_model.specs.declared.config.Policy.{Policy}
use Rattle.fq_model.specs.declared.config.Policy.TheVariants.{TwoDfq, TwoDfqPlus}
use Rattle.fq_model.specs.declared.event.Act.{Act}
use Rattle.fq_model.specs.declared.event.Act.TheVariants.{Submit}
use Rattle.fq_model.specs.Charge.{final_cost, greatest}
use Rattle.fq_model.specs.History.{History, Request, request_at, request_bound, head, last_use, weight_at}
use Rattle.fq_model.specs.Keys.{start}
use Rattle.fq_model.specs.Sums.{least_below}
use Rattle.fq_model.specs.Time.{last_moment}

-- Requests that are as declared.

abbrev pub is_declared : Estimator → Bool
is_declared Declared = true
is_declared _ = false

-- the cost, where there is one, is the declared number
abbrev pub is_cost_declared : ℕ → Option ℕ → Bool
is_cost_declared declared None = true
is_cost_declared declared (Some cost) = cost == declared

abbrev pub is_as_asked : Config → History → ℕ → Option Request → Bool
is_as_asked C H r None = true
is_as_asked C H r (Some q) =
    is_declared C.estimate
    && (nat_le (last_use H r) q.declared && is_cost_declared q.declared (final_cost H r))

-- estimates are the declared numbers, the Reports of r use at most its own, and its Done, where there is one, has just
-- that cost (true too where no r is submitted)
unfoldable pub is_as_declared : Config → History → ℕ → Bool
is_as_declared C H r = is_as_asked C H r (request_at H r)

-- the least request that is not as declared, if there is one
unfoldable pub not_declared : Config → History → Option ℕ
not_declared C H = least_below (λ r. not (is_as_declared C H r)) request_bound

-- Shared prefixes, and the difference at them.

-- both tenants have a head
unfoldable pub is_shared : History → ℕ → ℕ → Bool
is_shared P f g = is_some (head P f) && is_some (head P g)

-- how far the start of f is above that of g
unfoldable pub start_difference : Config → History → ℕ → ℕ → ℤ
start_difference C P f g = pos (start C P (last_moment P) f) -ℤ pos (start C P (last_moment P) g)

-- where P is shared, the first prefix of the run of shared prefixes that ends with P
unfoldable pub run_start : History → ℕ → ℕ → History
run_start [] f g = []
run_start (e ∷ P) f g = if is_shared P f g then run_start P f g else e ∷ P

-- the differences at the shared prefixes of H
unfoldable pub shared_differences : Config → History → ℕ → ℕ → List ℤ
shared_differences C [] f g = []
shared_differences C (e ∷ P) f g =
    if is_shared (e ∷ P) f g
    then start_difference C (e ∷ P) f g ∷ shared_differences C P f g
    else shared_differences C P f g

-- the differences at those shared prefixes of H at which a run begins: the prefix one entry shorter is not shared
unfoldable pub first_differences : Config → History → ℕ → ℕ → List ℤ
first_differences C [] f g = []
first_differences C (e ∷ P) f g =
    if is_shared (e ∷ P) f g && not (is_shared P f g)
    then start_difference C (e ∷ P) f g ∷ first_differences C P f g
    else first_differences C P f g

-- The longest request.

-- the weights that tenant t has at the prefixes of P
abbrev pub weights_had : Config → History → ℕ → List ℕ
weights_had C [] t = weight_at C [] t ∷ []
weights_had C (e ∷ P) t = weight_at C (e ∷ P) t ∷ weights_had C P t

-- the cost that the act declares for a request of tenant t, before the costs declared earlier
abbrev pub with_declared : ℕ → Act → List ℕ → List ℕ
with_declared t (Submit request tenant kind declared label) older = if tenant == t then declared ∷ older else older
with_declared t _ older = older

-- the declared costs of the requests of tenant t, the newest first
abbrev pub all_declared : History → ℕ → List ℕ
all_declared [] t = []
all_declared (e ∷ P) t = with_declared t e.act (all_declared P t)

-- the lengths of all these costs at all these weights
abbrev pub all_lengths : List ℕ → List ℕ → List ℕ
all_lengths costs [] = []
all_lengths costs (w ∷ ws) = map (λ cost. length_of cost w) costs ++ all_lengths costs ws

-- the lengths of the requests of tenant t in H, each at every weight that t has at some prefix of H
abbrev pub lengths_had : Config → History → ℕ → List ℕ
lengths_had C H t = all_lengths (all_declared H t) (weights_had C H t)

-- the longest length of the requests of f and of g
unfoldable pub longest_length : Config → History → ℕ → ℕ → ℕ
longest_length C H f g = greatest (lengths_had C H f ++ lengths_had C H g)

-- The gap.

-- the number of longest lengths in the bound
abbrev pub lengths_in_bound : Policy → ℕ
lengths_in_bound TwoDfq = 2
lengths_in_bound TwoDfqPlus = 2
lengths_in_bound _ = 1

-- the greatest of x and the numbers
abbrev pub greatest_with : ℤ → List ℤ → ℤ
greatest_with x [] = x
greatest_with x (y ∷ ys) = int_max y (greatest_with x ys)

-- the greatest of the numbers, if there are any
abbrev pub greatest_of : List ℤ → Option ℤ
greatest_of [] = None
greatest_of (x ∷ xs) = Some (greatest_with x xs)

-- the greatest difference at the shared prefixes, or none exactly where no prefix is shared
unfoldable pub largest_difference : Config → History → ℕ → ℕ → Option ℤ
largest_difference C H f g = greatest_of (shared_differences C H f g)

-- the greater of the greatest difference at the first prefix of a run, and of one longest length, or two under
-- 2dfq and 2dfq+
unfoldable pub difference_bound : Config → History → ℕ → ℕ → ℤ
difference_bound C H f g =
    greatest_with (pos (lengths_in_bound C.policy * longest_length C H f g)) (first_differences C H f g)

-- the largest difference, and its bound
pub record TagGap : Type 0 where
  pub largest : ℤ
  pub bound : ℤ

-- the gap between tenants f and g, or none exactly where no prefix is shared
unfoldable pub tag_gap : Config → History → ℕ → ℕ → Option TagGap
tag_gap C H f g =
    option_map
    (λ largest. record { largest = largest; bound = difference_bound C H f g })
    (largest_difference C H f g)
