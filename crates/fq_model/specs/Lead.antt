-- The lead of one tenant over another, where the cost of a request is not known before it is done: the difference of
-- their starts, and the doubt about the requests that run.
use Rattle.std.specs.Prelude.{ℕ, ◌+◌, ◌-◌, ◌*◌, max, min, Bool, not, ◌&&◌, if◌then◌else◌, List, [], ◌∷◌, Option, Some, None, is_some, option_map, ℤ, pos, ◌+ℤ◌, ◌-ℤ◌}
use Rattle.std.specs.Int.{int_max}
use Rattle.vt_fixed.specs.Rounding.{length_of}
use Rattle.fq_model.specs.declared.config.Config.{Config}
use Rattle.fq_model.specs.declared.event.Act.{Act}
use Rattle.fq_model.specs.declared.event.Act.TheVariants.{Take}
use Rattle.fq_model.specs.Charge.{charge, taken_weight, is_taken_of, charged, request_estimate, greatest}
use Rattle.fq_model.specs.Gap.{is_shared, lengths_in_bound, greatest_with, largest_difference, TagGap}
use Rattle.fq_model.specs.History.{History, Request, request_at, is_of_tenant, head, running_on, weight_at, pool_at}
use Rattle.fq_model.specs.Keys.{start, stagger}
use Rattle.fq_model.specs.Sums.{sum_below}
use Rattle.fq_model.specs.Time.{last_moment}

-- Requests that run.

-- the length of request r of tenant t: that of its charge, by the weight that t had just before the Take of r
abbrev pub request_length : Config → History → ℕ → ℕ → ℕ
request_length C P t r = length_of (charge P r) (taken_weight C P t r)

-- f of the request, if it is one of tenant t; else 0
abbrev pub of_request : History → ℕ → (ℕ → ℕ) → Option ℕ → ℕ
of_request P t f None = 0
of_request P t f (Some r) = if is_of_tenant t (request_at P r) then f r else 0

-- the sum of f over the requests of tenant t that run, of which each worker has one at most
unfoldable pub over_running : Config → History → ℕ → (ℕ → ℕ) → ℕ
over_running C P t f = sum_below (λ i. of_request P t f (running_on P i)) C.workers

-- The doubt: request r turns out to be cap r long at most, and low r at least.

-- by how much the start of tenant t rises if each of its requests that run turns out as long as it may
abbrev pub may_rise : (cap : ℕ → ℕ) → Config → History → ℕ → ℕ
may_rise cap C P t = over_running C P t (λ r. cap r - request_length C P t r)

-- by how much it falls if each turns out as short as it may
abbrev pub may_fall : (low : ℕ → ℕ) → Config → History → ℕ → ℕ
may_fall low C P t = over_running C P t (λ r. request_length C P t r - low r)

-- the doubt about the requests that run, to the gain of f over g
abbrev pub doubt : (cap low : ℕ → ℕ) → Config → History → ℕ → ℕ → ℕ
doubt cap low C P f g = may_rise cap C P f + may_fall low C P g

-- The lead.

-- the start of tenant t at the last entry
abbrev pub start_now : Config → History → ℕ → ℕ
start_now C P t = start C P (last_moment P) t

-- its start if each of its requests that run turns out as long as it may
abbrev pub most : (cap : ℕ → ℕ) → Config → History → ℕ → ℤ
most cap C P t = pos (start_now C P t + may_rise cap C P t)

-- its start if each turns out as short as it may
abbrev pub least : (low : ℕ → ℕ) → Config → History → ℕ → ℤ
least low C P t = pos (start_now C P t) -ℤ pos (may_fall low C P t)

-- how far f is ahead of g at most, however the requests that run turn out
abbrev pub lead : (cap low : ℕ → ℕ) → Config → History → ℕ → ℕ → ℤ
lead cap low C P f g = most cap C P f -ℤ least low C P g

-- Takes.

abbrev pub length_of_request : Config → History → ℕ → Option Request → ℕ
length_of_request C P t None = 0
length_of_request C P t (Some q) = length_of (request_estimate C P q) (weight_at C P t)

abbrev pub length_of_head : Config → History → ℕ → Option ℕ → ℕ
length_of_head C P t None = 0
length_of_head C P t (Some r) = length_of_request C P t (request_at P r)

-- the length of the head of tenant t by its estimate, or 0 where it has none
abbrev pub head_length : Config → History → ℕ → ℕ
head_length C P t = length_of_head C P t (head P t)

-- how far the start of f is above that of g at most, once worker i has taken the head of f while both waited: by the
-- head of g, or by that of f with its stagger
abbrev pub lead_of_take : Config → History → ℕ → ℕ → ℕ → ℤ
lead_of_take C P i f g = int_max
    (pos (head_length C P g))
    (stagger C.policy (pos (head_length C P f)) i (pool_at C P) +ℤ pos (head_length C P f))

-- the worker by which the act takes a request of tenant t, if it does
abbrev pub takes_of : ℕ → History → Act → Option ℕ
takes_of t P (Take worker request estimate) = if is_of_tenant t (request_at P request) then Some worker else None
takes_of t P _ = None

-- this entry after P takes a request of f while both wait
abbrev pub is_lead_take : History → Act → ℕ → ℕ → Bool
is_lead_take P a f g = is_shared P f g && is_some (takes_of f P a)

-- Measured over a history H, where each request turned out somehow.

-- the greatest length that request r of tenant t has at a prefix of H, or 0 where it is not taken
unfoldable pub longest_of : Config → History → ℕ → ℕ → ℕ
longest_of C [] t r = 0
longest_of C (e ∷ P) t r = max (charged C (e ∷ P) t r) (longest_of C P t r)

-- the least that it has from its Take on, or 0
unfoldable pub shortest_of : Config → History → ℕ → ℕ → ℕ
shortest_of C [] t r = 0
shortest_of C (e ∷ P) t r =
    if is_taken_of P t r then min (charged C (e ∷ P) t r) (shortest_of C P t r) else charged C (e ∷ P) t r

-- the lead at P, by the lengths that the requests that run at P have in H
abbrev pub measured_lead : Config → History → History → ℕ → ℕ → ℤ
measured_lead C H P f g = lead (longest_of C H f) (shortest_of C H g) C P f g

-- the leads at those prefixes of P at which both begin to wait
unfoldable pub first_leads : Config → History → History → ℕ → ℕ → List ℤ
first_leads C H [] f g = []
first_leads C H (e ∷ P) f g =
    if is_shared (e ∷ P) f g && not (is_shared P f g)
    then measured_lead C H (e ∷ P) f g ∷ first_leads C H P f g
    else first_leads C H P f g

-- the lengths of the heads of both by their estimates, wherever a request of f is taken while both wait
unfoldable pub take_lengths : Config → History → ℕ → ℕ → List ℕ
take_lengths C [] f g = []
take_lengths C (e ∷ P) f g =
    if is_lead_take P e.act f g
    then head_length C P f ∷ head_length C P g ∷ take_lengths C P f g
    else take_lengths C P f g

-- the doubt just after each such Take, by the lengths in H
unfoldable pub take_doubts : Config → History → History → ℕ → ℕ → List ℕ
take_doubts C H [] f g = []
take_doubts C H (e ∷ P) f g =
    if is_lead_take P e.act f g
    then doubt (longest_of C H f) (shortest_of C H g) C (e ∷ P) f g ∷ take_doubts C H P f g
    else take_doubts C H P f g

-- the greater of the greatest lead where both begin to wait, and of one length of a head, or two under 2dfq and 2dfq+,
-- with the greatest doubt
unfoldable pub lead_bound : Config → History → ℕ → ℕ → ℤ
lead_bound C H f g = greatest_with
    (pos (lengths_in_bound C.policy * greatest (take_lengths C H f g) + greatest (take_doubts C H H f g)))
    (first_leads C H H f g)

-- the largest difference of the starts of f and g while both wait, and its bound; or none exactly where the two
-- never wait together
unfoldable pub measured_gap : Config → History → ℕ → ℕ → Option TagGap
measured_gap C H f g =
    option_map
    (λ largest. record { largest = largest; bound = lead_bound C H f g })
    (largest_difference C H f g)
