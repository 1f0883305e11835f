-- A history is the list of its entries, the newest first. The requests that are submitted, wait and run in it.
use Rattle.std.specs.Prelude.{ℕ, suc, ◌^◌, ◌≤◌, ◌≡◌, ◌==◌, max, Bool, true, false, not, ◌&&◌, ◌||◌, if◌then◌else◌, List, [], ◌∷◌, ◌++◌, Option, Some, None, reverse, drop, filter, slice_index}
use Rattle.fq_model.specs.declared.config.Config.{Config}
use Rattle.fq_model.specs.declared.event.Act.{Act}
use Rattle.fq_model.specs.declared.event.Act.TheVariants.{Submit, Take, Report, Done, Close, Weight, Workers, Withdraw}
use Rattle.fq_model.specs.declared.event.Entry.{Entry}
use Rattle.fq_model.specs.Sums.{count_below, least_below}

abbrev pub History : Type 0
History = List Entry

-- the history of entries in order of time
abbrev pub history_of : List Entry → History
history_of entries = reverse entries

-- the act is the Submit of r
abbrev pub is_submit_of : ℕ → Act → Bool
is_submit_of r (Submit request tenant kind declared label) = request == r
is_submit_of r _ = false

-- the act is a Take of r
abbrev pub is_take_of : ℕ → Act → Bool
is_take_of r (Take worker request estimate) = request == r
is_take_of r _ = false

-- the act is a Take of r by worker i
abbrev pub is_take_by : ℕ → ℕ → Act → Bool
is_take_by i r (Take worker request estimate) = (worker == i) && (request == r)
is_take_by i r _ = false

-- the act is a Done of r
abbrev pub is_done_of : ℕ → Act → Bool
is_done_of r (Done worker request cost) = request == r
is_done_of r _ = false

-- the act is a Withdraw of r
abbrev pub is_withdraw_of : ℕ → Act → Bool
is_withdraw_of r (Withdraw request) = request == r
is_withdraw_of r _ = false

-- the act removes r from those that wait: it is a Take or a Withdraw of r
abbrev pub is_removal_of : ℕ → Act → Bool
is_removal_of r (Take worker request estimate) = request == r
is_removal_of r (Withdraw request) = request == r
is_removal_of r _ = false

-- the act ends r: it is a Done or a Withdraw of r
abbrev pub is_end_of : ℕ → Act → Bool
is_end_of r (Done worker request cost) = request == r
is_end_of r (Withdraw request) = request == r
is_end_of r _ = false

abbrev pub is_close : Act → Bool
is_close Close = true
is_close _ = false

abbrev pub is_submit : Act → Bool
is_submit (Submit request tenant kind declared label) = true
is_submit _ = false

-- the act changes a weight or the number of workers, or withdraws a request
abbrev pub is_change : Act → Bool
is_change (Weight tenant weight) = true
is_change (Workers count) = true
is_change (Withdraw request) = true
is_change _ = false

abbrev pub is_withdraw : Act → Bool
is_withdraw (Withdraw request) = true
is_withdraw _ = false

-- how many acts pass the test
abbrev pub count_acts : (Act → Bool) → History → ℕ
count_acts test [] = 0
count_acts test (e ∷ P) = if test e.act then suc (count_acts test P) else count_acts test P

-- the act of some entry passes the test
abbrev pub has_act : (Act → Bool) → History → Bool
has_act test [] = false
has_act test (e ∷ P) = test e.act || has_act test P

unfoldable pub is_submitted : History → ℕ → Bool
is_submitted P r = has_act (is_submit_of r) P

unfoldable pub is_taken : History → ℕ → Bool
is_taken P r = has_act (is_take_of r) P

unfoldable pub is_done : History → ℕ → Bool
is_done P r = has_act (is_done_of r) P

unfoldable pub is_withdrawn : History → ℕ → Bool
is_withdrawn P r = has_act (is_withdraw_of r) P

-- r is taken or withdrawn
unfoldable pub is_removed : History → ℕ → Bool
is_removed P r = has_act (is_removal_of r) P

-- r is done or withdrawn
unfoldable pub is_ended : History → ℕ → Bool
is_ended P r = has_act (is_end_of r) P

unfoldable pub is_closed : History → Bool
is_closed P = has_act is_close P

-- r is submitted, and neither taken nor withdrawn
unfoldable pub is_waiting : History → ℕ → Bool
is_waiting P r = is_submitted P r && not (is_removed P r)

-- r is taken and not done
unfoldable pub is_running : History → ℕ → Bool
is_running P r = is_taken P r && not (is_done P r)

-- no request has a number of this or above, since it is 32 bits wide
unfoldable pub request_bound : ℕ
request_bound = 2 ^ 32

-- the number of waiting requests
unfoldable pub waiting : History → ℕ
waiting P = count_below (is_waiting P) request_bound

-- the number of running requests
unfoldable pub running : History → ℕ
running P = count_below (is_running P) request_bound

-- one more for a Submit
abbrev pub with_submit : Act → ℕ → ℕ
with_submit (Submit request tenant kind declared label) older = suc older
with_submit _ older = older

-- the number of Submits
abbrev pub submits : History → ℕ
submits [] = 0
submits (e ∷ P) = with_submit e.act (submits P)

-- the tenant, kind, declared cost and label in the Submit of a request
pub record Request : Type 0 where
  pub tenant : ℕ
  pub kind : ℕ
  pub declared : ℕ
  pub label : ℕ

abbrev pub request_in : ℕ → Act → Option Request → Option Request
request_in r (Submit request tenant kind declared label) older =
    if request == r then Some (record { tenant = tenant; kind = kind; declared = declared; label = label }) else older
request_in r _ older = older

-- the tenant, kind, declared cost and label in the Submit of r, if it is submitted
abbrev pub request_at : History → ℕ → Option Request
request_at [] r = None
request_at (e ∷ P) r = request_in r e.act (request_at P r)

-- it is a request of tenant t
abbrev pub is_of_tenant : ℕ → Option Request → Bool
is_of_tenant t None = false
is_of_tenant t (Some q) = q.tenant == t

-- r is a request of tenant t, and waits
unfoldable pub waits_for : History → ℕ → ℕ → Bool
waits_for P t r = is_of_tenant t (request_at P r) && not (is_removed P r)

-- the head of tenant t: its least waiting request, if one waits
unfoldable pub head : History → ℕ → Option ℕ
head P t = least_below (waits_for P t) request_bound

abbrev pub WaitsFor : History → ℕ → ℕ → Type 0
WaitsFor P t r = waits_for P t r ≡ true

-- r is the least waiting request of tenant t (a law says that this is the head)
pub record IsHead (P : History) (t r : ℕ) : Type 0 where
  pub waits : WaitsFor P t r
  pub least : (s : ℕ) → WaitsFor P t s → r ≤ s

-- worker i runs r: it has taken r, and r is not done
pub record Runs (P : History) (i r : ℕ) : Type 0 where
  pub taken : has_act (is_take_by i r) P ≡ true
  pub not_done : is_done P r ≡ false

abbrev pub use_in : ℕ → Act → ℕ
use_in r (Report worker request used) = if request == r then used else 0
use_in r _ = 0

-- the greatest use reported of r, or 0
abbrev pub last_use : History → ℕ → ℕ
last_use [] r = 0
last_use (e ∷ P) r = max (use_in r e.act) (last_use P r)

-- the weight of tenant t after one act more
abbrev pub weight_after : ℕ → Act → ℕ → ℕ
weight_after t (Weight tenant weight) older = if tenant == t then weight else older
weight_after t _ older = older

-- the weight of tenant t at P: that of the last Weight of t, or else the configuration's
unfoldable pub weight_at : Config → History → ℕ → ℕ
weight_at C [] t = slice_index C.weights t
weight_at C (e ∷ P) t = weight_after t e.act (weight_at C P t)

-- the number of workers after one act more
abbrev pub pool_after : Act → ℕ → ℕ
pool_after (Workers count) older = count
pool_after _ older = older

-- the number of workers at P: that of the last Workers, or else the configuration's
unfoldable pub pool_at : Config → History → ℕ
pool_at C [] = C.workers
pool_at C (e ∷ P) = pool_after e.act (pool_at C P)

-- the request that runs on worker i after one act more
abbrev pub running_after : ℕ → Act → Option ℕ → Option ℕ
running_after i (Take worker request estimate) older = if worker == i then Some request else older
running_after i (Done worker request cost) older = if worker == i then None else older
running_after i _ older = older

-- the request of worker i's last Take, or none where a Done by this worker follows it: in a legal history the request
-- that the worker runs (a law ties it to `Runs`)
abbrev pub running_on : History → ℕ → Option ℕ
running_on [] i = None
running_on (e ∷ P) i = running_after i e.act (running_on P i)

-- the queue of tenant t after one act more
abbrev pub queue_after : History → ℕ → Act → List ℕ → List ℕ
queue_after P t (Submit request tenant kind declared label) older = if tenant == t then older ++ request ∷ [] else older
queue_after P t (Take worker request estimate) older =
    if is_of_tenant t (request_at P request) then drop 1 older else older
queue_after P t (Withdraw request) older =
    if is_of_tenant t (request_at P request) then filter (λ r. not (r == request)) older else older
queue_after P t _ older = older

-- the waiting requests of tenant t, the oldest first (a law ties it to `waits_for`)
abbrev pub queue : History → ℕ → List ℕ
queue [] t = []
queue (e ∷ P) t = queue_after P t e.act (queue P t)
