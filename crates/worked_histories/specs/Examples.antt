-- Worked histories, the newest entry first, small enough to find the values of the definitions by hand. The numbers of
-- an act are in the order of its fields: Submit request tenant kind declared label, Take worker request estimate,
-- Report worker request used, Done worker request cost, Weight tenant weight.
use Rattle.std.specs.Prelude.{ℕ, ◌*◌, [], ◌∷◌, pos}
use Rattle.vt_fixed.specs.Rounding.{steps_per_unit}
use Rattle.fq_model.specs.declared.config.Config.{Config}
use Rattle.fq_model.specs.declared.limits.Limits.TheVariants.{Text}
use Rattle.fq_model.specs.declared.config.Policy.{Policy}
use Rattle.fq_model.specs.declared.config.Policy.TheVariants.{Wf2q, TwoDfq}
use Rattle.fq_model.specs.declared.config.Estimator.TheVariants.{Declared, Recent, Pessimistic}
use Rattle.fq_model.specs.declared.event.Act.{Act}
use Rattle.fq_model.specs.declared.event.Act.TheVariants.{Submit, Take, Report, Done, Close, Weight, Workers}
use Rattle.fq_model.specs.declared.event.Entry.{Entry}
use Rattle.fq_model.specs.History.{History}
use Rattle.fq_model.specs.Keys.{HeadKeys, HasKeys, NoneIsEligible, turn_at}

-- an entry of this caller
abbrev pub entry : ℕ → ℕ → Act → Entry
entry who moment act = record { who = who; moment = moment; act = act }

-- this number of virtual units, in steps
abbrev pub units : ℕ → ℕ
units n = n * steps_per_unit

-- the keys of a head whose start and length are these numbers of units
abbrev pub keys : ℕ → ℕ → ℕ → HeadKeys
keys start len request = record { start = pos (units start); len = pos (units len); request = request }

-- nothing is eligible for worker i at m
abbrev pub NoneIsEligibleAt : Config → History → ℕ → ℕ → Type 0
NoneIsEligibleAt C P m i = NoneIsEligible (turn_at C P m i) (HasKeys C P m)

-- ---- stagger

-- two workers, and two tenants of weight 1, under 2dfq
unfoldable pub stagger_config : Config
stagger_config = record {
  limits = Text;
  workers = 2;
  weights = 1 ∷ 1 ∷ [];
  kinds = 1;
  entries = 100;
  requests = 10;
  policy = TwoDfq;
  estimate = Declared;
  initial = 1000;
}

-- worker 1 runs a request of tenant 0 that is 8 long, while worker 0 runs requests of tenant 1 that are 1 long: the
-- sixth of them has just begun
unfoldable pub stagger_history : History
stagger_history =
    entry 10 5 (Take 0 7 1)
    ∷ entry 10 5 (Done 0 6 1)
    ∷ entry 10 4 (Take 0 6 1)
    ∷ entry 10 4 (Done 0 5 1)
    ∷ entry 10 3 (Take 0 5 1)
    ∷ entry 10 3 (Done 0 4 1)
    ∷ entry 10 2 (Take 0 4 1)
    ∷ entry 10 2 (Done 0 3 1)
    ∷ entry 10 1 (Take 0 3 1)
    ∷ entry 10 1 (Done 0 2 1)
    ∷ entry 10 0 (Take 0 2 1)
    ∷ entry 1 0 (Submit 9 1 0 1 18)
    ∷ entry 1 0 (Submit 8 1 0 1 17)
    ∷ entry 1 0 (Submit 7 1 0 1 16)
    ∷ entry 1 0 (Submit 6 1 0 1 15)
    ∷ entry 1 0 (Submit 5 1 0 1 14)
    ∷ entry 1 0 (Submit 4 1 0 1 13)
    ∷ entry 1 0 (Submit 3 1 0 1 12)
    ∷ entry 1 0 (Submit 2 1 0 1 11)
    ∷ entry 11 0 (Take 1 0 8)
    ∷ entry 0 0 (Submit 1 0 0 8 2)
    ∷ entry 0 0 (Submit 0 0 0 8 1)
    ∷ []

-- the long request ends, and worker 1 is free
unfoldable pub long_ended : History
unfolding stagger_history
long_ended = entry 11 5 (Done 1 0 8) ∷ stagger_history

-- the sixth short request ends in its place, and worker 0 is free
unfoldable pub sixth_ended : History
unfolding stagger_history
sixth_ended = entry 10 5 (Done 0 7 1) ∷ stagger_history

-- ---- fallback

-- two workers, and two tenants of weight 1, under wf2q
unfoldable pub fallback_config : Config
fallback_config = record {
  limits = Text;
  workers = 2;
  weights = 1 ∷ 1 ∷ [];
  kinds = 1;
  entries = 100;
  requests = 10;
  policy = Wf2q;
  estimate = Declared;
  initial = 1000;
}

-- a request of tenant 0 has ended, and one of tenant 1 runs; each has one that waits
unfoldable pub fallback_history : History
fallback_history =
    entry 10 1 (Done 0 0 2)
    ∷ entry 11 0 (Take 1 2 3)
    ∷ entry 10 0 (Take 0 0 2)
    ∷ entry 1 0 (Submit 3 1 0 1 4)
    ∷ entry 1 0 (Submit 2 1 0 3 3)
    ∷ entry 0 0 (Submit 1 0 0 10 2)
    ∷ entry 0 0 (Submit 0 0 0 2 1)
    ∷ []

-- worker 0 then takes this request, at this estimate
unfoldable pub fallback_taken : ℕ → ℕ → History
unfolding fallback_history
fallback_taken request estimate = entry 10 1 (Take 0 request estimate) ∷ fallback_history

-- ---- refund

-- one worker, and tenants of the weights 1 and 2, with pessimistic estimates that begin at 990
unfoldable pub refund_config : Config
refund_config = record {
  limits = Text;
  workers = 1;
  weights = 1 ∷ 2 ∷ [];
  kinds = 1;
  entries = 100;
  requests = 10;
  policy = TwoDfq;
  estimate = Pessimistic;
  initial = 990;
}

-- a request of tenant 0 that was estimated at 990 cost 3, and then one of tenant 1 cost the 990 that it was estimated
-- at
unfoldable pub refund_history : History
refund_history =
    entry 1 993 (Submit 3 1 0 1 4)
    ∷ entry 10 993 (Done 0 2 990)
    ∷ entry 10 3 (Take 0 2 990)
    ∷ entry 10 3 (Done 0 0 3)
    ∷ entry 1 0 (Submit 2 1 0 1 3)
    ∷ entry 10 0 (Take 0 0 990)
    ∷ entry 0 0 (Submit 1 0 0 1 2)
    ∷ entry 0 0 (Submit 0 0 0 1 1)
    ∷ []

-- ---- weights

-- one worker, and two tenants of weight 1
unfoldable pub weights_config : Config
weights_config = record {
  limits = Text;
  workers = 1;
  weights = 1 ∷ 1 ∷ [];
  kinds = 1;
  entries = 100;
  requests = 10;
  policy = TwoDfq;
  estimate = Declared;
  initial = 1000;
}

-- tenant 0 gets the weight 2 before its first request is taken, and the weight 4 while that runs
unfoldable pub weights_history : History
weights_history =
    entry 10 20 (Done 0 0 8)
    ∷ entry 0 0 (Weight 0 4)
    ∷ entry 10 0 (Take 0 0 8)
    ∷ entry 0 0 (Weight 0 2)
    ∷ entry 1 0 (Submit 2 1 0 5 3)
    ∷ entry 0 0 (Submit 1 0 0 8 2)
    ∷ entry 0 0 (Submit 0 0 0 8 1)
    ∷ []

-- ---- workers

-- two workers at the opening, and two tenants of weight 1
unfoldable pub workers_config : Config
workers_config = record {
  limits = Text;
  workers = 2;
  weights = 1 ∷ 1 ∷ [];
  kinds = 1;
  entries = 100;
  requests = 10;
  policy = TwoDfq;
  estimate = Declared;
  initial = 1000;
}

-- one worker from moment 0 on, while worker 1 runs a request, which ends
unfoldable pub workers_history : History
workers_history =
    entry 11 4 (Done 1 0 4)
    ∷ entry 0 0 (Workers 1)
    ∷ entry 11 0 (Take 1 0 4)
    ∷ entry 0 0 (Submit 1 0 0 4 2)
    ∷ entry 0 0 (Submit 0 0 0 4 1)
    ∷ []

-- ---- pause

-- one worker, and two tenants of weight 1, under each policy
unfoldable pub pause_config : Policy → Config
pause_config policy = record {
  limits = Text;
  workers = 1;
  weights = 1 ∷ 1 ∷ [];
  kinds = 1;
  entries = 100;
  requests = 10;
  policy = policy;
  estimate = Declared;
  initial = 1000;
}

-- tenant 0 has nothing to do from moment 1010 to moment 2010, while tenant 1 has a request that waits
unfoldable pub pause_history : History
pause_history =
    entry 0 2010 (Submit 3 0 0 200 4)
    ∷ entry 10 1010 (Done 0 1 10)
    ∷ entry 10 1000 (Take 0 1 10)
    ∷ entry 10 1000 (Done 0 0 1000)
    ∷ entry 1 0 (Submit 2 1 0 300 3)
    ∷ entry 0 0 (Submit 1 0 0 10 2)
    ∷ entry 10 0 (Take 0 0 1000)
    ∷ entry 1 0 (Submit 0 1 0 1000 1)
    ∷ []

-- ---- one request

-- one worker, and one tenant
unfoldable pub single_config : Config
single_config = record {
  limits = Text;
  workers = 1;
  weights = 1 ∷ [];
  kinds = 1;
  entries = 5;
  requests = 1;
  policy = TwoDfq;
  estimate = Declared;
  initial = 1000;
}

-- its request was declared to cost 5, and is seen to have used 6
unfoldable pub single_reported : History
single_reported =
    entry 10 7 (Report 0 0 6)
    ∷ entry 10 1 (Take 0 0 5)
    ∷ entry 0 0 (Submit 0 0 0 5 1)
    ∷ []

-- it ends at this cost, and the history is closed
unfoldable pub single_ended : ℕ → History
unfolding single_reported
single_ended cost = entry 0 9 Close ∷ entry 10 8 (Done 0 0 cost) ∷ single_reported

-- ---- recent costs

-- one worker, and one tenant, whose estimates are the mean of its recent costs
unfoldable pub recent_config : Config
recent_config = record {
  limits = Text;
  workers = 1;
  weights = 1 ∷ [];
  kinds = 1;
  entries = 100;
  requests = 10;
  policy = TwoDfq;
  estimate = Recent;
  initial = 1000;
}

-- a request more, submitted, taken at this estimate and done at this cost
abbrev pub served : ℕ → ℕ → ℕ → History → History
served request estimate cost P =
    entry 10 0 (Done 0 request cost) ∷ entry 10 0 (Take 0 request estimate) ∷ entry 0 0 (Submit request 0 0 7 1) ∷ P

-- nine requests, of which the first cost 100 and the others 2 to 9
unfoldable pub recent_history : History
recent_history =
    served 8 16 9 (served 7 18 8 (served 6 20 7 (served 5 22 6 (served 4 27 5
    (served 3 35 4 (served 2 51 3 (served 1 100 2 (served 0 1000 100 []))))))))

-- ---- little room

-- one worker, one tenant and one kind, and the least number of entries
unfoldable pub small_config : Config
small_config = record {
  limits = Text;
  workers = 1;
  weights = 1 ∷ [];
  kinds = 1;
  entries = 4;
  requests = 2;
  policy = TwoDfq;
  estimate = Declared;
  initial = 1000;
}

-- one request runs
unfoldable pub small_history : History
small_history = entry 10 0 (Take 0 0 5) ∷ entry 0 0 (Submit 0 0 0 5 1) ∷ []

-- it ends, and the history is closed
unfoldable pub small_ended : History
unfolding small_history
small_ended = entry 0 5 Close ∷ entry 10 5 (Done 0 0 5) ∷ small_history

-- in place of that it is seen to have used 1
unfoldable pub small_reported : History
unfolding small_history
small_reported = entry 10 1 (Report 0 0 1) ∷ small_history

-- or another request is submitted
unfoldable pub small_crowded : History
unfolding small_history
small_crowded = entry 0 1 (Submit 1 0 0 5 2) ∷ small_history
