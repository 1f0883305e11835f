-- Consequences of the definitions of histories, of the choice and of answers.
use Rattle.std.specs.Prelude.{ℕ, ◌+◌, ◌*◌, ◌<◌, ◌≤◌, ◌≡◌, ◌^◌, ◌↔◌, true, false, if◌then◌else◌, List, ◌∷◌, length, Some, None}
use Rattle.fq_model.specs.declared.config.Config.{Config}
use Rattle.fq_model.specs.declared.event.Entry.{Entry}
use Rattle.fq_model.specs.declared.event.Call.{Call}
use Rattle.fq_model.specs.declared.event.Reply.{Reply}
use Rattle.fq_model.specs.declared.event.Reply.TheVariants as answer
use Rattle.fq_model.specs.declared.event.Cause.{Cause}
use Rattle.fq_model.specs.Limits.{InLimits, IsWithin, IsWeight}
use Rattle.fq_model.specs.History.{History, count_acts, is_submit_of, is_take_of, is_done_of, is_removal_of, is_end_of, is_submitted, is_taken, is_withdrawn, is_closed, waiting, running, running_on, Runs, weight_at, pool_at, WaitsFor, IsHead, head, queue}
use Rattle.fq_model.specs.Keys.{HeadKeys, keys_at, IsChoiceAt}
use Rattle.fq_model.specs.Rules.{IsLegal, RunsNothing, Answers}
use Rattle.fq_model.specs.Outcome.{Outcome}
use Rattle.fq_laws.specs.Words.{first, Member, Ascends, concerns, Leaves, caller, named_moment, Extends}

-- ---- requests

-- a request is submitted, taken and done once at most, it is taken or withdrawn once at most, and so it is done or
-- withdrawn once at most
pub record Once (P : History) (r : ℕ) : Type 0 where
  pub submitted : count_acts (is_submit_of r) P ≤ 1
  pub taken : count_acts (is_take_of r) P ≤ 1
  pub done : count_acts (is_done_of r) P ≤ 1
  pub removed : count_acts (is_removal_of r) P ≤ 1
  pub ended : count_acts (is_end_of r) P ≤ 1

abbrev pub EachOnce : Type 0
EachOnce = (C : Config) (P : History) (r : ℕ) → IsLegal C P → Once P r

-- a withdrawn request is never taken
abbrev pub WithdrawnIsNotTaken : Type 0
WithdrawnIsNotTaken =
    (C : Config) (P : History) (r : ℕ) → IsLegal C P → is_withdrawn P r ≡ true → is_taken P r ≡ false

-- the number of a submitted request fits 32 bits
abbrev pub NumbersFit : Type 0
NumbersFit = (C : Config) (P : History) (r : ℕ) → InLimits C → IsLegal C P → is_submitted P r ≡ true → r < 2 ^ 32

-- ---- workers

-- `running_on` names r where the worker runs r, and no other request, and names none where it runs nothing
abbrev pub RunningLaw : Type 0
RunningLaw =
    (C : Config) (P : History) (i : ℕ) → IsLegal C P
    → ((r : ℕ) → (running_on P i ≡ Some r) ↔ Runs P i r) × ((running_on P i ≡ None) ↔ RunsNothing P i)

-- the workers of a legal history are 1 at least, and at most as many as at the opening
abbrev pub PoolRange : Type 0
PoolRange = (C : Config) (P : History) → InLimits C → IsLegal C P → IsWithin 1 C.workers (pool_at C P)

-- a worker that runs a request is one of the workers at the opening, and need not be in the pool any more
abbrev pub RunnersKnown : Type 0
RunnersKnown = (C : Config) (P : History) (i r : ℕ) → IsLegal C P → Runs P i r → i < C.workers

-- ---- weights

-- each tenant of a legal history has a weight in its limits
abbrev pub WeightRange : Type 0
WeightRange =
    (C : Config) (P : History) (t : ℕ) → InLimits C → IsLegal C P → t < length C.weights → IsWeight (weight_at C P t)

-- ---- heads

-- the head of a tenant is its least waiting request, and it has none where no request of it waits
abbrev pub HeadLaw : Type 0
HeadLaw =
    (C : Config) (P : History) (t : ℕ) → InLimits C → IsLegal C P
    → ((r : ℕ) → (head P t ≡ Some r) ↔ IsHead P t r) × ((head P t ≡ None) ↔ ((r : ℕ) → ¬ WaitsFor P t r))

-- the queue of a tenant is its waiting requests, the oldest first
pub record IsQueue (P : History) (t : ℕ) (xs : List ℕ) : Type 0 where
  pub ascends : Ascends xs
  pub waits : (r : ℕ) → Member r xs ↔ WaitsFor P t r
  pub head_first : head P t ≡ first xs

abbrev pub QueueLaw : Type 0
QueueLaw = (C : Config) (P : History) (t : ℕ) → InLimits C → IsLegal C P → IsQueue P t (queue P t)

-- ---- the choice

-- some tenant is chosen
abbrev pub SomeChoice : Config → History → ℕ → ℕ → Type 0
SomeChoice C P m i = (t : ℕ) × (k : HeadKeys) × IsChoiceAt C P m i t k

-- where a request waits, some tenant is chosen
abbrev pub ChoiceExists : Type 0
ChoiceExists = (C : Config) (P : History) (m i : ℕ) → IsLegal C P → 1 ≤ waiting P → SomeChoice C P m i

-- two choices of a worker at one moment are the same tenant, with the same keys
abbrev pub OneChoice : Type 0
OneChoice =
    (C : Config) (P : History) (m i t u : ℕ) (k l : HeadKeys) → IsChoiceAt C P m i t k → IsChoiceAt C P m i u l
    → (t ≡ u) × (k ≡ l)

-- ---- tenants and keys that do not change

-- an entry does not change the tenants that it does not concern
abbrev pub EntriesLeaveOthers : Type 0
EntriesLeaveOthers =
    (C : Config) (P : History) (e : Entry) (t : ℕ) → InLimits C → IsLegal C (e ∷ P) → concerns P t e.act ≡ false
    → Leaves C P (e ∷ P) t

-- the keys of a tenant are the same at each moment
abbrev pub KeysDoNotAge : Type 0
KeysDoNotAge = (C : Config) (P : History) (m n t : ℕ) → IsLegal C P → keys_at C P m t ≡ keys_at C P n t

-- nor does an entry that does not concern the tenant change them
abbrev pub OthersKeepKeys : Type 0
OthersKeepKeys =
    (C : Config) (P : History) (e : Entry) (m n t : ℕ) → InLimits C → IsLegal C (e ∷ P) → concerns P t e.act ≡ false
    → keys_at C (e ∷ P) m t ≡ keys_at C P n t

-- ---- answers

-- some reply and some history answer the call
abbrev pub SomeAnswer : Config → History → Call → Type 0
SomeAnswer C P c = (reply : Reply) × (P2 : History) × Answers C P c reply P2

-- each call has an answer
abbrev pub AnswerExists : Type 0
AnswerExists = (C : Config) (P : History) (c : Call) → IsLegal C P → SomeAnswer C P c

-- two answers of a call are the same reply, and leave the same history
abbrev pub OneAnswer : Type 0
OneAnswer =
    (C : Config) (P H K : History) (c : Call) (r s : Reply) → Answers C P c r H → Answers C P c s K → (r ≡ s) × (H ≡ K)

-- an answer leaves a legal history legal
abbrev pub AnswersKeepLegality : Type 0
AnswersKeepLegality =
    (C : Config) (P H : History) (c : Call) (r : Reply) → InLimits C → IsLegal C P → Answers C P c r H → IsLegal C H

-- an answer leaves the history as it is, or adds one entry to it, which is of the call's maker and moment
abbrev pub AnswersAddOne : Type 0
AnswersAddOne =
    (C : Config) (P H : History) (c : Call) (r : Reply) → Answers C P c r H → Extends (caller c) (named_moment c) P H

-- a refused call leaves the history as it is
abbrev pub RefusalsChangeNothing : Type 0
RefusalsChangeNothing = (C : Config) (P H : History) (c : Call) (x : Cause) → Answers C P c (answer.Refused x) H → H ≡ P

-- ---- room

-- the entries for which a legal history still has room
pub record Room (C : Config) (P : History) : Type 0 where
  -- a Take and a Done of each waiting request, a Done of each running one, and the first Close
  pub for_all : length P + 2 * waiting P + running P + (if is_closed P then 0 else 1) ≤ C.entries
  pub for_take : 1 ≤ waiting P → length P < C.entries
  pub for_done : (i r : ℕ) → Runs P i r → length P < C.entries
  pub for_close : is_closed P ≡ false → length P < C.entries

abbrev pub RoomRemains : Type 0
RoomRemains = (C : Config) (P : History) → InLimits C → IsLegal C P → Room C P

-- ---- lists of calls

-- some replies and some history are an outcome of the calls
abbrev pub SomeOutcome : Config → List Call → Type 0
SomeOutcome C calls = (replies : List Reply) × (H : History) × Outcome C calls replies H

abbrev pub OutcomeExists : Type 0
OutcomeExists = (C : Config) (calls : List Call) → InLimits C → SomeOutcome C calls

-- two outcomes of the same calls are the same replies and the same history
abbrev pub OneOutcome : Type 0
OneOutcome =
    (C : Config) (H K : History) (calls : List Call) (rs ss : List Reply) → Outcome C calls rs H → Outcome C calls ss K
    → (rs ≡ ss) × (H ≡ K)

-- the history of an outcome is legal
abbrev pub OutcomesAreLegal : Type 0
OutcomesAreLegal =
    (C : Config) (H : History) (calls : List Call) (replies : List Reply) → InLimits C → Outcome C calls replies H
    → IsLegal C H
