-- Legal histories, and the answer to each call.
use Rattle.std.specs.Prelude.{ℕ, ◌+◌, ◌*◌, ◌<◌, ◌≤◌, ◌≡◌, ◌==◌, nat_lt, nat_le, Bool, true, false, not, ◌||◌, if◌then◌else◌, List, [], ◌∷◌, ◌++◌, Option, Some, None, is_some, is_none, unwrap_or, length, MatchBool}
use Rattle.fq_model.specs.declared.config.Config.{Config}
use Rattle.fq_model.specs.declared.event.Act.{Act}
use Rattle.fq_model.specs.declared.event.Act.TheVariants.{Submit, Take, Report, Done, Close, Weight, Workers, Withdraw}
use Rattle.fq_model.specs.declared.event.Call.{Call}
use Rattle.fq_model.specs.declared.event.Call.TheVariants as call
use Rattle.fq_model.specs.declared.event.Reply.{Reply}
use Rattle.fq_model.specs.declared.event.Reply.TheVariants as answer
use Rattle.fq_model.specs.declared.event.Cause.{Cause}
use Rattle.fq_model.specs.declared.event.Cause.TheVariants as cause
use Rattle.fq_model.specs.History.{History, Request, request_at, is_waiting, waiting, running, running_on, submits, is_closed, Runs, last_use, pool_at}
pub use Rattle.fq_model.specs.Rows.{first_true}
use Rattle.fq_model.specs.Limits.{IsWithin, is_outside, greatest_weight}
use Rattle.vt_fixed.specs.declared.limits.TheConstants.{GREATEST_COST, GREATEST_MOMENT}
use Rattle.fq_model.specs.Time.{last_moment, effective_moment}
use Rattle.fq_model.specs.Charge.{request_estimate}
use Rattle.fq_model.specs.Keys.{HeadKeys, IsChoiceAt}

-- the entries that a history has, those that its waiting and its running requests may need, and x more
abbrev pub needed_room : History → ℕ → ℕ
needed_room P x = length P + 2 * waiting P + running P + x

-- the needed room is at most the configuration's entries
abbrev pub HasRoom : Config → History → ℕ → Type 0
HasRoom C P x = needed_room P x ≤ C.entries

-- worker i runs no request
abbrev pub RunsNothing : History → ℕ → Type 0
RunsNothing P i = (r : ℕ) → ¬ Runs P i r

-- worker i takes this request at m: it is the head of the chosen tenant, its Submit has q, and this is its estimate
pub record IsChosen (C : Config) (P : History) (m i request estimate : ℕ) (q : Request) : Type 0 where
  pub tenant : ℕ
  pub keys : HeadKeys
  pub choice : IsChoiceAt C P m i tenant keys
  pub request_is : request ≡ keys.request
  pub asked : request_at P request ≡ Some q
  pub estimate_is : estimate ≡ request_estimate C P q

-- a Submit that fits
pub record FitsSubmit (C : Config) (P : History) (request tenant kind declared : ℕ) : Type 0 where
  pub open_still : is_closed P ≡ false
  pub numbered : request ≡ submits P
  pub tenant_known : tenant < length C.weights
  pub kind_known : kind < C.kinds
  pub declared_low : 1 ≤ declared
  pub declared_high : declared ≤ GREATEST_COST
  pub slot : waiting P < C.requests
  pub room : HasRoom C P 4

-- a Take that fits
pub record FitsTake (C : Config) (P : History) (m worker request estimate : ℕ) : Type 0 where
  pub worker_known : worker < pool_at C P
  pub free : RunsNothing P worker
  pub asked : Request
  pub chosen : IsChosen C P m worker request estimate asked

-- a use or a cost that the worker may name of the request
pub record FitsUse (P : History) (worker request used : ℕ) : Type 0 where
  pub runs : Runs P worker request
  pub rising : last_use P request ≤ used
  pub in_range : used ≤ GREATEST_COST

-- a Weight that fits
pub record FitsWeight (C : Config) (P : History) (tenant weight : ℕ) : Type 0 where
  pub tenant_known : tenant < length C.weights
  pub weight_in_range : IsWithin 1 (greatest_weight C.limits) weight
  pub room : HasRoom C P 2

-- a Workers that fits: the configuration's number is the most
pub record FitsWorkers (C : Config) (P : History) (count : ℕ) : Type 0 where
  pub count_in_range : IsWithin 1 C.workers count
  pub room : HasRoom C P 2

-- the act fits the history at m
abbrev pub Fits : Config → History → ℕ → Act → Type 0
Fits C P m (Submit request tenant kind declared label) = FitsSubmit C P request tenant kind declared
Fits C P m (Take worker request estimate) = FitsTake C P m worker request estimate
Fits C P m (Report worker request used) = FitsUse P worker request used × HasRoom C P 2
Fits C P m (Done worker request cost) = FitsUse P worker request cost
Fits C P m Close = is_closed P ≡ false
Fits C P m (Weight tenant weight) = FitsWeight C P tenant weight
Fits C P m (Workers count) = FitsWorkers C P count
Fits C P m (Withdraw request) = is_waiting P request ≡ true

-- moments do not fall, and each act fits the history before it
abbrev pub IsLegal : Config → History → Type 0
IsLegal C [] = Unit {0}
IsLegal C (e ∷ P) = IsLegal C P × (last_moment P ≤ e.moment) × (e.moment ≤ GREATEST_MOMENT) × Fits C P e.moment e.act

-- the request that runs on worker i, or 0 (read only below the row that asks whether it runs one)
abbrev pub request_on : History → ℕ → ℕ
request_on P i = unwrap_or (running_on P i) 0

-- why a submit is refused, if it is
abbrev pub submit_refusal : Config → History → ℕ → ℕ → ℕ → Option Cause
submit_refusal C P tenant kind declared = first_true
    ((is_closed P, cause.Closed)
    ∷ (nat_le (length C.weights) tenant, cause.Tenant tenant)
    ∷ (nat_le C.kinds kind, cause.Kind kind)
    ∷ ((declared == 0) || nat_lt GREATEST_COST declared, cause.Cost declared)
    ∷ (waiting P == C.requests, cause.Slots C.requests)
    ∷ (nat_lt C.entries (needed_room P 4), cause.Full C.entries)
    ∷ [])

-- why a take is refused, if it is (a worker that the pool has no place for may be free, and its reply is then Retired)
abbrev pub take_refusal : Config → History → ℕ → Option Cause
take_refusal C P i = first_true
    ((nat_le C.workers i, cause.Worker i)
    ∷ (is_some (running_on P i), cause.Busy (request_on P i))
    ∷ [])

-- why a use or a cost is refused, as rows
abbrev pub use_refusals : Config → History → ℕ → ℕ → List (Bool × Cause)
use_refusals C P i used =
    (nat_le C.workers i, cause.Worker i)
    ∷ (is_none (running_on P i), cause.NotRunning)
    ∷ (nat_lt GREATEST_COST used, cause.Cost used)
    ∷ (nat_lt used (last_use P (request_on P i)), cause.Falling (last_use P (request_on P i)) used)
    ∷ []

-- why a report is refused, if it is
abbrev pub report_refusal : Config → History → ℕ → ℕ → Option Cause
report_refusal C P i used =
    first_true (use_refusals C P i used ++ (nat_lt C.entries (needed_room P 2), cause.Full C.entries) ∷ [])

-- why a done is refused, if it is
abbrev pub done_refusal : Config → History → ℕ → ℕ → Option Cause
done_refusal C P i cost = first_true (use_refusals C P i cost)

-- why a close is refused, if it is
abbrev pub close_refusal : History → Option Cause
close_refusal P = first_true ((is_closed P, cause.Closed) ∷ [])

-- why a weight is refused, if it is
abbrev pub weight_refusal : Config → History → ℕ → ℕ → Option Cause
weight_refusal C P tenant weight = first_true
    ((nat_le (length C.weights) tenant, cause.Tenant tenant)
    ∷ (is_outside 1 (greatest_weight C.limits) weight, cause.Weight weight)
    ∷ (nat_lt C.entries (needed_room P 2), cause.Full C.entries)
    ∷ [])

-- why a number of workers is refused, if it is
abbrev pub workers_refusal : Config → History → ℕ → Option Cause
workers_refusal C P count = first_true
    ((is_outside 1 C.workers count, cause.Workers count)
    ∷ (nat_lt C.entries (needed_room P 2), cause.Full C.entries)
    ∷ [])

-- why a withdraw is refused, if it is
abbrev pub withdraw_refusal : History → ℕ → Option Cause
withdraw_refusal P request = first_true ((not (is_waiting P request), cause.NotWaiting request) ∷ [])

-- the label of a known request, else 0
abbrev pub label_of : Option Request → ℕ
label_of None = 0
label_of (Some q) = q.label

-- the reply is this one, and the history stays
abbrev pub IsAnswered : History → Reply → Reply → History → Type 0
IsAnswered P wanted reply P2 = (reply ≡ wanted) × (P2 ≡ P)

-- the reply is this one, and the history gains an entry with this act, at the effective moment
abbrev pub IsAccepted : History → ℕ → ℕ → Act → Reply → Reply → History → Type 0
IsAccepted P who moment act wanted reply P2 =
    (reply ≡ wanted) × (P2 ≡ record { who = who; moment = effective_moment P moment; act = act } ∷ P)

-- refused for the cause, if there is one; if there is none, `Accepted` holds
abbrev pub RefusedOrElse : Option Cause → History → Reply → History → Type 0 → Type 0
RefusedOrElse None P reply P2 Accepted = Accepted
RefusedOrElse (Some c) P reply P2 Accepted = IsAnswered P (answer.Refused c) reply P2

-- worker i runs the chosen request
pub record RunsChosen (C : Config) (P : History) (who moment i : ℕ) (reply : Reply) (P2 : History) : Type 0 where
  pub request : ℕ
  pub estimate : ℕ
  pub asked : Request
  pub chosen : IsChosen C P (effective_moment P moment) i request estimate asked
  pub accepted : IsAccepted P who moment (Take i request estimate) (answer.Run request estimate asked.label) reply P2

-- the answer to a worker of the pool that runs nothing: Drained or Idle where nothing waits, else the chosen request
abbrev pub AnswersPooled : Config → History → ℕ → ℕ → ℕ → Reply → History → Type 0
AnswersPooled C P who moment i reply P2 =
    MatchBool (waiting P == 0)
    (IsAnswered P (if is_closed P then answer.Drained else answer.Idle) reply P2)
    (RunsChosen C P who moment i reply P2)

-- the answer to a worker that runs nothing: Retired, with the number of workers, where its own is not below that
abbrev pub AnswersFree : Config → History → ℕ → ℕ → ℕ → Reply → History → Type 0
AnswersFree C P who moment i reply P2 =
    MatchBool (nat_le (pool_at C P) i)
    (IsAnswered P (answer.Retired (pool_at C P)) reply P2)
    (AnswersPooled C P who moment i reply P2)

-- at the history P the call is answered by the reply, and the history is then P2
abbrev pub Answers : Config → History → Call → Reply → History → Type 0
Answers C P (call.Submit who moment tenant kind declared label) reply P2 =
    RefusedOrElse (submit_refusal C P tenant kind declared) P reply P2
    (IsAccepted P who moment (Submit (submits P) tenant kind declared label) (answer.Request (submits P)) reply P2)
Answers C P (call.Take who moment worker) reply P2 =
    RefusedOrElse (take_refusal C P worker) P reply P2
    (AnswersFree C P who moment worker reply P2)
Answers C P (call.Report who moment worker used) reply P2 =
    RefusedOrElse (report_refusal C P worker used) P reply P2
    (IsAccepted P who moment (Report worker (request_on P worker) used) answer.Accepted reply P2)
Answers C P (call.Done who moment worker cost) reply P2 =
    RefusedOrElse (done_refusal C P worker cost) P reply P2
    (IsAccepted P who moment (Done worker (request_on P worker) cost) answer.Accepted reply P2)
Answers C P (call.Close who moment) reply P2 =
    RefusedOrElse (close_refusal P) P reply P2
    (IsAccepted P who moment Close answer.Accepted reply P2)
Answers C P (call.Weight who moment tenant weight) reply P2 =
    RefusedOrElse (weight_refusal C P tenant weight) P reply P2
    (IsAccepted P who moment (Weight tenant weight) answer.Accepted reply P2)
Answers C P (call.Workers who moment count) reply P2 =
    RefusedOrElse (workers_refusal C P count) P reply P2
    (IsAccepted P who moment (Workers count) answer.Accepted reply P2)
Answers C P (call.Withdraw who moment request) reply P2 =
    RefusedOrElse (withdraw_refusal P request) P reply P2
    (IsAccepted P who moment (Withdraw request) (answer.Withdrawn (label_of (request_at P request))) reply P2)
