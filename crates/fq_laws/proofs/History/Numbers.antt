-- Numbers of requests: which are small, and how many wait and run at one entry more that fits.
use Rattle.std.proofs.Common.{ℕ, ◌^◌, ◌<◌, ◌≡◌, true, arith, Some, suc}
use Rattle.fq_model.specs.declared.config.Config.{Config}
use Rattle.fq_model.specs.History.{History, is_submitted, submits, is_taken, is_waiting, Request, request_at, Runs, is_of_tenant, waiting, running}
use Rattle.fq_model.specs.Limits.{InLimits}
use Rattle.fq_model.specs.Rules.{IsLegal, Fits, FitsUse, FitsSubmit, FitsTake}
use Rattle.fq_model.specs.declared.event.Act.TheVariants.{Take, Submit, Done, Withdraw}
use Rattle.fq_laws.specs.Words.{one_more}
use Rattle.fq_laws.proofs.History.Requests.{submitted_below, taken_submitted, use_taken, worker_runs, runs_taken}
use Rattle.fq_laws.proofs.Rules.Room.{small_requests, has_room}
use Rattle.fq_laws.proofs.Rules.Takes.{take_waits}
use Rattle.fq_laws.proofs.History.Asked.{waits_submitted, asked_submitted, is_of_asked}
use Rattle.fq_laws.proofs.History.Counts.{waiting_submit, waiting_take, waiting_withdraw, running_take, running_done}

-- ---- numbers fit 32 bits

pub submitted_small : (C : Config) (P : History) (q : ℕ) → InLimits C → IsLegal C P → is_submitted P q ≡ true → q < 2 ^ 32
submitted_small C P q lim l h = let b : q < submits P = submitted_below C P q l h in omega (arith, small_requests C P lim (has_room C P lim l))

pub taken_small : (C : Config) (P : History) (q : ℕ) → InLimits C → IsLegal C P → is_taken P q ≡ true → q < 2 ^ 32
taken_small C P q lim l h = submitted_small C P q lim l (taken_submitted C P q l h)

-- the number of the next Submit
pub next_small : (C : Config) (P : History) (q : ℕ) → InLimits C → IsLegal C P → q ≡ submits P → q < 2 ^ 32
next_small C P q lim l n = omega (arith, small_requests C P lim (has_room C P lim l))

-- the number of a Take that fits
pub take_request_small : (C : Config) (P : History) (m w q c : ℕ) → InLimits C → IsLegal C P → Fits C P m (Take w q c) → q < 2 ^ 32
take_request_small C P m w q c lim l f = submitted_small C P q lim l (waits_submitted P q (take_waits C P m w q c f))

-- that of a request that waits
pub waits_number_small : (C : Config) (P : History) (q : ℕ) → InLimits C → IsLegal C P → is_waiting P q ≡ true → q < 2 ^ 32
waits_number_small C P q lim l w = submitted_small C P q lim l (waits_submitted P q w)

-- and whose number fits
pub use_small : (C : Config) (P : History) (w q used : ℕ) → InLimits C → IsLegal C P → FitsUse P w q used → q < 2 ^ 32
use_small C P w q used lim l f = taken_small C P q lim l (use_taken P w q used f)

-- ---- numbers

pub submits_small : (C : Config) (P : History) → InLimits C → IsLegal C P → submits P < 2 ^ 32
submits_small C P lim l = small_requests C P lim (has_room C P lim l)

pub asked_small : (C : Config) (P : History) (r : ℕ) (q : Request) → InLimits C → IsLegal C P → request_at P r ≡ Some q → r < 2 ^ 32
asked_small C P r q lim l h = submitted_small C P r lim l (asked_submitted P r q h)

pub runs_small : (C : Config) (P : History) (i r : ℕ) → InLimits C → IsLegal C P → Runs P i r → r < 2 ^ 32
runs_small C P i r lim l h = taken_small C P r lim l (runs_taken P r (worker_runs P i r h))

pub tenant_small : (C : Config) (P : History) (t r : ℕ) → InLimits C → IsLegal C P → is_of_tenant t (request_at P r) ≡ true → r < 2 ^ 32
tenant_small C P t r lim l h = let x = is_of_asked t (request_at P r) h in asked_small C P r x.0 lim l x.1

-- a Submit: one more waits
pub waiting_submitted : (C : Config) (P : History) (who m q u kind declared label : ℕ) → InLimits C → IsLegal C P → FitsSubmit C P q u kind declared → waiting (one_more who m (Submit q u kind declared label) P) ≡ suc (waiting P)
waiting_submitted C P who m q u kind declared label lim l f = omega (arith, waiting_submit C P who m q u kind declared label l f.numbered (next_small C P q lim l f.numbered))

-- a Take: one fewer waits
pub waiting_taken : (C : Config) (P : History) (who m w q c : ℕ) → InLimits C → IsLegal C P → FitsTake C P m w q c → suc (waiting (one_more who m (Take w q c) P)) ≡ waiting P
waiting_taken C P who m w q c lim l f = omega (arith, waiting_take P who m w q c (take_waits C P m w q c f) (take_request_small C P m w q c lim l f))

-- and one more runs
pub running_taken : (C : Config) (P : History) (who m w q c : ℕ) → InLimits C → IsLegal C P → FitsTake C P m w q c → running (one_more who m (Take w q c) P) ≡ suc (running P)
running_taken C P who m w q c lim l f = omega (arith, running_take C P who m w q c l (take_waits C P m w q c f) (take_request_small C P m w q c lim l f))

-- a Withdraw: one fewer waits
pub waiting_withdrawn : (C : Config) (P : History) (who m q : ℕ) → InLimits C → IsLegal C P → is_waiting P q ≡ true → suc (waiting (one_more who m (Withdraw q) P)) ≡ waiting P
waiting_withdrawn C P who m q lim l w = omega (arith, waiting_withdraw P who m q w (waits_number_small C P q lim l w))

-- a Done: one fewer runs
pub running_finished : (C : Config) (P : History) (who m w q cost : ℕ) → InLimits C → IsLegal C P → FitsUse P w q cost → suc (running (one_more who m (Done w q cost) P)) ≡ running P
running_finished C P who m w q cost lim l f = omega (arith, running_done P who m w q cost (worker_runs P w q f.runs) (use_small C P w q cost lim l f))
