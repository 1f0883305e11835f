-- An act that fits a history is not refused.
use Rattle.std.proofs.Common.{ℕ, ◌<◌, ◌≤◌, ◌≡◌, ◌≢◌, ◌^◌, ◌==◌, true, false, length, Some, None, arith, refl, leb, ltb}
use Rattle.std.proofs.lemmas.Bool.{ne_eqb, le-ltb, lt-leb}
use Rattle.vt_fixed.specs.declared.limits.TheConstants.{GREATEST_COST, GREATEST_MOMENT}
use Rattle.fq_model.specs.declared.config.Config.{Config}
use Rattle.fq_model.specs.History.{History, waiting, is_waiting, running_on, last_use, is_closed, request_bound}
use Rattle.fq_model.specs.Limits.{InLimits, is_outside, greatest_weight}
use Rattle.fq_model.specs.Rules.{IsLegal, FitsUse, FitsSubmit, FitsTake, FitsWeight, FitsWorkers, HasRoom, needed_room, submit_refusal, take_refusal, report_refusal, done_refusal, weight_refusal, workers_refusal, withdraw_refusal}
use Rattle.fq_model.specs.Time.{last_moment, effective_moment}
use Rattle.fq_laws.proofs.History.Asked.{waits_submitted}
use Rattle.fq_laws.proofs.History.Numbers.{submitted_small}
use Rattle.fq_laws.proofs.History.Workers.{runs_running, runs_worker_known}
use Rattle.fq_laws.proofs.Rules.Takes.{take_waits}
use Rattle.fq_laws.proofs.Sums.{count_some}

-- a moment that is in order takes effect as it is
pub in_order : (P : History) (m : ℕ) → last_moment P ≤ m → m ≤ GREATEST_MOMENT → m ≡ effective_moment P m
in_order P m low high = omega (arith, low, high)

pub submit_passes : (C : Config) (P : History) (request tenant kind declared : ℕ) → FitsSubmit C P request tenant kind declared → submit_refusal C P tenant kind declared ≡ None
submit_passes C P request tenant kind declared f =
    let open_still : is_closed P ≡ false = f.open_still in
    let tenant_known : leb (length C.weights) tenant ≡ false = lt-leb _ _ f.tenant_known in
    let kind_known : leb C.kinds kind ≡ false = lt-leb _ _ f.kind_known in
    let some : (declared == 0) ≡ false = ne_eqb declared 0 (λ e. absurd (omega (arith, f.declared_low))) in
    let in_range : ltb GREATEST_COST declared ≡ false = le-ltb _ _ f.declared_high in
    let slot : (waiting P == C.requests) ≡ false = ne_eqb (waiting P) C.requests (λ e. absurd (omega (arith, f.slot))) in
    let room : ltb C.entries (needed_room P 4) ≡ false = le-ltb _ _ f.room in
    rw (open_still, tenant_known, kind_known, some, in_range, slot, room) refl

pub take_passes : (C : Config) (P : History) (worker : ℕ) → worker < C.workers → running_on P worker ≡ None → take_refusal C P worker ≡ None
take_passes C P worker known none = let worker_known : leb C.workers worker ≡ false = lt-leb _ _ known in rw (worker_known, none) refl

module _ (C : Config) (P : History) (legal : IsLegal C P) (worker request used : ℕ) (f : FitsUse P worker request used) where
  pub runs : running_on P worker ≡ Some request
  runs = runs_running C P worker request legal f.runs

  worker_known : leb C.workers worker ≡ false
  worker_known = lt-leb _ _ (runs_worker_known C P worker request legal f.runs)

  in_range : ltb GREATEST_COST used ≡ false
  in_range = le-ltb _ _ f.in_range

  rising : ltb used (last_use P request) ≡ false
  rising = le-ltb _ _ f.rising

  pub done_passes : done_refusal C P worker used ≡ None
  done_passes = rw (worker_known, runs, in_range, rising) refl

  pub report_passes : HasRoom C P 2 → report_refusal C P worker used ≡ None
  report_passes has_room = let room : ltb C.entries (needed_room P 2) ≡ false = le-ltb _ _ has_room in rw (worker_known, runs, in_range, rising, room) refl

-- a number in its range is not outside of it
pub within : (low high n : ℕ) → low ≤ n → n ≤ high → is_outside low high n ≡ false
within low high n l h =
    let below : ltb n low ≡ false = le-ltb _ _ l in
    let above : ltb high n ≡ false = le-ltb _ _ h in
    rw (below, above) refl

pub weight_passes : (C : Config) (P : History) (tenant weight : ℕ) → FitsWeight C P tenant weight → weight_refusal C P tenant weight ≡ None
weight_passes C P tenant weight f =
    let tenant_known : leb (length C.weights) tenant ≡ false = lt-leb _ _ f.tenant_known in
    let in_range : is_outside 1 (greatest_weight C.limits) weight ≡ false = within _ _ _ f.weight_in_range.0 f.weight_in_range.1 in
    let room : ltb C.entries (needed_room P 2) ≡ false = le-ltb _ _ f.room in
    rw (tenant_known, in_range, room) refl

pub workers_passes : (C : Config) (P : History) (count : ℕ) → FitsWorkers C P count → workers_refusal C P count ≡ None
workers_passes C P count f =
    let in_range : is_outside 1 C.workers count ≡ false = within _ _ _ f.count_in_range.0 f.count_in_range.1 in
    let room : ltb C.entries (needed_room P 2) ≡ false = le-ltb _ _ f.room in
    rw (in_range, room) refl

pub withdraw_passes : (P : History) (request : ℕ) → is_waiting P request ≡ true → withdraw_refusal P request ≡ None
withdraw_passes P request w = rw w refl

-- and where a Take fits something waits
pub some_waits : (C : Config) (P : History) (m worker request estimate : ℕ) → InLimits C → IsLegal C P → FitsTake C P m worker request estimate → waiting P ≢ 0
unfolding waiting request_bound
some_waits C P m worker request estimate limits legal f none =
    let waits = take_waits C P m worker request estimate f in
    let small : request < 2 ^ 32 = submitted_small C P request limits legal (waits_submitted P request waits) in
    absurd (omega (arith, none, count_some (is_waiting P) request (2 ^ 32) small waits))
