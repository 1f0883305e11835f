-- Consequences of a call that is not refused, and of the tests of a refusal.
use Rattle.std.proofs.Common.{◌≡◌, Bool, false, not, List, [], ◌∷◌, true, refl, None, Option, Some, sym, ◌∙◌, subst, ℕ, ◌<◌, arith, ◌≤◌, nat_lt, ◌==◌, ◌≢◌, ◌||◌, length, ◌++◌}
use Rattle.std.specs.Prelude.{nat_le, is_some, is_none}
use Rattle.std.proofs.lemmas.Bool.Decides.{nat_tests}
use Rattle.std.proofs.lemmas.Bool.{or_parts, false≢true}
use Rattle.vt_fixed.specs.declared.limits.TheConstants.{GREATEST_COST}
use Rattle.fq_model.specs.declared.event.Cause.{Cause}
use Rattle.fq_model.specs.Rules.{first_true, RefusedOrElse, needed_room, IsLegal, FitsSubmit, submit_refusal, RunsNothing, request_on, take_refusal, FitsUse, use_refusals, HasRoom, report_refusal, done_refusal, close_refusal, FitsWeight, FitsWorkers, weight_refusal, workers_refusal, withdraw_refusal}
use Rattle.fq_model.specs.declared.event.Reply.{Reply}
use Rattle.fq_model.specs.History.{History, is_closed, is_waiting, waiting, submits, running_on, Runs, last_use}
use Rattle.fq_model.specs.declared.config.Config.{Config}
use Rattle.fq_model.specs.Limits.{InLimits, IsWithin, is_outside, greatest_weight}
use Rattle.fq_model.specs.declared.event.Cause.TheVariants as cause
use Rattle.fq_model.specs.declared.event.Reply.TheVariants as answer
use Rattle.fq_laws.proofs.Rules.Limits.{waiting_slots}
use Rattle.fq_laws.proofs.History.Workers.{running_nothing, running_runs}

-- ---- refused, or else

-- the test of each row is false
abbrev pub AllFalse : List (Bool × Cause) → Type 0
AllFalse [] = Unit {0}
AllFalse (row ∷ rows) = (row.0 ≡ false) × AllFalse rows

row_false : (b : Bool) (c : Cause) (rows : List (Bool × Cause)) → first_true ((b, c) ∷ rows) ≡ None → (b ≡ false) × (first_true rows ≡ None)
row_false true c rows h = absurd (cc)
row_false false c rows h = (refl, h)

-- no row gives a cause, so no test is true
pub all_false : (rows : List (Bool × Cause)) → first_true rows ≡ None → AllFalse rows
all_false [] h = tt
all_false (row ∷ rows) h =
    let x : (row.0 ≡ false) × (first_true rows ≡ None) = row_false row.0 row.1 rows h in
    (x.0, all_false rows x.1)

-- A holds of some reply and history
abbrev pub SomeReply : (Reply → History → Type 0) → Type 0
SomeReply A = (reply : Reply) × (Q : History) × A reply Q

-- a call that may be refused has some reply and history, if it has them where it is not refused
pub refused_exists : (o : Option Cause) (P : History) (A : Reply → History → Type 0) → (o ≡ None → SomeReply A) → SomeReply (λ reply Q. RefusedOrElse o P reply Q (A reply Q))
refused_exists None P A h = h refl
refused_exists (Some c) P A h = (answer.Refused c, P, (refl, refl))

-- it has one reply and history at most, if it has one at most where it is not refused
pub refused_one : (o : Option Cause) (P : History) (r s : Reply) (Q R : History) (X Y : Type 0) → (o ≡ None → X → Y → (r ≡ s) × (Q ≡ R)) → RefusedOrElse o P r Q X → RefusedOrElse o P s R Y → (r ≡ s) × (Q ≡ R)
refused_one None P r s Q R X Y h x y = h refl x y
refused_one (Some c) P r s Q R X Y h x y = (x.0 ∙ sym y.0, x.1 ∙ sym y.1)

-- a property of P holds of the history after the call, if it does where the call is not refused
pub refused_keeps : (o : Option Cause) (P : History) (reply : Reply) (Q : History) (X : Type 0) (Keeps : History → Type 0) → Keeps P → (o ≡ None → X → Keeps Q) → RefusedOrElse o P reply Q X → Keeps Q
refused_keeps None P reply Q X Keeps old new x = new refl x
refused_keeps (Some c) P reply Q X Keeps old new x = subst Keeps (sym x.1) old

-- ---- the orders that the tests decide

pub le_false : (a b : ℕ) → nat_le a b ≡ false → b < a
le_false a b h = grind (arith, nat_tests)

lt_false : (a b : ℕ) → nat_lt a b ≡ false → b ≤ a
lt_false a b h = grind (arith, nat_tests)

eq_false : (a b : ℕ) → (a == b) ≡ false → a ≢ b
eq_false a b h = λ e. grind (arith, nat_tests)

abbrev submit_rows : Config → History → ℕ → ℕ → ℕ → List (Bool × Cause)
submit_rows C P tenant kind declared =
    (is_closed P, cause.Closed)
    ∷ (nat_le (length C.weights) tenant, cause.Tenant tenant)
    ∷ (nat_le C.kinds kind, cause.Kind kind)
    ∷ ((declared == 0) || nat_lt GREATEST_COST declared, cause.Cost declared)
    ∷ (waiting P == C.requests, cause.Slots C.requests)
    ∷ (nat_lt C.entries (needed_room P 4), cause.Full C.entries)
    ∷ []

pub submit_fits : (C : Config) (P : History) (tenant kind declared : ℕ) → InLimits C → IsLegal C P → submit_refusal C P tenant kind declared ≡ None → FitsSubmit C P (submits P) tenant kind declared
submit_fits C P tenant kind declared lim l h =
    let x : AllFalse (submit_rows C P tenant kind declared) = all_false (submit_rows C P tenant kind declared) h in
    let costs : ((declared == 0) ≡ false) × (nat_lt GREATEST_COST declared ≡ false) = or_parts (declared == 0) (nat_lt GREATEST_COST declared) x.1.1.1.0 in
    let low : declared ≢ 0 = eq_false declared 0 costs.0 in
    let slot : waiting P ≢ C.requests = eq_false (waiting P) C.requests x.1.1.1.1.0 in
    let slots : waiting P ≤ C.requests = waiting_slots C P lim l in
    record {
      open_still = x.0;
      numbered = refl;
      tenant_known = le_false (length C.weights) tenant x.1.0;
      kind_known = le_false C.kinds kind x.1.1.0;
      declared_low = omega (arith, low);
      declared_high = lt_false GREATEST_COST declared costs.1;
      slot = omega (arith, slot, slots);
      room = lt_false C.entries (needed_room P 4) x.1.1.1.1.1.0;
    }

not_some : (o : Option ℕ) → is_some o ≡ false → o ≡ None
not_some None h = refl
not_some (Some r) h = absurd (false≢true (sym h))

not_none : (o : Option ℕ) → is_none o ≡ false → (r : ℕ) × (o ≡ Some r)
not_none None h = absurd (false≢true (sym h))
not_none (Some r) h = (r, refl)

abbrev take_rows : Config → History → ℕ → List (Bool × Cause)
take_rows C P i = (nat_le C.workers i, cause.Worker i) ∷ (is_some (running_on P i), cause.Busy (request_on P i)) ∷ []

pub take_free : (C : Config) (P : History) (i : ℕ) → IsLegal C P → take_refusal C P i ≡ None → RunsNothing P i
take_free C P i l h =
    let x : AllFalse (take_rows C P i) = all_false (take_rows C P i) h in
    running_nothing C P i l (not_some (running_on P i) x.1.0)

pub request_on_is : (P : History) (i r : ℕ) → running_on P i ≡ Some r → request_on P i ≡ r
request_on_is P i r h = rw h refl

-- a use that the rows of `use_refusals` let through
use_fits : (C : Config) (P : History) (i used : ℕ) → IsLegal C P → AllFalse (use_refusals C P i used) → FitsUse P i (request_on P i) used
use_fits C P i used l x =
    let on = not_none (running_on P i) x.1.0 in
    let is : request_on P i ≡ on.0 = request_on_is P i on.0 on.1 in
    let runs : Runs P i on.0 = running_runs C P i on.0 l on.1 in
    record { runs = subst (Runs P i) (sym is) runs; rising = lt_false used (last_use P (request_on P i)) x.1.1.1.0; in_range = lt_false GREATEST_COST used x.1.1.0 }

pub report_fits : (C : Config) (P : History) (i used : ℕ) → IsLegal C P → report_refusal C P i used ≡ None → FitsUse P i (request_on P i) used × HasRoom C P 2
report_fits C P i used l h =
    let full : Bool × Cause = (nat_lt C.entries (needed_room P 2), cause.Full C.entries) in
    let x : AllFalse (use_refusals C P i used ++ full ∷ []) = all_false (use_refusals C P i used ++ full ∷ []) h in
    (use_fits C P i used l (x.0, (x.1.0, (x.1.1.0, (x.1.1.1.0, tt)))), lt_false C.entries (needed_room P 2) x.1.1.1.1.0)

pub done_fits : (C : Config) (P : History) (i cost : ℕ) → IsLegal C P → done_refusal C P i cost ≡ None → FitsUse P i (request_on P i) cost
done_fits C P i cost l h = use_fits C P i cost l (all_false (use_refusals C P i cost) h)

pub close_fits : (P : History) → close_refusal P ≡ None → is_closed P ≡ false
close_fits P h = (row_false (is_closed P) cause.Closed [] h).0

-- a number that is not outside its range
within_range : (low high n : ℕ) → is_outside low high n ≡ false → IsWithin low high n
within_range low high n h = let x = or_parts (nat_lt n low) (nat_lt high n) h in (lt_false n low x.0, lt_false high n x.1)

abbrev weight_rows : Config → History → ℕ → ℕ → List (Bool × Cause)
weight_rows C P tenant weight =
    (nat_le (length C.weights) tenant, cause.Tenant tenant)
    ∷ (is_outside 1 (greatest_weight C.limits) weight, cause.Weight weight)
    ∷ (nat_lt C.entries (needed_room P 2), cause.Full C.entries)
    ∷ []

pub weight_fits : (C : Config) (P : History) (tenant weight : ℕ) → weight_refusal C P tenant weight ≡ None → FitsWeight C P tenant weight
weight_fits C P tenant weight h =
    let x : AllFalse (weight_rows C P tenant weight) = all_false (weight_rows C P tenant weight) h in
    record {
      tenant_known = le_false (length C.weights) tenant x.0;
      weight_in_range = within_range 1 (greatest_weight C.limits) weight x.1.0;
      room = lt_false C.entries (needed_room P 2) x.1.1.0;
    }

abbrev workers_rows : Config → History → ℕ → List (Bool × Cause)
workers_rows C P count = (is_outside 1 C.workers count, cause.Workers count) ∷ (nat_lt C.entries (needed_room P 2), cause.Full C.entries) ∷ []

pub workers_fits : (C : Config) (P : History) (count : ℕ) → workers_refusal C P count ≡ None → FitsWorkers C P count
workers_fits C P count h =
    let x : AllFalse (workers_rows C P count) = all_false (workers_rows C P count) h in
    record { count_in_range = within_range 1 C.workers count x.0; room = lt_false C.entries (needed_room P 2) x.1.0 }

not_false : (b : Bool) → not b ≡ false → b ≡ true
not_false true h = refl
not_false false h = absurd (false≢true (sym h))

pub withdraw_fits : (P : History) (request : ℕ) → withdraw_refusal P request ≡ None → is_waiting P request ≡ true
withdraw_fits P request h = not_false (is_waiting P request) (row_false (not (is_waiting P request)) (cause.NotWaiting request) [] h).0
