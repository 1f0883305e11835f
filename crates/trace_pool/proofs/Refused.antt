-- No row of a pool is refused.
use Rattle.std.proofs.Common.{◌≡◌, ◌<◌, ◌≤◌, ◌==◌, nat_lt, ℕ, zero, suc, true, false, List, [], ◌∷◌, ◌++◌, length, map, refl, sym, ap, ◌∙◌, subst, arith, inl, inr, Option, Some, None}
use Rattle.std.specs.Prelude.{nat_le, slice_get, get_or}
use Rattle.std.proofs.lemmas.Bool.{cases_Bool, ne_eqb, eq-eqb, eqb-true, or_left, or_right, or_from, false≢true, false_from_ne_true}
use Rattle.std.proofs.lemmas.Bool.Decides.{nat_tests}
use Rattle.vt_fixed.specs.declared.limits.TheConstants.{GREATEST_COST}
use Rattle.fq_model.specs.declared.config.Config.{Config}
use Rattle.fq_model.specs.declared.event.Act.{Act}
use Rattle.fq_model.specs.declared.event.Act.TheVariants.{Submit, Take, Report, Done, Close, Weight, Workers, Withdraw}
use Rattle.fq_model.specs.declared.event.Cause.{Cause}
use Rattle.fq_model.specs.declared.event.Reply.TheVariants as answer
use Rattle.program_model.specs.declared.trace.RunOptions.{RunOptions}
use Rattle.program_model.specs.declared.trace.TraceRow.{TraceRow}
use Rattle.program_model.specs.Courses.{submitters, Each}
use Rattle.fq_model.specs.History.{History, Request, has_act, is_close, is_closed, is_submit_of, is_submitted, submits, waiting}
use Rattle.fq_model.specs.Limits.{InLimits}
use Rattle.fq_model.specs.Outcome.{own_entries}
use Rattle.program_model.specs.PoolHistory.{pool_config, requests_from}
use Rattle.fq_model.specs.Rules.{IsLegal, Fits, IsAccepted, RefusedOrElse, submit_refusal, needed_room}
use Rattle.program_model.specs.Trace.{Trace}
use Rattle.program_model.specs.TraceText.{IsLawfulTrace, IsLawfulRow}
use Rattle.fq_laws.specs.Words.{one_more}
use Rattle.fq_laws.proofs.History.Counts.{waiting_report, waiting_done, waiting_quiet, waiting_none}
use Rattle.fq_laws.proofs.History.Numbers.{waiting_submitted, waiting_taken, waiting_withdrawn}
use Rattle.fq_laws.proofs.History.Requests.{IsKnown, submitted_below}
use Rattle.gate_rules.specs.declared.rows.Row.{Row}
use Rattle.worker_gate.specs.Feeding.{Splits, IsRefused, ClosesAt, is_last_submit}
use Rattle.trace_pool.specs.PoolEnd.{row_asks}
use Rattle.trace_pool.proofs.Callers.{has_own}
use Rattle.trace_pool.proofs.Absent.{nobody_does}
use Rattle.trace_pool.proofs.Parts.{PoolParts}
use Rattle.trace_pool.proofs.Room.{Front, front, reports_at_most}
use Rattle.trace_pool.proofs.Submitted.{IsStopped, submits_lower}
use Rattle.trace_pool.proofs.Sums.{none_within}

-- ---- a request of a row is known

-- the fact holds of each request
abbrev pub EachAsked : (Request → Type 0) → List Request → Type 0
EachAsked Holds [] = Unit {0}
EachAsked Holds (q ∷ more) = Holds q × EachAsked Holds more

each_from : (C : Config) (tenants kinds j r : ℕ) (rows : List TraceRow) → tenants ≡ length C.weights → kinds ≡ C.kinds → ((k : ℕ) (row : TraceRow) → slice_get rows k ≡ Some row → IsLawfulRow tenants kinds row) → EachAsked (IsKnown C) (requests_from j r rows)
each_from C tenants kinds j r [] t k lawful = tt
each_from C tenants kinds j r (row ∷ rows) t k lawful =
    let later : EachAsked (IsKnown C) (requests_from j (suc r) rows) = each_from C tenants kinds j (suc r) rows t k (λ n x h. lawful (suc n) x h) in
    let law : IsLawfulRow tenants kinds row = lawful 0 row refl in
    elim (cases_Bool (row.submitter == j)) [
      | inl e ↦ rw e (record { tenant_known = omega (arith, law.tenant); kind_known = omega (arith, law.kind); declared_low = law.declared.0; declared_high = law.declared.1 }, later)
      | inr e ↦ rw e later
    ]

each_of : (Holds : Request → Type 0) (sent rest : List (Row ℕ)) (row : Row ℕ) → EachAsked Holds (map row_asks (sent ++ row ∷ rest)) → Holds (row_asks row)
each_of Holds [] rest row h = h.0
each_of Holds (x ∷ sent) rest row h = each_of Holds sent rest row h.1

-- the item at a place is an item of the list
sliced : (rows : List TraceRow) (k : ℕ) (row : TraceRow) → slice_get rows k ≡ Some row → (k < length rows) × (get_or rows k row ≡ row)
sliced [] k row h = absurd (cc)
sliced (x ∷ rows) zero row h = (omega arith, (let e : x ≡ row = cc in e))
sliced (x ∷ rows) (suc k) row h = let s = sliced rows k row h in (omega (arith, s.0), s.1)

pub lawful_row : (T : Trace) → IsLawfulTrace T → (k : ℕ) (row : TraceRow) → slice_get T.rows k ≡ Some row → IsLawfulRow (length T.tenants) (length T.kinds) row
lawful_row T law k row h = let s = sliced T.rows k row h in subst (IsLawfulRow (length T.tenants) (length T.kinds)) s.1 (law.rows k row s.0)

-- ---- where a request fits, it is accepted

below_is : (a b : ℕ) → b < a → nat_le a b ≡ false
below_is a b h = grind (arith, nat_tests)

at_least_is : (a b : ℕ) → b ≤ a → nat_lt a b ≡ false
at_least_is a b h = grind (arith, nat_tests)

-- the needs of a request that fits
record HasPlace (C : Config) (P : History) (q : Request) : Type 0 where
  open_still : is_closed P ≡ false
  known : IsKnown C q
  slot : waiting P < C.requests
  room : needed_room P 4 ≤ C.entries

not_refused : (C : Config) (P : History) (q : Request) → HasPlace C P q → submit_refusal C P q.tenant q.kind q.declared ≡ None
not_refused C P q h =
    let tenant = below_is (length C.weights) q.tenant h.known.tenant_known in
    let kind = below_is C.kinds q.kind h.known.kind_known in
    let low : (q.declared == 0) ≡ false = ne_eqb q.declared 0 (λ e. omega (arith, e, h.known.declared_low)) in
    let high = at_least_is GREATEST_COST q.declared h.known.declared_high in
    let slot : (waiting P == C.requests) ≡ false = ne_eqb (waiting P) C.requests (λ e. omega (arith, e, h.slot)) in
    let full = at_least_is C.entries (needed_room P 4) h.room in
    rw h.open_still rw tenant rw kind rw (or_from (q.declared == 0) (nat_lt GREATEST_COST q.declared) low high) rw slot rw full refl

accepted : (C : Config) (P : History) (who m : ℕ) (why : Cause) (q : Request) (o : Option Cause) → o ≡ None → RefusedOrElse o P (answer.Refused why) P (IsAccepted P who m (Submit (submits P) q.tenant q.kind q.declared q.label) (answer.Request (submits P)) (answer.Refused why) P) → ⊥
accepted C P who m why q None e h = let k : answer.Refused why ≡ answer.Request (submits P) = h.0 in cc
accepted C P who m why q (Some c) e h = cc

-- ---- the number of waiting requests

waiting_at : (C : Config) (P : History) (who m : ℕ) (a : Act) → InLimits C → IsLegal C P → Fits C P m a → waiting P ≤ submits P → waiting (one_more who m a P) ≤ submits (one_more who m a P)
waiting_at C P who m (Submit request tenant kind declared label) lim l f h = omega (arith, h, waiting_submitted C P who m request tenant kind declared label lim l f)
waiting_at C P who m (Take worker request estimate) lim l f h = omega (arith, h, waiting_taken C P who m worker request estimate lim l f)
waiting_at C P who m (Report worker request used) lim l f h = omega (arith, h, waiting_report P who m worker request used)
waiting_at C P who m (Done worker request cost) lim l f h = omega (arith, h, waiting_done P who m worker request cost)
waiting_at C P who m Close lim l f h = omega (arith, h, waiting_quiet P who m Close refl)
waiting_at C P who m (Weight tenant weight) lim l f h = omega (arith, h, waiting_quiet P who m (Weight tenant weight) refl)
waiting_at C P who m (Workers count) lim l f h = omega (arith, h, waiting_quiet P who m (Workers count) refl)
waiting_at C P who m (Withdraw request) lim l f h = omega (arith, h, waiting_withdrawn C P who m request lim l f)

waiting_low : (C : Config) (P : History) → InLimits C → IsLegal C P → waiting P ≤ submits P
waiting_low C [] lim l = omega (arith, waiting_none)
waiting_low C (e ∷ P) lim l = waiting_at C P e.who e.moment e.act lim l.0 l.3 (waiting_low C P lim l.0)

-- ---- while a row is to come nobody closes

last_is : (total : ℕ) (a : Act) → is_last_submit total a ≡ true → (r : ℕ) × (suc r ≡ total) × (is_submit_of r a ≡ true)
last_is total (Submit request tenant kind declared label) h = (request, eqb-true (suc request) total h, eq-eqb request request refl)
last_is total _ h = absurd (false≢true h)

unclosed : (total number : ℕ) (own : History) → Each (λ P e. is_close e.act ≡ true → ClosesAt total number P) own → ((r : ℕ) → has_act (is_submit_of r) own ≡ true → suc r < total) → 0 < total → has_act is_close own ≡ false
unclosed total number [] places few some = refl
unclosed total number (e ∷ P) places few some =
    or_from (is_close e.act) (has_act is_close P) (false_from_ne_true (is_close e.act) (λ h. at P few (places.1 h)))
    (unclosed total number P places.0 (λ r h. few r (or_right (is_submit_of r e.act) (has_act (is_submit_of r) P) h)) some)
  where
    at : (Q : History) → ((r : ℕ) → has_act (is_submit_of r) (e ∷ Q) ≡ true → suc r < total) → ClosesAt total number Q → ⊥
    at [] fewer h = omega (arith, h.0, some)
    at (x ∷ Q) fewer h =
        let y = last_is total x.act h in
        let in_q : has_act (is_submit_of y.0) (x ∷ Q) ≡ true = or_left (is_submit_of y.0 x.act) (has_act (is_submit_of y.0) Q) y.2 in
        omega (arith, y.1, fewer y.0 (or_right (is_submit_of y.0 e.act) (has_act (is_submit_of y.0) (x ∷ Q)) in_q))

module _ (T : Trace) (O : RunOptions) (Tells : ℕ → Type 0) (H : History) (law : IsLawfulTrace T) (lim : InLimits (pool_config T O)) (p : PoolParts T O Tells H) where
  submit_below : (j r : ℕ) → has_act (is_submit_of r) (own_entries H j) ≡ true → r < submits H
  unfolding is_submitted
  submit_below j r h = submitted_below (pool_config T O) H r p.legal (has_own (is_submit_of r) H j h)

  not_closed : submits H < length T.rows → has_act is_close H ≡ false
  not_closed few = nobody_does T O Tells H p is_close (λ i. record { takes = λ r estimate. refl; reports = λ r used. refl; dones = λ r cost. refl })
      (λ j b. unclosed (length T.rows) j (own_entries H j) (p.fed j b).feed.close_place (λ r h. omega (arith, submit_below j r h, few)) (omega (arith, few)))

  front_open : (P newer : History) → H ≡ newer ++ P → submits H < length T.rows → is_closed P ≡ false
  unfolding is_closed
  front_open P newer is few = none_within is_close newer P (ap (has_act is_close) (sym is) ∙ not_closed few)

  refused_none : (j : ℕ) (P : History) (rows sent rest : List (Row ℕ)) (stopped : Option (Row ℕ × Cause)) → Front T O H P → is_closed P ≡ false → submits H < length T.rows → Splits rows sent stopped rest → map row_asks rows ≡ requests_from j 0 T.rows → IsRefused (λ n. n) (λ row. row.kind) (pool_config T O) Tells j P stopped → IsStopped stopped → ⊥
  refused_none j P rows sent rest None f still few split are refused is = is
  refused_none j P rows sent rest (Some (row, why)) f still few split are refused is =
      let each : EachAsked (IsKnown (pool_config T O)) (map row_asks rows) = subst (EachAsked (IsKnown (pool_config T O))) (sym are) (each_from (pool_config T O) (length T.tenants) (length T.kinds) j 0 T.rows (sym law.weighed) refl (lawful_row T law)) in
      let known : IsKnown (pool_config T O) (row_asks row) = each_of (IsKnown (pool_config T O)) sent rest row (subst (λ l. EachAsked (IsKnown (pool_config T O)) (map row_asks l)) split each) in
      let place : HasPlace (pool_config T O) P (row_asks row) = record {
        open_still = still;
        known = known;
        slot = omega (arith, few, f.fewer_submits, waiting_low (pool_config T O) P lim f.legal);
        room = omega (arith, few, f.balance, f.fewer_submits, f.fewer_reports, f.closes, reports_at_most T O Tells H lim p);
      } in
      accepted (pool_config T O) P j refused.0 why (row_asks row) (submit_refusal (pool_config T O) P row.tenant row.kind row.declared) (not_refused (pool_config T O) P (row_asks row) place) refused.2

  -- no row is refused
  pub never_stopped : (j : ℕ) (h : j < submitters T.rows) → IsStopped (p.fed j h).stopped → ⊥
  never_stopped j h is =
      let f = p.fed j h in
      let few : submits H < length T.rows = submits_lower T O Tells H p j h is in
      refused_none j f.seen f.rows f.sent f.rest f.stopped (front T O Tells H lim p j f.seen f.sees) (front_open f.seen f.sees.newer f.sees.begins few) few f.split f.rows_are f.refused is
