-- The running requests of a tenant: their lengths, M less these lengths, and the sums of both.
use Rattle.std.proofs.Common.{ℕ, zero, suc, ◌+◌, ◌-◌, ◌*◌, ◌≤◌, ◌≡◌, ◌≢◌, ◌==◌, ◌∙◌, cond, Bool, true, false, refl, arith, inl, inr, [], ◌∷◌, Option, Some, None}
use Rattle.std.proofs.lemmas.Bool.{cases_Bool}
use Rattle.std.proofs.Math.Nat.{add-mul}
use Rattle.fq_model.specs.declared.config.Config.{Config}
use Rattle.fq_model.specs.declared.event.Act.{Act}
use Rattle.fq_model.specs.declared.event.Act.TheVariants.{Take}
use Rattle.fq_model.specs.History.{History, request_at, is_of_tenant, running_on}
use Rattle.fq_model.specs.Charge.{charge, taken_estimate, estimate_in, taken_weight}
use Rattle.fq_model.specs.Lead.{request_length, of_request, over_running, may_rise, may_fall}
use Rattle.fq_model.specs.Limits.{InLimits}
use Rattle.fq_model.specs.Rules.{IsLegal, Fits, FitsTake}
use Rattle.fq_model.specs.Sums.{sum_below}
use Rattle.fq_laws.proofs.Sums.{sum_zero}
use Rattle.fq_laws.proofs.Charge.Estimates.{estimate_range}
use Rattle.fq_laws.proofs.Charge.Requests.{estimate_some, cost_none}
use Rattle.fq_laws.proofs.Charge.Tenants.{taken_of}
use Rattle.fq_laws.proofs.History.Requests.{tenant_below}
use Rattle.fq_laws.proofs.History.Weights.{pool_high, taken_weight_low}
use Rattle.fq_laws.proofs.History.Workers.{running_runs, nothing_running}
use Rattle.gap_laws.specs.Words.{AreCaps}
use Rattle.gap_laws.proofs.Leads.{rising, falling, not_both}
use Rattle.gap_laws.proofs.Running.{Measure, term, running_taken}
use Rattle.gap_laws.proofs.WorstCase.{longest, nothing, all_below, both_below, length_some}
use Rattle.ever_laws.specs.Words.{running_length}

-- M for each request
abbrev pub full : ℕ → Measure
full M = λ r x. M

-- ---- M less the length of a request, and that length

sums_of_two : (a b c : ℕ → ℕ) (n : ℕ) → ((i : ℕ) → a i + b i ≡ c i) → sum_below a n + sum_below b n ≡ sum_below c n
unfolding sum_below
sums_of_two a b c zero each = omega arith
sums_of_two a b c (suc n) each = omega (arith, each n, sums_of_two a b c n each)

both_parts : (own : Bool) (x M : ℕ) → (own ≡ true → x ≤ M) → cond own (M - x) 0 + cond own (x - 0) 0 ≡ cond own M 0
both_parts true x M low = omega (arith, low refl)
both_parts false x M low = refl

parts_at : (C : Config) (P : History) (t M i : ℕ) → IsLegal C P → AreCaps C P t (longest M) → term (rising (longest M)) C P t i + term (falling nothing) C P t i ≡ term (full M) C P t i
parts_at C P t M i l caps = go (running_on P i) refl
  where
    go : (o : Option ℕ) → running_on P i ≡ o → of_request P t (λ r. M - request_length C P t r) o + of_request P t (λ r. request_length C P t r - 0) o ≡ of_request P t (λ r. M) o
    go None is = refl
    go (Some r) is = both_parts (is_of_tenant t (request_at P r)) (request_length C P t r) M (λ own. caps P r ([], refl) (taken_of P t r (running_taken C P i r l is) ∙ own))

pub rise_and_fall : (C : Config) (P : History) (t M : ℕ) → IsLegal C P → AreCaps C P t (longest M) → may_rise (longest M) C P t + may_fall nothing C P t ≡ running_length M C P t
unfolding over_running
rise_and_fall C P t M l caps = sums_of_two (term (rising (longest M)) C P t) (term (falling nothing) C P t) (term (full M) C P t) C.workers (λ i. parts_at C P t M i l caps)

-- ---- two tenants run no more than there are workers

one_full : (own mine : Bool) (M : ℕ) → (own ≡ true → mine ≡ false) → cond own M 0 + cond mine M 0 ≤ M
one_full true true M apart = let k : true ≡ false = apart refl in absurd (cc)
one_full true false M apart = omega arith
one_full false true M apart = omega arith
one_full false false M apart = omega arith

full_at : (P : History) (f g M : ℕ) (o : Option ℕ) → f ≢ g → of_request P f (λ r. M) o + of_request P g (λ r. M) o ≤ M
full_at P f g M None ne = omega arith
full_at P f g M (Some r) ne = one_full (is_of_tenant f (request_at P r)) (is_of_tenant g (request_at P r)) M (λ own. not_both f g (request_at P r) ne own)

pub two_run : (C : Config) (P : History) (f g M : ℕ) → f ≢ g → running_length M C P f + running_length M C P g ≤ C.workers * M
unfolding over_running
two_run C P f g M ne = all_below (term (full M) C P f) (term (full M) C P g) M C.workers (λ i. full_at P f g M (running_on P i) ne)

none_at : (P : History) (f g M : ℕ) (o : Option ℕ) → o ≡ None → of_request P f (λ r. M) o + of_request P g (λ r. M) o + M ≤ M
none_at P f g M o is = rw is (omega arith)

-- and one less just before a Take
pub two_run_before : (C : Config) (P : History) (m w q c f g M : ℕ) → f ≢ g → IsLegal C P → FitsTake C P m w q c → running_length M C P f + running_length M C P g + M ≤ C.workers * M
unfolding over_running
two_run_before C P m w q c f g M ne l fits =
    both_below (term (full M) C P f) (term (full M) C P g) M M w C.workers (λ i. full_at P f g M (running_on P i) ne) (omega (arith, fits.worker_known, pool_high C P l))
    (none_at P f g M (running_on P w) (nothing_running C P w l fits.free))

pub one_runs_before : (C : Config) (P : History) (m w q c t M : ℕ) → IsLegal C P → FitsTake C P m w q c → running_length M C P t + M ≤ C.workers * M
one_runs_before C P m w q c t M l fits = omega (arith, two_run_before C P m w q c t (t + 1) M (λ e. omega (arith, e)) l fits)

-- ---- running requests have some length

estimate_low_at : (C : Config) (P : History) (m r x : ℕ) (a : Act) → InLimits C → IsLegal C P → Fits C P m a → (taken_estimate P r ≡ Some x → 1 ≤ x) → estimate_in r a (taken_estimate P r) ≡ Some x → 1 ≤ x
estimate_low_at C P m r x (Take w q c) lim l fits older is = elim (cases_Bool (q == r)) [
  | inl same ↦
      let h : Some c ≡ Some x = rw same at is in
      let k : c ≡ x = cc in
      omega (arith, k, fits.chosen.estimate_is, (estimate_range C P q fits.asked lim l fits.chosen.asked).0)
  | inr other ↦ older (let h : taken_estimate P r ≡ Some x = rw other at is in h)
]
estimate_low_at C P m r x a lim l fits older is = older is

-- an estimate is at least 1
estimate_low : (C : Config) (P : History) (r x : ℕ) → InLimits C → IsLegal C P → taken_estimate P r ≡ Some x → 1 ≤ x
estimate_low C [] r x lim l is = absurd (cc)
estimate_low C (e ∷ P) r x lim l is = estimate_low_at C P e.moment r x e.act lim l.0 l.3 (estimate_low C P r x lim l.0) is

-- so a running request is charged something
running_charge : (C : Config) (P : History) (i r : ℕ) → InLimits C → IsLegal C P → running_on P i ≡ Some r → 1 ≤ charge P r
running_charge C P i r lim l is =
    let runs = running_runs C P i r l is in
    let x = estimate_some P r (running_taken C P i r l is) in
    let low : 1 ≤ x.0 = estimate_low C P r x.0 lim l x.1 in
    rw (x.1, cost_none P r runs.not_done) (omega (arith, low))

some_at : (C : Config) (P : History) (t i : ℕ) → InLimits C → IsLegal C P → term (full 1) C P t i ≤ term (falling nothing) C P t i
some_at C P t i lim l = go (running_on P i) refl
  where
    of_own : (own : Bool) (x : ℕ) → (own ≡ true → 1 ≤ x) → cond own 1 0 ≤ cond own (x - 0) 0
    of_own true x h = omega (arith, h refl)
    of_own false x h = omega arith

    go : (o : Option ℕ) → running_on P i ≡ o → of_request P t (λ r. 1) o ≤ of_request P t (λ r. request_length C P t r - 0) o
    go None is = omega arith
    go (Some r) is = of_own (is_of_tenant t (request_at P r)) (request_length C P t r) (λ own.
        length_some (charge P r) (taken_weight C P t r) (running_charge C P i r lim l is)
        (taken_weight_low C P t r lim l (tenant_below C P t r l own) (running_taken C P i r l is)))

-- ---- the number of running requests

times_at : (P : History) (t M : ℕ) (o : Option ℕ) → of_request P t (λ r. M) o ≡ of_request P t (λ r. 1) o * M
times_at P t M None = omega arith
times_at P t M (Some r) = times (is_of_tenant t (request_at P r))
  where
    times : (own : Bool) → cond own M 0 ≡ cond own 1 0 * M
    times true = omega arith
    times false = omega arith

sum_times : (a b : ℕ → ℕ) (M n : ℕ) → ((i : ℕ) → a i ≡ b i * M) → sum_below a n ≡ sum_below b n * M
unfolding sum_below
sum_times a b M zero each = omega arith
sum_times a b M (suc n) each = omega (arith, each n, sum_times a b M n each, add-mul (b n) (sum_below b n) M)

-- M for each of them
pub counted : (C : Config) (P : History) (t M : ℕ) → running_length M C P t ≡ running_length 1 C P t * M
unfolding over_running
counted C P t M = sum_times (term (full M) C P t) (term (full 1) C P t) M C.workers (λ i. times_at P t M (running_on P i))

sum_at_least : (a b : ℕ → ℕ) (n : ℕ) → ((i : ℕ) → a i ≤ b i) → sum_below a n ≤ sum_below b n
unfolding sum_below
sum_at_least a b zero each = omega arith
sum_at_least a b (suc n) each = omega (arith, each n, sum_at_least a b n each)

-- each has some length
pub count_low : (C : Config) (P : History) (t : ℕ) → InLimits C → IsLegal C P → running_length 1 C P t ≤ may_fall nothing C P t
unfolding over_running
count_low C P t lim l = sum_at_least (term (full 1) C P t) (term (falling nothing) C P t) C.workers (λ i. some_at C P t i lim l)

-- none runs in the history that has no entry
pub none_run : (C : Config) (t M : ℕ) → running_length M C [] t ≡ 0
unfolding over_running
none_run C t M = sum_zero (term (full M) C [] t) C.workers (λ i. refl)
