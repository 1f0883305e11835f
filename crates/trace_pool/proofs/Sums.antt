-- Sums over the acts of a history, and over its callers.
use Rattle.std.proofs.Common.{◌≡◌, ◌≢◌, ◌<◌, ◌≤◌, ◌+◌, ◌||◌, ℕ, zero, suc, Bool, true, false, List, [], ◌∷◌, ◌++◌, reverse, refl, sym, ap, ◌∙◌, arith, inl, inr}
use Rattle.std.proofs.lemmas.Bool.{cases_eq, cases_Bool, or_parts, or_from, false≢true, false_from_ne_true, both_ways, or_right, cases_lt}
use Rattle.std.proofs.lemmas.List.{reverse-append}
use Rattle.fq_model.specs.declared.event.Act.{Act}
use Rattle.fq_model.specs.declared.event.Act.TheVariants.{Submit, Take, Report}
use Rattle.fq_model.specs.declared.event.Entry.{Entry}
use Rattle.fq_model.specs.History.{History, Request, has_act, count_acts, submits, with_submit}
use Rattle.fq_model.specs.Outcome.{own_entries}
use Rattle.program_model.specs.PoolHistory.{submitted_requests, with_request}
use Rattle.fq_model.specs.Sums.{sum_below}
use Rattle.fq_laws.proofs.Sums.{sum_at, sum_zero}
use Rattle.trace_pool.proofs.Callers.{own_here, own_else, not_by, none_older}
use Rattle.trace_pool.proofs.Parts.{acts}

-- ---- sums over acts

abbrev pub act_sum : (Act → ℕ) → List Act → ℕ
act_sum f [] = 0
act_sum f (a ∷ more) = f a + act_sum f more

-- the sum over the entries of one caller
abbrev pub own_sum : (Act → ℕ) → History → ℕ → ℕ
own_sum f H j = act_sum f (acts (own_entries H j))

sum_here : (f : Act → ℕ) (e : Entry) (P : History) (j : ℕ) → e.who ≡ j → own_sum f (e ∷ P) j ≡ f e.act + own_sum f P j
sum_here f e P j by = ap (λ Q. act_sum f (acts Q)) (own_here e P j by)

sum_else : (f : Act → ℕ) (e : Entry) (P : History) (j : ℕ) → e.who ≢ j → own_sum f (e ∷ P) j ≡ own_sum f P j
sum_else f e P j other = ap (λ Q. act_sum f (acts Q)) (own_else e P j other)

-- a sum over a history is the sum of those over its callers
pub sum_parts : (f : Act → ℕ) (H : History) (n : ℕ) → ((j : ℕ) → n ≤ j → own_entries H j ≡ []) → act_sum f (acts H) ≡ sum_below (own_sum f H) n
sum_parts f [] n none = sym (sum_zero (own_sum f []) n (λ j. refl))
sum_parts f (e ∷ P) n none =
    let known : e.who < n = below e.who refl in
    let older : act_sum f (acts P) ≡ sum_below (own_sum f P) n = sum_parts f P n (λ j h. none_older e P j (none j h)) in
    let more : sum_below (own_sum f (e ∷ P)) n + own_sum f P e.who ≡ sum_below (own_sum f P) n + own_sum f (e ∷ P) e.who = sum_at (own_sum f P) (own_sum f (e ∷ P)) e.who n known (λ s ne. sym (sum_else f e P s (λ q. ne (sym q)))) in
    omega (arith, older, more, sum_here f e P e.who refl)
  where
    below : (j : ℕ) → e.who ≡ j → j < n
    below j by = elim (cases_lt j n) [ inl h ↦ h | inr h ↦ absurd (not_by e P j (none j h) by) ]

pub sum_within : (f : Act → ℕ) (newer P : History) → act_sum f (acts P) ≤ act_sum f (acts (newer ++ P))
sum_within f [] P = omega arith
sum_within f (e ∷ newer) P = omega (arith, sum_within f newer P)

-- ---- sums of numbers

pub sums_rise : (f g : ℕ → ℕ) (n : ℕ) → ((j : ℕ) → j < n → f j ≤ g j) → sum_below f n ≤ sum_below g n
unfolding sum_below
sums_rise f g zero h = omega arith
sums_rise f g (suc n) h = omega (arith, h n (omega arith), sums_rise f g n (λ j b. h j (omega arith)))

pub sums_rise_at : (f g : ℕ → ℕ) (n i : ℕ) → i < n → ((j : ℕ) → j < n → f j ≤ g j) → f i < g i → sum_below f n < sum_below g n
unfolding sum_below
sums_rise_at f g zero i b h here = absurd (omega arith)
sums_rise_at f g (suc n) i b h here = elim (cases_eq n i) [
  | inl e ↦
      let at_f : f n ≡ f i = ap f e in
      let at_g : g n ≡ g i = ap g e in
      omega (arith, sums_rise f g n (λ j c. h j (omega arith)))
  | inr ne ↦ omega (arith, h n (omega arith), sums_rise_at f g n i (omega arith) (λ j c. h j (omega arith)) here)
]

-- the sum over n numbers, and zeros from there on
pub sum_cut : (f : ℕ → ℕ) (n k : ℕ) → ((j : ℕ) → n ≤ j → f j ≡ 0) → sum_below f (n + k) ≡ sum_below f n
unfolding sum_below
sum_cut f n zero h = ap (sum_below f) (omega arith)
sum_cut f n (suc k) h =
    let e : n + suc k ≡ suc (n + k) = omega arith in
    ap (sum_below f) e ∙ omega (arith, h (n + k) (omega arith), sum_cut f n k h)

-- ---- tests, as weights

abbrev pub any_act : (Act → Bool) → List Act → Bool
any_act test [] = false
any_act test (a ∷ more) = test a || any_act test more

pub has_is : (test : Act → Bool) (P : History) → has_act test P ≡ any_act test (acts P)
has_is test [] = refl
has_is test (e ∷ P) = ap (λ b. test e.act || b) (has_is test P)

-- an act that implies an absent act is absent
pub has_less : (p q : Act → Bool) → ((a : Act) → p a ≡ true → q a ≡ true) → (P : History) → has_act q P ≡ false → has_act p P ≡ false
has_less p q h [] none = refl
has_less p q h (e ∷ P) none =
    let x = or_parts (q e.act) (has_act q P) none in
    or_from (p e.act) (has_act p P) (false_from_ne_true (p e.act) (λ y. both_ways (q e.act) x.0 (h e.act y))) (has_less p q h P x.1)

-- an act that is there is counted
pub counted : (test : Act → Bool) (P : History) → has_act test P ≡ true → 1 ≤ count_acts test P
counted test [] h = absurd (false≢true h)
counted test (e ∷ P) h = elim (cases_Bool (test e.act)) [
  | inl is ↦ rw is (omega arith)
  | inr is ↦ rw is (counted test P (rw is at h))
]

pub has_within : (test : Act → Bool) (newer P : History) → has_act test P ≡ true → has_act test (newer ++ P) ≡ true
has_within test [] P h = h
has_within test (e ∷ newer) P h = or_right (test e.act) (has_act test (newer ++ P)) (has_within test newer P h)

pub none_within : (test : Act → Bool) (newer P : History) → has_act test (newer ++ P) ≡ false → has_act test P ≡ false
none_within test newer P h = false_from_ne_true (has_act test P) (λ y. both_ways (has_act test (newer ++ P)) h (has_within test newer P y))

-- ---- requests, as weights

-- the weight of the request that an act submits
abbrev pub submit_weight : (Request → ℕ) → Act → ℕ
submit_weight g (Submit request tenant kind declared label) = g (record { tenant = tenant; kind = kind; declared = declared; label = label })
submit_weight g _ = 0

-- the weight of its number
abbrev pub number_weight : (ℕ → ℕ) → Act → ℕ
number_weight h (Submit request tenant kind declared label) = h request
number_weight h _ = 0

-- the weight of the number of the request that an act takes
abbrev pub take_weight : (ℕ → ℕ) → Act → ℕ
take_weight h (Take worker request estimate) = h request
take_weight h _ = 0

-- 1 for a Report
abbrev pub report_weight : Act → ℕ
report_weight (Report worker request used) = 1
report_weight _ = 0

abbrev pub request_sum : (Request → ℕ) → List Request → ℕ
request_sum g [] = 0
request_sum g (q ∷ more) = g q + request_sum g more

pub request_sum_append : (g : Request → ℕ) (xs ys : List Request) → request_sum g (xs ++ ys) ≡ request_sum g xs + request_sum g ys
request_sum_append g [] ys = omega arith
request_sum_append g (x ∷ xs) ys = omega (arith, request_sum_append g xs ys)

pub request_sum_turned : (g : Request → ℕ) (xs : List Request) → request_sum g (reverse xs) ≡ request_sum g xs
request_sum_turned g [] = refl
request_sum_turned g (x ∷ xs) =
    let e : reverse (x ∷ xs) ≡ reverse xs ++ x ∷ [] = reverse-append (x ∷ []) xs in
    ap (request_sum g) e ∙ omega (arith, request_sum_append g (reverse xs) (x ∷ []), request_sum_turned g xs)

submitted_at : (g : Request → ℕ) (a : Act) (older : List Request) → request_sum g (with_request a older) ≡ submit_weight g a + request_sum g older
submitted_at g (Submit request tenant kind declared label) older = refl
submitted_at g _ older = omega arith

-- a sum over Submits is a sum over their requests
pub submitted_sum : (g : Request → ℕ) (P : History) → act_sum (submit_weight g) (acts P) ≡ request_sum g (submitted_requests P)
submitted_sum g [] = refl
submitted_sum g (e ∷ P) = omega (arith, submitted_sum g P, submitted_at g e.act (submitted_requests P))

-- 1 for each request
abbrev pub one_each : Request → ℕ
one_each q = 1

submits_at : (a : Act) (n : ℕ) → with_submit a n ≡ submit_weight one_each a + n
submits_at (Submit request tenant kind declared label) n = omega arith
submits_at _ n = omega arith

pub submits_are : (P : History) → submits P ≡ act_sum (submit_weight one_each) (acts P)
submits_are [] = refl
submits_are (e ∷ P) = omega (arith, submits_are P, submits_at e.act (submits P))
