-- The bound where no request is longer than M, whatever the running requests cost.
use Rattle.std.proofs.Common.{ℕ, zero, suc, ◌+◌, ◌-◌, ◌*◌, ◌/◌, ◌<◌, ◌≤◌, ◌≡◌, ◌≢◌, ◌∙◌, cond, Bool, true, false, refl, sym, subst, arith, inl, inr, [], ◌∷◌, Option, Some, None, ℤ, pos, ◌≤ℤ◌}
use Rattle.std.specs.Prelude.{◌+ℤ◌, ◌-ℤ◌}
use Rattle.std.specs.Int.{int_max}
use Rattle.std.proofs.lemmas.Int.{ints, clamps}
use Rattle.std.proofs.lemmas.Nat.{mul-le}
use Rattle.std.proofs.lemmas.Bool.{cases_eq, cases_lt, eq-eqb}
use Rattle.std.proofs.Math.Nat.{add-mul, mul_comm, div-mul-le_self}
use Rattle.vt_fixed.specs.Rounding.{length_of, part_of}
use Rattle.vt_fixed.proofs.Bounds.{length_covers}
use Rattle.fq_model.specs.declared.config.Config.{Config}
use Rattle.fq_model.specs.declared.config.Policy.{Policy}
use Rattle.fq_model.specs.declared.config.Policy.TheVariants.{Wfq, Wf2q, Msf2q, TwoDfq, TwoDfqPlus}
use Rattle.fq_model.specs.declared.event.Act.{Act}
use Rattle.fq_model.specs.declared.event.Act.TheVariants.{Take}
use Rattle.fq_model.specs.Limits.{InLimits}
use Rattle.fq_model.specs.History.{History, request_at, is_of_tenant, running_on, weight_at, pool_at}
use Rattle.fq_model.specs.Keys.{stagger}
use Rattle.fq_model.specs.Rules.{IsLegal, FitsTake}
use Rattle.fq_model.specs.Sums.{sum_below}
use Rattle.fq_model.specs.Gap.{run_start, start_difference}
use Rattle.fq_model.specs.Lead.{request_length, of_request, over_running, may_rise, may_fall, doubt, start_now, head_length, lead_of_take, takes_of}
use Rattle.fq_laws.specs.Words.{one_more}
use Rattle.fq_laws.proofs.Charge.Tenants.{taken_of}
use Rattle.fq_laws.proofs.Charge.Estimates.{estimate_range}
use Rattle.fq_laws.proofs.History.Requests.{tenant_below}
use Rattle.fq_laws.proofs.History.Weights.{weight_low, pool_high}
use Rattle.gap_laws.specs.Words.{IsPrefix, RunBegins, AreCaps, AreLows, AreNoLonger}
use Rattle.gap_laws.specs.Laws.{LeadStaysBelow, WorstLeadStaysBelow, DifferenceStaysBelow}
use Rattle.gap_laws.proofs.Declared.{legal_prefix}
use Rattle.gap_laws.proofs.Runs.{prefix_of_prefix, run_begins}
use Rattle.gap_laws.proofs.Running.{term, running_taken, taken_length}
use Rattle.gap_laws.proofs.Leads.{Premises, lead_from, lead_below, rising, falling, not_both, some_own, OfHead, of_head}

-- ---- sums of two

pub all_below : (a b : ℕ → ℕ) (M n : ℕ) → ((i : ℕ) → a i + b i ≤ M) → sum_below a n + sum_below b n ≤ n * M
unfolding sum_below
all_below a b M zero each = omega arith
all_below a b M (suc n) each = omega (arith, each n, all_below a b M n each, add-mul 1 n M)

-- where two numbers together are at most M for each worker, and by d less for one, so are their sums n times
pub both_below : (a b : ℕ → ℕ) (M d w n : ℕ) → ((i : ℕ) → a i + b i ≤ M) → w < n → a w + b w + d ≤ M → sum_below a n + sum_below b n + d ≤ n * M
unfolding sum_below
both_below a b M d w zero each known less = absurd (omega arith)
both_below a b M d w (suc n) each known less = elim (cases_eq n w) [
  | inl e ↦
      let here : a n + b n + d ≤ M = subst (λ i. a i + b i + d ≤ M) (sym e) less in
      omega (arith, here, all_below a b M n each, add-mul 1 n M)
  | inr ne ↦ omega (arith, each n, both_below a b M d w n each (omega arith) less, add-mul 1 n M)
]

-- ---- the doubt about the request of one worker

-- a request is of f or of g or of neither, so that either M less its length counts or its length
one_doubt : (own mine : Bool) (x y M : ℕ) → (own ≡ true → mine ≡ false) → (mine ≡ true → y ≤ M) → cond own (M - x) 0 + cond mine (y - 0) 0 ≤ M
one_doubt true true x y M apart low = let k : true ≡ false = apart refl in absurd (cc)
one_doubt true false x y M apart low = omega arith
one_doubt false true x y M apart low = omega (arith, low refl)
one_doubt false false x y M apart low = omega arith

abbrev pub longest : ℕ → ℕ → ℕ
longest M = λ r. M

abbrev pub nothing : ℕ → ℕ
nothing = λ r. 0

doubt_at : (C : Config) (P : History) (f g M i : ℕ) → f ≢ g → IsLegal C P → AreCaps C P g (longest M) → term (rising (longest M)) C P f i + term (falling nothing) C P g i ≤ M
doubt_at C P f g M i ne l low = go (running_on P i) refl
  where
    go : (o : Option ℕ) → running_on P i ≡ o → of_request P f (λ r. M - request_length C P f r) o + of_request P g (λ r. request_length C P g r - 0) o ≤ M
    go None is = omega arith
    go (Some r) is = one_doubt (is_of_tenant f (request_at P r)) (is_of_tenant g (request_at P r)) (request_length C P f r) (request_length C P g r) M
        (λ own. not_both f g (request_at P r) ne own)
        (λ mine. low P r ([], refl) (taken_of P g r (running_taken C P i r l is) ∙ mine))

-- the doubt about the worker that takes a request of f is less by the length of that request
doubt_taken : (own mine : Bool) (x y M : ℕ) → own ≡ true → mine ≡ false → x ≤ M → cond own (M - x) 0 + cond mine (y - 0) 0 + x ≤ M
doubt_taken own mine x y M is_own is_not low = rw (is_own, is_not) (omega (arith, low))

taker_doubt : (C : Config) (P : History) (who m w q c f g M : ℕ) → f ≢ g → IsLegal C P → FitsTake C P m w q c → is_of_tenant f (request_at P q) ≡ true → length_of c (weight_at C P f) ≤ M → term (rising (longest M)) C (one_more who m (Take w q c) P) f w + term (falling nothing) C (one_more who m (Take w q c) P) g w + length_of c (weight_at C P f) ≤ M
taker_doubt C P who m w q c f g M ne l fits own low =
    let Q : History = one_more who m (Take w q c) P in
    let runs : running_on Q w ≡ Some q = rw (eq-eqb w w refl) refl in
    let long : request_length C Q f q ≡ length_of c (weight_at C P f) = taken_length C P who m w q c f l fits in
    let less : cond (is_of_tenant f (request_at P q)) (M - request_length C Q f q) 0 + cond (is_of_tenant g (request_at P q)) (request_length C Q g q - 0) 0 + request_length C Q f q ≤ M =
    doubt_taken (is_of_tenant f (request_at P q)) (is_of_tenant g (request_at P q)) (request_length C Q f q) (request_length C Q g q) M own (not_both f g (request_at P q) ne own) (rw long low) in
    rw (runs, ← long) less

doubt_after : (C : Config) (P : History) (who m w q c f g M : ℕ) → f ≢ g → IsLegal C (one_more who m (Take w q c) P) → AreCaps C (one_more who m (Take w q c) P) g (longest M) → is_of_tenant f (request_at P q) ≡ true → length_of c (weight_at C P f) ≤ M → doubt (longest M) nothing C (one_more who m (Take w q c) P) f g + length_of c (weight_at C P f) ≤ C.workers * M
unfolding over_running
doubt_after C P who m w q c f g M ne l caps own low =
    let Q : History = one_more who m (Take w q c) P in
    both_below (term (rising (longest M)) C Q f) (term (falling nothing) C Q g) M (length_of c (weight_at C P f)) w C.workers
    (λ i. doubt_at C Q f g M i ne l caps) (omega (arith, l.3.worker_known, pool_high C P l.0)) (taker_doubt C P who m w q c f g M ne l.0 l.3 own low)

-- ---- the lead of a Take, with the doubt after it

pub part_below : (len i n : ℕ) → 1 ≤ len → i < n → part_of len i n + 1 ≤ len
unfolding part_of
part_below len i n some lt =
    let low : i * len / n * n ≤ i * len = div-mul-le_self (i * len) n in
    let more : (i + 1) * len ≤ n * len = mul-le (i + 1) len n len (omega (arith, lt)) (omega arith) in
    elim (cases_lt (i * len / n) len) [
      | inl less ↦ omega (arith, less)
      | inr not_less ↦
          let all : len * n ≤ i * len / n * n = mul-le len n (i * len / n) n (omega (arith, not_less)) (omega arith) in
          absurd (omega (arith, low, more, all, some, add-mul i 1 len, mul_comm len n))
    ]

pub stagger_below : (policy : Policy) (len i n : ℕ) → 1 ≤ len → i < n → (stagger policy (pos len) i n +ℤ pos 1) ≤ℤ pos len
stagger_below Wfq len i n some lt = omega (arith, ints, some)
stagger_below Wf2q len i n some lt = omega (arith, ints, some)
stagger_below Msf2q len i n some lt = omega (arith, ints, some)
stagger_below TwoDfq len i n some lt = omega (arith, ints, part_below len i n some lt)
stagger_below TwoDfqPlus len i n some lt = omega (arith, ints, part_below len i n some lt)

-- an estimate is at least 1, so that a head has some length
pub length_some : (c w : ℕ) → 1 ≤ c → 1 ≤ w → 1 ≤ length_of c w
length_some c w cost weight = go (length_of c w) (length_covers c w (omega (arith, weight)))
  where
    go : (x : ℕ) → c * 1048576 ≤ x * w → 1 ≤ x
    go zero h = absurd (omega (arith, h, cost))
    go (suc x) h = omega arith

within : (head_f head_g doubts all M : ℕ) (part : ℤ) → head_g ≤ M → head_f ≤ M → 1 ≤ head_f → (part +ℤ pos 1) ≤ℤ pos head_f → doubts + head_f ≤ all → (int_max (pos head_g) (part +ℤ pos head_f) +ℤ pos doubts) ≤ℤ (pos (all + M) -ℤ pos 1)
within head_f head_g doubts all M part low_g low_f some less sum = omega (arith, ints, clamps, low_g, low_f, some, less, sum)

-- the worst case, in steps: one request of the greatest length more than there are workers, less a step
abbrev pub worst : Config → ℕ → ℤ
worst C M = pos (C.workers * M + M) -ℤ pos 1

-- the head that a Take takes has some length
pub head_some : (C : Config) (P : History) (who m w q c f : ℕ) → InLimits C → IsLegal C (one_more who m (Take w q c) P) → is_of_tenant f (request_at P q) ≡ true → 1 ≤ head_length C P f
head_some C P who m w q c f lim l own =
    let z : OfHead C P m w f c = of_head C P m w q c f l.3 own in
    let cost : 1 ≤ c = rw l.3.chosen.estimate_is (estimate_range C P q l.3.asked lim l.0 l.3.chosen.asked).0 in
    rw (← z.length_is) (length_some c (weight_at C P f) cost (weight_low C P f lim l.0 (tenant_below C P f q l.0 own)))

take_within : (C : Config) (P : History) (who m w q c f g M : ℕ) → f ≢ g → InLimits C → IsLegal C (one_more who m (Take w q c) P) → AreCaps C (one_more who m (Take w q c) P) g (longest M) → is_of_tenant f (request_at P q) ≡ true → head_length C P f ≤ M → head_length C P g ≤ M → (lead_of_take C P w f g +ℤ pos (doubt (longest M) nothing C (one_more who m (Take w q c) P) f g)) ≤ℤ worst C M
take_within C P who m w q c f g M ne lim l caps own low_f low_g =
    let z : OfHead C P m w f c = of_head C P m w q c f l.3 own in
    let some : 1 ≤ head_length C P f = head_some C P who m w q c f lim l own in
    let sum : doubt (longest M) nothing C (one_more who m (Take w q c) P) f g + head_length C P f ≤ C.workers * M = rw (← z.length_is) (doubt_after C P who m w q c f g M ne l caps own (rw z.length_is low_f)) in
    within (head_length C P f) (head_length C P g) _ (C.workers * M) M (stagger C.policy (pos (head_length C P f)) w (pool_at C P)) low_g low_f some
    (stagger_below C.policy (head_length C P f) w (pool_at C P) some l.3.worker_known) sum

taken_within : (C : Config) (P : History) (who m f g M i : ℕ) (a : Act) → f ≢ g → InLimits C → IsLegal C (one_more who m a P) → AreCaps C (one_more who m a P) g (longest M) → takes_of f P a ≡ Some i → (head_length C P f ≤ M) × (head_length C P g ≤ M) → (lead_of_take C P i f g +ℤ pos (doubt (longest M) nothing C (one_more who m a P) f g)) ≤ℤ worst C M
taken_within C P who m f g M i (Take w q c) ne lim l caps some low =
    let z = some_own w i (is_of_tenant f (request_at P q)) some in
    rw (← z.1) (take_within C P who m w q c f g M ne lim l caps z.0 low.0 low.1)
taken_within C P who m f g M i _ ne lim l caps some low = absurd (cc)

-- ---- over a history

pub legal_in : (C : Config) (H P : History) → IsPrefix P H → IsLegal C H → IsLegal C P
legal_in C H P is l = legal_prefix C is.0 P (subst (IsLegal C) is.1 l)

pub caps_in : (C : Config) (H P : History) (t : ℕ) (cap : ℕ → ℕ) → IsPrefix P H → AreCaps C H t cap → AreCaps C P t cap
caps_in C H P t cap is h = λ Q r inner taken. h Q r (prefix_of_prefix Q P H inner is) taken

no_lower : (C : Config) (H : History) (t : ℕ) → AreLows C H t nothing
no_lower C H t = λ Q r is taken. omega arith

pub worst_premises : (C : Config) (S H : History) (f g M : ℕ) → f ≢ g → InLimits C → IsLegal C H → AreNoLonger C H f g M → Premises (longest M) nothing C S H f g (worst C M)
worst_premises C S H f g M ne lim l h = record {
  limits = lim;
  legal = l;
  caps = h.of_f;
  lows = no_lower C H g;
  takes = λ e Q i is from shared takes. taken_within C Q e.who e.moment f g M i e.act ne lim (legal_in C H (e ∷ Q) is l) (caps_in C H (e ∷ Q) g (longest M) is h.of_g) takes (h.heads e Q i is shared takes);
}

-- where no request of a history is longer than M, none of its prefixes has a longer one
pub longest_in : (C : Config) (H P : History) (f g M : ℕ) → IsPrefix P H → AreNoLonger C H f g M → AreNoLonger C P f g M
longest_in C H P f g M is h = record {
  of_f = caps_in C H P f (longest M) is h.of_f;
  of_g = caps_in C H P g (longest M) is h.of_g;
  heads = λ e Q i inner shared takes. h.heads e Q i (prefix_of_prefix (e ∷ Q) P H inner is) shared takes;
}

-- ---- the laws

pub lead_stays_below : LeadStaysBelow
lead_stays_below cap low C P Q f g B ne lim l caps lows is shared takes =
    lead_from cap low C P Q f g B ne (record { limits = lim; legal = l; caps = caps; lows = lows; takes = takes }) is shared

pub worst_lead_below : WorstLeadStaysBelow
worst_lead_below C H P f g M ne lim l h is =
    let at_P : AreNoLonger C P f g M = longest_in C H P f g M is.0 h in
    lead_below (longest M) nothing C P f g (worst C M) ne (worst_premises C (run_start P f g) P f g M ne lim (legal_in C H P is.0 l) at_P) is.1

pub doubt_high : (C : Config) (P : History) (f g M : ℕ) → f ≢ g → IsLegal C P → AreCaps C P g (longest M) → doubt (longest M) nothing C P f g ≤ C.workers * M
unfolding over_running
doubt_high C P f g M ne l caps = all_below (term (rising (longest M)) C P f) (term (falling nothing) C P g) M C.workers (λ i. doubt_at C P f g M i ne l caps)

by_starts : (sf sg uf ug bf bg vf vg all M : ℕ) → (pos (sf + uf) -ℤ (pos sg -ℤ pos ug)) ≤ℤ int_max (pos (bf + vf) -ℤ (pos bg -ℤ pos vg)) (pos (all + M) -ℤ pos 1) → vf + vg ≤ all → (pos sf -ℤ pos sg) ≤ℤ (int_max (pos bf -ℤ pos bg) (pos M) +ℤ pos all)
by_starts sf sg uf ug bf bg vf vg all M h low = omega (arith, ints, clamps, h, low)

pub difference_below_all : DifferenceStaysBelow
unfolding start_difference
difference_below_all C H P f g M ne lim l h is =
    let Q : History = run_start P f g in
    let run : RunBegins P f g Q = run_begins P f g is.1 in
    let in_H : IsPrefix Q H = prefix_of_prefix Q P H run.first.0.0 is.0 in
    by_starts (start_now C P f) (start_now C P g) (may_rise (longest M) C P f) (may_fall nothing C P g) (start_now C Q f) (start_now C Q g) (may_rise (longest M) C Q f) (may_fall nothing C Q g) (C.workers * M) M
    (worst_lead_below C H P f g M ne lim l h is) (doubt_high C Q f g M ne (legal_in C H Q in_H l) (caps_in C H Q g (longest M) in_H h.of_g))
