-- Completed requests at one entry more, and the estimates from them.
use Rattle.std.proofs.Common.{ℕ, ◌≡◌, refl, ◌∷◌, Some, List, ◌≢◌, ◌==◌, false, ◌≤◌, max, arith, inl, inr, suc, ap, sym, [], ◌++◌, ◌&&◌, Option, None, zero, take, ◌*◌, length}
use Rattle.std.proofs.lemmas.Bool.{eq-eqb, ne_eqb, and_right, cases_lt, cases_Bool}
use Rattle.std.specs.Prelude.{sum}
use Rattle.std.proofs.Math.Nat.{add-mul, div-le_of_le-mul}
use Rattle.std.proofs.lemmas.List.Sums.{sum_by-cons}
use Rattle.vt_fixed.specs.Rounding.{decay_of}
use Rattle.vt_fixed.proofs.Bounds.{decay_mono, decay_at_most}
use Rattle.fq_model.specs.declared.event.Act.TheVariants.{Done}
use Rattle.fq_model.specs.History.{History, Request, request_at}
use Rattle.fq_model.specs.Charge.{completed, Completed, completed_costs, decayed, decayed_by_age, greatest, with_cost, with_completion, mean, estimate_from, estimate_at, request_estimate}
use Rattle.fq_model.specs.declared.config.Config.{Config}
use Rattle.fq_model.specs.declared.event.Act.{Act}
use Rattle.fq_model.specs.Rules.{Fits, IsLegal}
use Rattle.fq_model.specs.declared.config.Estimator.{Estimator}
use Rattle.fq_model.specs.declared.config.Estimator.TheVariants.{Declared, Recent, Pessimistic}
use Rattle.fq_model.specs.Limits.{InLimits}
use Rattle.vt_fixed.specs.declared.limits.TheConstants.{GREATEST_COST}
use Rattle.fq_laws.specs.Words.{one_more}
use Rattle.fq_laws.specs.Changes.{greatest_cost_from}
use Rattle.fq_laws.proofs.History.Requests.{IsKnown, request_known}

-- ---- the completed requests at one entry more

-- a Done completes the request that it is of
pub completed_done : (P : History) (who m w q cost : ℕ) (a : Request) → request_at P q ≡ Some a → completed (one_more who m (Done w q cost) P) ≡ record { tenant = a.tenant; kind = a.kind; cost = cost } ∷ completed P
completed_done P who m w q cost a is = rw is refl

-- the costs of its tenant and kind gain one
pub costs_own : (cs : List Completed) (t k cost : ℕ) → completed_costs (record { tenant = t; kind = k; cost = cost } ∷ cs) t k ≡ cost ∷ completed_costs cs t k
costs_own cs t k cost = rw (eq-eqb t t refl, eq-eqb k k refl) refl

-- those of another tenant do not
pub costs_other_tenant : (cs : List Completed) (t k u l cost : ℕ) → u ≢ t → completed_costs (record { tenant = u; kind = l; cost = cost } ∷ cs) t k ≡ completed_costs cs t k
costs_other_tenant cs t k u l cost ne = rw (ne_eqb u t ne) refl

-- nor those of another kind
pub costs_other_kind : (cs : List Completed) (t k u l cost : ℕ) → l ≢ k → completed_costs (record { tenant = u; kind = l; cost = cost } ∷ cs) t k ≡ completed_costs cs t k
costs_other_kind cs t k u l cost ne = rw (ne_eqb l k ne, and_right (u == t) false refl) refl

-- ---- the greatest decayed cost

-- the decay of the greater of two is the greater of their decays
pub decay_max : (a b : ℕ) → decay_of (max a b) ≡ max (decay_of a) (decay_of b)
decay_max a b = elim (cases_lt a b) [
  | inl h ↦ let m : decay_of a ≤ decay_of b = decay_mono a b (omega arith) in let e : max a b ≡ b = omega arith in rw e (omega arith)
  | inr h ↦ let m : decay_of b ≤ decay_of a = decay_mono b a h in let e : max a b ≡ a = omega arith in rw e (omega arith)
]

decay_zero : decay_of 0 ≡ 0
decay_zero = omega (arith, decay_at_most 0)

-- where each of them decays once more, so does the greatest
pub greatest_decays : (age : ℕ) (cs : List ℕ) → greatest (decayed_by_age (suc age) cs) ≡ decay_of (greatest (decayed_by_age age cs))
greatest_decays age [] = sym decay_zero
greatest_decays age (c ∷ cs) = rw (decay_max (decayed age c) (greatest (decayed_by_age (suc age) cs))) (ap (λ x. max (decay_of (decayed age c)) x) (greatest_decays (suc age) cs))

pub greatest_first : (initial : ℕ) → greatest_cost_from initial [] ≡ initial
greatest_first initial = omega arith

-- one cost more: the greater of the cost and the decay of the greatest before it
pub greatest_next : (initial c : ℕ) (cs : List ℕ) → greatest_cost_from initial (c ∷ cs) ≡ max c (decay_of (greatest_cost_from initial cs))
greatest_next initial c cs = ap (λ x. max c x) (greatest_decays 0 (cs ++ initial ∷ []))

-- ---- limits

-- each is at most the greatest cost of a request
abbrev pub AreLow : List ℕ → Type 0
AreLow [] = Unit {0}
AreLow (x ∷ xs) = (x ≤ GREATEST_COST) × AreLow xs

low_costs_with : (P : History) (t k cost : ℕ) (o : Option Request) (cs : List Completed) → cost ≤ GREATEST_COST → AreLow (completed_costs cs t k) → AreLow (completed_costs (with_cost o cost cs) t k)
low_costs_with P t k cost None cs b h = h
low_costs_with P t k cost (Some a) cs b h = elim (cases_Bool ((a.tenant == t) && (a.kind == k))) [ inl e ↦ rw e (b, h) | inr e ↦ rw e h ]

low_costs_at : (C : Config) (P : History) (m t k : ℕ) (a : Act) → Fits C P m a → AreLow (completed_costs (completed P) t k) → AreLow (completed_costs (with_completion P a (completed P)) t k)
low_costs_at C P m t k (Done worker request cost) f h = low_costs_with P t k cost (request_at P request) (completed P) f.in_range h
low_costs_at C P m t k _ f h = h

-- each completed cost is in range
pub low_costs : (C : Config) (P : History) (t k : ℕ) → IsLegal C P → AreLow (completed_costs (completed P) t k)
low_costs C [] t k l = tt
low_costs C (e ∷ P) t k l = low_costs_at C P e.moment t k e.act l.3 (low_costs C P t k l.0)

pub low_take : (n : ℕ) (xs : List ℕ) → AreLow xs → AreLow (take n xs)
low_take zero [] h = tt
low_take zero (x ∷ xs) h = tt
low_take (suc n) [] h = tt
low_take (suc n) (x ∷ xs) h = (h.0, low_take n xs h.1)

pub low_sum : (xs : List ℕ) → AreLow xs → sum xs ≤ length xs * GREATEST_COST
low_sum [] h = omega arith
low_sum (x ∷ xs) h = omega (arith, sum_by-cons (λ y. y) x xs, low_sum xs h.1, h.0, add-mul 1 (length xs) GREATEST_COST)

pub low_mean : (xs : List ℕ) → AreLow xs → mean xs ≤ GREATEST_COST
low_mean xs h = div-le_of_le-mul (length xs) (low_sum xs h)

pub decayed_low : (age c : ℕ) → decayed age c ≤ c
decayed_low zero c = omega arith
decayed_low (suc age) c = omega (arith, decay_at_most (decayed age c), decayed_low age c)

pub low_greatest : (age : ℕ) (cs : List ℕ) → AreLow cs → greatest (decayed_by_age age cs) ≤ GREATEST_COST
low_greatest age [] h = omega arith
low_greatest age (c ∷ cs) h = omega (arith, decayed_low age c, low_greatest (suc age) cs h.1, h.0)

low_end : (x : ℕ) (cs : List ℕ) → x ≤ GREATEST_COST → AreLow cs → AreLow (cs ++ x ∷ [])
low_end x [] b h = (b, tt)
low_end x (c ∷ cs) b h = (h.0, low_end x cs b h.1)

low_from : (e : Estimator) (initial : ℕ) (cs : List ℕ) (declared : ℕ) → 1 ≤ initial → initial ≤ GREATEST_COST → 1 ≤ declared → declared ≤ GREATEST_COST → AreLow cs → (1 ≤ estimate_from e initial cs declared) × (estimate_from e initial cs declared ≤ GREATEST_COST)
low_from Declared initial cs declared i i2 d d2 h = (d, d2)
low_from Recent initial [] declared i i2 d d2 h = (i, i2)
low_from Recent initial (c ∷ cs) declared i i2 d d2 h = let k : mean (take 8 (c ∷ cs)) ≤ GREATEST_COST = low_mean (take 8 (c ∷ cs)) (low_take 8 (c ∷ cs) h) in (omega arith, omega arith)
low_from Pessimistic initial cs declared i i2 d d2 h = let k = low_greatest 0 (cs ++ initial ∷ []) (low_end initial cs i2 h) in (omega arith, omega (arith, k))

-- an estimate of a cost in range, whichever the estimator
pub estimate_at_range : (C : Config) (P : History) (t k declared : ℕ) → InLimits C → IsLegal C P → 1 ≤ declared → declared ≤ GREATEST_COST → (1 ≤ estimate_at C P t k declared) × (estimate_at C P t k declared ≤ GREATEST_COST)
unfolding estimate_at
estimate_at_range C P t k declared lim l low high = low_from C.estimate C.initial (completed_costs (completed P) t k) declared lim.initial.0 lim.initial.1 low high (low_costs C P t k l)

-- the estimate of a submitted request
pub estimate_range : (C : Config) (P : History) (r : ℕ) (a : Request) → InLimits C → IsLegal C P → request_at P r ≡ Some a → (1 ≤ request_estimate C P a) × (request_estimate C P a ≤ GREATEST_COST)
estimate_range C P r a lim l h = let x : IsKnown C a = request_known C P r a l h in estimate_at_range C P a.tenant a.kind a.declared lim l x.declared_low x.declared_high
