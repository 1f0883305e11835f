-- Estimates of costs that keep to a limit keep to it.
use Rattle.std.proofs.Common.{ℕ, zero, suc, ◌*◌, ◌≤◌, ◌≡◌, ◌==◌, ◌&&◌, Bool, true, false, if◌then◌else◌, List, [], ◌∷◌, ◌++◌, length, take, Option, Some, None, refl, sym, subst, inl, inr, arith}
use Rattle.std.specs.Prelude.{sum}
use Rattle.std.proofs.Math.Nat.{add-mul, div-le_of_le-mul}
use Rattle.std.proofs.lemmas.Bool.{eq-eqb, eqb-true, cases_Bool, false≢true}
use Rattle.std.proofs.lemmas.List.Sums.{sum_by-cons}
use Rattle.fq_model.specs.declared.config.Config.{Config}
use Rattle.fq_model.specs.declared.config.Estimator.{Estimator}
use Rattle.fq_model.specs.declared.config.Estimator.TheVariants.{Declared, Recent, Pessimistic}
use Rattle.fq_model.specs.declared.event.Act.{Act}
use Rattle.fq_model.specs.declared.event.Act.TheVariants.{Done}
use Rattle.fq_model.specs.declared.event.Entry.{Entry}
use Rattle.fq_model.specs.Charge.{completed, Completed, completed_costs, decayed_by_age, greatest, with_cost, with_completion, mean, final_cost, estimate_from, estimate_at, request_estimate}
use Rattle.fq_model.specs.Gap.{is_declared}
use Rattle.fq_model.specs.History.{History, Request, request_at}
use Rattle.fq_model.specs.Rules.{IsLegal}
use Rattle.fq_laws.specs.Words.{one_more}
use Rattle.fq_laws.proofs.Charge.Estimates.{decayed_low}
use Rattle.gap_laws.specs.Words.{IsPrefix}
use Rattle.gap_laws.proofs.Runs.{prefix_older}
use Rattle.length_laws.specs.Words.{CostsStayBelow}

-- ---- numbers that keep to a limit

abbrev AllBelow : ℕ → List ℕ → Type 0
AllBelow c [] = Unit {0}
AllBelow c (x ∷ xs) = (x ≤ c) × AllBelow c xs

below_take : (c n : ℕ) (xs : List ℕ) → AllBelow c xs → AllBelow c (take n xs)
below_take c zero [] h = tt
below_take c zero (x ∷ xs) h = tt
below_take c (suc n) [] h = tt
below_take c (suc n) (x ∷ xs) h = (h.0, below_take c n xs h.1)

below_sum : (c : ℕ) (xs : List ℕ) → AllBelow c xs → sum xs ≤ length xs * c
below_sum c [] h = omega arith
below_sum c (x ∷ xs) h = omega (arith, sum_by-cons (λ y. y) x xs, below_sum c xs h.1, h.0, add-mul 1 (length xs) c)

below_mean : (c : ℕ) (xs : List ℕ) → AllBelow c xs → mean xs ≤ c
below_mean c xs h = div-le_of_le-mul (length xs) (below_sum c xs h)

below_greatest : (c age : ℕ) (cs : List ℕ) → AllBelow c cs → greatest (decayed_by_age age cs) ≤ c
below_greatest c age [] h = omega arith
below_greatest c age (x ∷ cs) h = omega (arith, decayed_low age x, below_greatest c (suc age) cs h.1, h.0)

below_end : (c x : ℕ) (cs : List ℕ) → x ≤ c → AllBelow c cs → AllBelow c (cs ++ x ∷ [])
below_end c x [] b h = (b, tt)
below_end c x (y ∷ cs) b h = (h.0, below_end c x cs b h.1)

from_below : (e : Estimator) (initial : ℕ) (cs : List ℕ) (declared c : ℕ) → 1 ≤ c → (if is_declared e then declared else initial) ≤ c → AllBelow c cs → estimate_from e initial cs declared ≤ c
from_below Declared initial cs declared c some first h = first
from_below Recent initial [] declared c some first h = first
from_below Recent initial (x ∷ cs) declared c some first h = omega (arith, some, below_mean c (take 8 (x ∷ cs)) (below_take c 8 (x ∷ cs) h))
from_below Pessimistic initial cs declared c some first h = omega (arith, some, below_greatest c 0 (cs ++ initial ∷ []) (below_end c initial cs first h))

-- ---- costs of a history

-- a limit of costs at all prefixes of a history is a limit at those of a prefix one entry shorter
pub costs_older : (C : Config) (e : Entry) (P : History) (t c : ℕ) → CostsStayBelow C (e ∷ P) t c → CostsStayBelow C P t c
costs_older C e P t c h = λ Q r q is. h Q r q (prefix_older e P Q is)

-- a history is a prefix of itself
pub whole : (P : History) → IsPrefix P P
whole P = ([], refl)

first_true : (a b : Bool) → (a && b) ≡ true → a ≡ true
first_true true b e = refl
first_true false b e = absurd (false≢true e)

costs_with : (t k cost c : ℕ) (o : Option Request) (cs : List Completed) → ((q : Request) → o ≡ Some q → q.tenant ≡ t → cost ≤ c) → AllBelow c (completed_costs cs t k) → AllBelow c (completed_costs (with_cost o cost cs) t k)
costs_with t k cost c None cs low h = h
costs_with t k cost c (Some a) cs low h = elim (cases_Bool ((a.tenant == t) && (a.kind == k))) [
  | inl e ↦ rw e (low a refl (eqb-true a.tenant t (first_true (a.tenant == t) (a.kind == k) e)), h)
  | inr e ↦ rw e h
]

cost_told : (P : History) (who m w r cost : ℕ) → final_cost (one_more who m (Done w r cost) P) r ≡ Some cost
cost_told P who m w r cost = rw (eq-eqb r r refl) refl

costs_at : (C : Config) (P : History) (who m t k c : ℕ) (a : Act) → IsLegal C (one_more who m a P) → CostsStayBelow C (one_more who m a P) t c → AllBelow c (completed_costs (completed P) t k) → AllBelow c (completed_costs (with_completion P a (completed P)) t k)
costs_at C P who m t k c (Done w r cost) l h low =
    let now = one_more who m (Done w r cost) P in
    costs_with t k cost c (request_at P r) (completed P) (λ q is own. (h now r q (whole now) is own).cost cost (cost_told P who m w r cost)) low
costs_at C P who m t k c _ l h low = low

-- the completed costs of a tenant are at most c
costs_below : (C : Config) (P : History) (t k c : ℕ) → IsLegal C P → CostsStayBelow C P t c → AllBelow c (completed_costs (completed P) t k)
costs_below C [] t k c l h = tt
costs_below C (e ∷ P) t k c l h = costs_at C P e.who e.moment t k c e.act l h (costs_below C P t k c l.0 (costs_older C e P t c h))

-- so is the estimate of a request of the tenant
pub estimate_below : (C : Config) (P : History) (r t c : ℕ) (q : Request) → IsLegal C P → 1 ≤ c → CostsStayBelow C P t c → request_at P r ≡ Some q → q.tenant ≡ t → request_estimate C P q ≤ c
unfolding estimate_at
estimate_below C P r t c q l some h is own =
    from_below C.estimate C.initial (completed_costs (completed P) q.tenant q.kind) q.declared c some (h P r q (whole P) is own).first
    (subst (λ u. AllBelow c (completed_costs (completed P) u q.kind)) (sym own) (costs_below C P t q.kind c l h))
