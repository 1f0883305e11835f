-- Lengths of requests whose costs, and whose tenant's weights, keep to limits.
use Rattle.std.proofs.Common.{ℕ, ◌≤◌, ◌≡◌, ◌==◌, ◌&&◌, Bool, true, false, not, if◌then◌else◌, [], ◌∷◌, Option, Some, None, refl, sym, ap, subst, ◌∙◌, inl, inr, arith}
use Rattle.std.proofs.lemmas.Bool.{eqb-true, cases_Bool, false≢true}
use Rattle.vt_fixed.specs.Rounding.{length_of}
use Rattle.vt_fixed.proofs.Bounds.{length_mono, length_falls}
use Rattle.fq_model.specs.declared.config.Config.{Config}
use Rattle.fq_model.specs.declared.event.Act.{Act}
use Rattle.fq_model.specs.declared.event.Act.TheVariants.{Take}
use Rattle.fq_model.specs.declared.event.Entry.{Entry}
use Rattle.fq_model.specs.Charge.{taken_estimate, estimate_in, final_cost, charge_from, charge, taken_weight, is_taken_of, request_estimate}
use Rattle.fq_model.specs.History.{History, Request, request_at, is_of_tenant, is_take_of, is_taken, is_removed, head, weight_at, waits_for}
use Rattle.fq_model.specs.Lead.{head_length, length_of_head, length_of_request}
use Rattle.fq_model.specs.Rules.{FitsTake, IsChosen, IsLegal}
use Rattle.fq_laws.specs.Words.{one_more}
use Rattle.fq_laws.proofs.History.Heads.{head_is_head}
use Rattle.fq_laws.proofs.History.Requests.{asked_stays}
use Rattle.gap_laws.specs.Words.{IsPrefix, AreCaps}
use Rattle.gap_laws.proofs.Runs.{prefix_older, prefix_of_prefix}
use Rattle.gap_laws.proofs.WorstCase.{legal_in, worst_lead_below}
use Rattle.length_laws.specs.Laws.{LengthsAreForetold, WorstLeadIsForetold}
use Rattle.length_laws.specs.Words.{CostsStayBelow, WeightStaysAbove}
use Rattle.length_laws.proofs.Costs.{costs_older, whole, estimate_below}

-- ---- charges

-- the request of an estimate in a Take; if it is a request of t, the estimate keeps to the limit
record Estimated (P : History) (t c r n : ℕ) : Type 0 where
  asked : Request
  was_asked : request_at P r ≡ Some asked
  low : asked.tenant ≡ t → n ≤ c

older : (C : Config) (e : Entry) (P : History) (t c r n : ℕ) → IsLegal C (e ∷ P) → Estimated P t c r n → Estimated (e ∷ P) t c r n
older C e P t c r n l h = record { asked = h.asked; was_asked = asked_stays C P e r h.asked l h.was_asked; low = h.low }

taken_now : (C : Config) (P : History) (m t c w r estimate : ℕ) → IsLegal C P → 1 ≤ c → CostsStayBelow C P t c → FitsTake C P m w r estimate → Estimated P t c r estimate
taken_now C P m t c w r estimate l some h fits =
    let z : IsChosen C P m w r estimate fits.asked = fits.chosen in
    record {
      asked = fits.asked;
      was_asked = z.asked;
      low = λ own. subst (λ n. n ≤ c) (sym z.estimate_is) (estimate_below C P r t c fits.asked l some h z.asked own);
    }

estimated_at : (C : Config) (P : History) (who m t c r n : ℕ) (a : Act) → IsLegal C (one_more who m a P) → 1 ≤ c → CostsStayBelow C P t c → ((k : ℕ) → taken_estimate P r ≡ Some k → Estimated P t c r k) → estimate_in r a (taken_estimate P r) ≡ Some n → Estimated (one_more who m a P) t c r n
estimated_at C P who m t c r n (Take w q estimate) l some h before is = elim (cases_Bool (q == r)) [
  | inl e ↦ (
      let same : q ≡ r = eqb-true q r e in
      let told : Some estimate ≡ Some n = rw e at is in
      let same_estimate : estimate ≡ n = cc in
      older C (record { who = who; moment = m; act = Take w q estimate }) P t c r n l
      (subst (λ x. Estimated P t c x n) same (subst (λ x. Estimated P t c q x) same_estimate (taken_now C P m t c w q estimate l.0 some h l.3))))
  | inr e ↦ older C (record { who = who; moment = m; act = Take w q estimate }) P t c r n l (before n (rw e at is))
]
estimated_at C P who m t c r n a l some h before is = older C (record { who = who; moment = m; act = a }) P t c r n l (before n is)

estimated : (C : Config) (P : History) (t c r n : ℕ) → IsLegal C P → 1 ≤ c → CostsStayBelow C P t c → taken_estimate P r ≡ Some n → Estimated P t c r n
estimated C [] t c r n l some h is = absurd (cc)
estimated C (e ∷ P) t c r n l some h is =
    let inner = costs_older C e P t c h in
    estimated_at C P e.who e.moment t c r n e.act l some inner (λ k. estimated C P t c r k l.0 some inner) is

from_low : (e n : Option ℕ) (u c : ℕ) → ((x : ℕ) → e ≡ Some x → x ≤ c) → ((x : ℕ) → n ≡ Some x → x ≤ c) → u ≤ c → charge_from e n u ≤ c
from_low None n u c first cost used = omega arith
from_low (Some x) None u c first cost used = omega (arith, first x refl, used)
from_low (Some x) (Some y) u c first cost used = cost y refl

charge_low : (C : Config) (P : History) (t c r : ℕ) (q : Request) → IsLegal C P → 1 ≤ c → CostsStayBelow C P t c → request_at P r ≡ Some q → q.tenant ≡ t → charge P r ≤ c
charge_low C P t c r q l some h is own =
    let low = h P r q (whole P) is own in
    from_low (taken_estimate P r) (final_cost P r) _ c (λ n told. estimate_low n (estimated C P t c r n l some h told)) low.cost low.used
  where
    estimate_low : (n : ℕ) → Estimated P t c r n → n ≤ c
    estimate_low n x =
        let same : Some x.asked ≡ Some q = sym x.was_asked ∙ is in
        let j : x.asked ≡ q = cc in
        x.low (ap (λ y. y.tenant) j ∙ own)

-- ---- lengths

weight_above : (C : Config) (P : History) (t r w : ℕ) → WeightStaysAbove C P t w → is_taken P r ≡ true → w ≤ taken_weight C P t r
unfolding is_taken
weight_above C [] t r w h taken = absurd (false≢true taken)
weight_above C (e ∷ P) t r w h taken = go (is_take_of r e.act) refl (weight_above C P t r w (λ Q is. h Q (prefix_older e P Q is)))
  where
    go : (b : Bool) → is_take_of r e.act ≡ b → (is_taken P r ≡ true → w ≤ taken_weight C P t r) → w ≤ (if b then weight_at C P t else taken_weight C P t r)
    go true is inner = h P (e ∷ [], refl)
    go false is inner = inner (rw is at taken)

both_true : (a b : Bool) → (a && b) ≡ true → (a ≡ true) × (b ≡ true)
both_true true b e = (refl, e)
both_true false b e = absurd (false≢true e)

of_tenant : (t : ℕ) (o : Option Request) → is_of_tenant t o ≡ true → (q : Request) × (o ≡ Some q) × (q.tenant ≡ t)
of_tenant t None own = absurd (false≢true own)
of_tenant t (Some q) own = (q, refl, eqb-true q.tenant t own)

length_low : (cost c v w : ℕ) → 1 ≤ w → cost ≤ c → w ≤ v → length_of cost v ≤ length_of c w
length_low cost c v w some low above = omega (arith, length_mono cost c v (omega (arith, some, above)) low, length_falls c w v some above)

pub caps_low : (C : Config) (H : History) (t c w : ℕ) → IsLegal C H → 1 ≤ c → 1 ≤ w → CostsStayBelow C H t c → WeightStaysAbove C H t w → AreCaps C H t (λ r. length_of c w)
unfolding is_taken_of
caps_low C H t c w l some weight costs weights = λ Q r is taken.
    let parts = both_true (is_of_tenant t (request_at Q r)) (is_taken Q r) taken in
    let own = of_tenant t (request_at Q r) parts.0 in
    length_low (charge Q r) c (taken_weight C Q t r) w weight
    (charge_low C Q t c r own.0 (legal_in C H Q is l) some (λ R s q inner. costs R s q (prefix_of_prefix R Q H inner is)) own.1 own.2)
    (weight_above C Q t r w (λ R inner. weights R (prefix_of_prefix R Q H inner is)) parts.1)

waits_own : (Q : History) (t r : ℕ) → waits_for Q t r ≡ true → is_of_tenant t (request_at Q r) ≡ true
unfolding waits_for
waits_own Q t r waits = (both_true (is_of_tenant t (request_at Q r)) (not (is_removed Q r)) waits).0

pub head_low : (C : Config) (H Q : History) (t c w : ℕ) → IsLegal C H → 1 ≤ c → 1 ≤ w → CostsStayBelow C H t c → WeightStaysAbove C H t w → IsPrefix Q H → head_length C Q t ≤ length_of c w
head_low C H Q t c w l some weight costs weights is = go (head Q t) refl
  where
    asked : (r : ℕ) (o : Option Request) → request_at Q r ≡ o → is_of_tenant t o ≡ true → length_of_request C Q t o ≤ length_of c w
    asked r None told own = omega arith
    asked r (Some q) told own =
        length_low (request_estimate C Q q) c (weight_at C Q t) w weight
        (estimate_below C Q r t c q (legal_in C H Q is l) some (λ R s p inner. costs R s p (prefix_of_prefix R Q H inner is)) told (eqb-true q.tenant t own))
        (weights Q is)

    go : (o : Option ℕ) → head Q t ≡ o → length_of_head C Q t o ≤ length_of c w
    go None told = omega arith
    go (Some r) told = asked r (request_at Q r) refl (waits_own Q t r (head_is_head C Q t r (legal_in C H Q is l) told).waits)

pub lengths_foretold : LengthsAreForetold
lengths_foretold C H f g c w l k = record {
  of_f = caps_low C H f c w l k.some_cost k.some_weight k.costs_of_f k.weight_of_f;
  of_g = caps_low C H g c w l k.some_cost k.some_weight k.costs_of_g k.weight_of_g;
  heads = λ e Q i is shared takes.
      let inner = prefix_of_prefix Q (e ∷ Q) H (e ∷ [], refl) is in
      (head_low C H Q f c w l k.some_cost k.some_weight k.costs_of_f k.weight_of_f inner, head_low C H Q g c w l k.some_cost k.some_weight k.costs_of_g k.weight_of_g inner);
}

pub worst_foretold : WorstLeadIsForetold
worst_foretold C H P f g c w ne lim l k shared = worst_lead_below C H P f g (length_of c w) ne lim l (lengths_foretold C H f g c w l k) shared
