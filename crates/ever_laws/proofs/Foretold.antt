-- Bounds of all lengths by limits of costs and weights.
use Rattle.std.proofs.Common.{ℕ, ◌≤◌, ◌<◌, ◌≡◌, refl, arith, [], ◌∷◌, Option, Some, None, length}
use Rattle.std.proofs.lemmas.Bool.{and_parts}
use Rattle.vt_fixed.specs.Rounding.{length_of}
use Rattle.fq_model.specs.declared.config.Config.{Config}
use Rattle.fq_model.specs.Charge.{is_taken_of}
use Rattle.fq_model.specs.History.{History, head, request_at, is_of_tenant, is_taken}
use Rattle.fq_model.specs.Lead.{head_length, length_of_head}
use Rattle.fq_model.specs.Rules.{IsLegal}
use Rattle.fq_laws.proofs.History.Heads.{head_tenant_known}
use Rattle.fq_laws.proofs.History.Requests.{tenant_below}
use Rattle.gap_laws.specs.Words.{IsPrefix, AreCaps}
use Rattle.gap_laws.proofs.Runs.{prefix_of_prefix}
use Rattle.gap_laws.proofs.WorstCase.{legal_in, length_some}
use Rattle.length_laws.proofs.Foretold.{caps_low, head_low}
use Rattle.ever_laws.specs.Laws.{LengthsAreForetold, LeadIsForetold}
use Rattle.ever_laws.specs.Words.{AllKeepLimits}
use Rattle.ever_laws.proofs.Bound.{lead_bounded}

all_caps : (C : Config) (H : History) (t c w : ℕ) → IsLegal C H → AllKeepLimits C H c w → AreCaps C H t (λ r. length_of c w)
unfolding is_taken_of
all_caps C H t c w l k = λ Q r inner taken.
    let known : t < length C.weights = tenant_below C Q t r (legal_in C H Q inner l) (and_parts (is_of_tenant t (request_at Q r)) (is_taken Q r) taken).0 in
    caps_low C H t c w l k.some_cost k.some_weight (k.costs t) (k.weights t known) Q r inner taken

heads_low : (C : Config) (H Q : History) (t c w : ℕ) → IsLegal C H → AllKeepLimits C H c w → IsPrefix Q H → head_length C Q t ≤ length_of c w
heads_low C H Q t c w l k inner = by_head (head Q t) refl
  where
    none_low : (o : Option ℕ) → o ≡ None → length_of_head C Q t o ≤ length_of c w
    none_low o is = rw is (omega arith)

    by_head : (o : Option ℕ) → head Q t ≡ o → head_length C Q t ≤ length_of c w
    by_head None none = none_low (head Q t) none
    by_head (Some r) some = head_low C H Q t c w l k.some_cost k.some_weight (k.costs t) (k.weights t (head_tenant_known C Q t r (legal_in C H Q inner l) some)) inner

pub lengths_foretold : LengthsAreForetold
lengths_foretold C H c w l k = record {
  some = length_some c w k.some_cost k.some_weight;
  requests = λ t. all_caps C H t c w l k;
  heads = λ e Q t inner takes. heads_low C H Q t c w l k (prefix_of_prefix Q (e ∷ Q) H (e ∷ [], refl) inner);
}

pub lead_foretold : LeadIsForetold
lead_foretold C H f g r c w ne paced lim l k some =
    lead_bounded C H f g r (length_of c w) ne (record { policy = paced; limits = lim; legal = l; lengths = lengths_foretold C H c w l k }) some
