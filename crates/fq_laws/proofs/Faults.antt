-- If all numbers of a configuration are in their limits, it has no fault.
use Rattle.std.proofs.Common.{ℕ, ◌*◌, ◌≤◌, ◌≡◌, nat_lt, Bool, true, false, List, length, All, Option, Some, None, refl, arith, sym, ◌∙◌}
use Rattle.std.proofs.lemmas.Bool.{ltb-true, false≢true}
use Rattle.std.proofs.lemmas.List.Quantifiers.{position-Some}
use Rattle.fq_model.specs.declared.config.Config.{Config}
use Rattle.fq_model.specs.Limits.{IsWithin, InLimits, is_outside, bad_weight, config_fault, most_workers, most_tenants, greatest_weight, most_pairs, most_entries, most_requests}
use Rattle.vt_fixed.specs.declared.limits.TheConstants.{GREATEST_COST}
use Rattle.fq_model.specs.declared.limits.TheConstants.{MOST_KINDS, LEAST_ENTRIES}

not_below : (a b : ℕ) → b ≤ a → nat_lt a b ≡ false
not_below a b le = go (nat_lt a b) refl
  where
    go : (t : Bool) → nat_lt a b ≡ t → t ≡ false
    go false e = refl
    go true e = absurd (omega (arith, ltb-true a b e, le))

inside : (low high n : ℕ) → IsWithin low high n → is_outside low high n ≡ false
inside low high n h = rw (not_below n low h.0, not_below high n h.1) refl

no_bad_weight : (greatest : ℕ) (weights : List ℕ) → All (IsWithin 1 greatest) weights → bad_weight greatest weights ≡ None
no_bad_weight greatest weights all = go (bad_weight greatest weights) refl
  where
    go : (o : Option ℕ) → bad_weight greatest weights ≡ o → o ≡ None
    go None e = refl
    go (Some i) e =
        let at = position-Some (is_outside 1 greatest) weights i 0 e in
        absurd (false≢true (sym (inside 1 greatest _ (all i 0 at.0)) ∙ at.1))

pub no_fault : (C : Config) → InLimits C → config_fault C ≡ None
no_fault C h =
    rw (
      inside 1 (most_workers C.limits) C.workers (h.workers.0, h.own.workers),
      inside 1 (most_tenants C.limits) (length C.weights) (h.tenants.0, h.own.tenants),
      no_bad_weight (greatest_weight C.limits) C.weights (λ k d lt. ((h.weights k d lt).0, h.own.weights k d lt)),
      inside 1 MOST_KINDS C.kinds h.kinds,
      not_below (most_pairs C.limits) (length C.weights * C.kinds) h.own.pairs,
      inside LEAST_ENTRIES (most_entries C.limits) C.entries (h.entries.0, h.own.entries),
      inside 1 (most_requests C.limits) C.requests (h.requests.0, h.own.requests),
      inside 1 GREATEST_COST C.initial h.initial,
    ) refl
