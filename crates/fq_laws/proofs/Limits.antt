-- Which limits are the least, and which the greatest.
use Rattle.std.proofs.Common.{◌≤◌, ◌≡◌, arith, ap}
use Rattle.vt_fixed.specs.declared.limits.TheConstants.{GREATEST_WEIGHT}
use Rattle.fq_model.specs.declared.limits.TheConstants.{MOST_ENTRIES, TEXT_WORKERS, TEXT_TENANTS, TEXT_WEIGHT, TEXT_PAIRS, TEXT_REQUESTS}
use Rattle.fq_model.specs.declared.limits.Limits.{Limits}
use Rattle.fq_model.specs.declared.limits.Limits.TheVariants.{Text, Whole, Long}
use Rattle.fq_model.specs.declared.config.Config.{Config}
use Rattle.fq_model.specs.Limits.{InLimits, HasTextLimits, IsWithinText, most_workers, most_tenants, greatest_weight, most_pairs, most_entries, most_requests}

-- the numbers of a text are allowed by these limits too
pub record AllowsTexts (limits : Limits) : Type 0 where
  pub workers : TEXT_WORKERS ≤ most_workers limits
  pub tenants : TEXT_TENANTS ≤ most_tenants limits
  pub weight : TEXT_WEIGHT ≤ greatest_weight limits
  pub pairs : TEXT_PAIRS ≤ most_pairs limits
  pub entries : MOST_ENTRIES ≤ most_entries limits
  pub requests : TEXT_REQUESTS ≤ most_requests limits

pub texts_keep_least : (limits : Limits) → AllowsTexts limits
texts_keep_least Text = record { workers = omega arith; tenants = omega arith; weight = omega arith; pairs = omega arith; entries = omega arith; requests = omega arith }
texts_keep_least Whole = record { workers = omega arith; tenants = omega arith; weight = omega arith; pairs = omega arith; entries = omega arith; requests = omega arith }
texts_keep_least Long = record { workers = omega arith; tenants = omega arith; weight = omega arith; pairs = omega arith; entries = omega arith; requests = omega arith }

pub no_greater_weight : (limits : Limits) → greatest_weight limits ≤ GREATEST_WEIGHT
no_greater_weight Text = omega arith
no_greater_weight Whole = omega arith
no_greater_weight Long = omega arith

pub within_text : (C : Config) → InLimits C → HasTextLimits C → IsWithinText C
within_text C h text =
    let weight : greatest_weight C.limits ≡ TEXT_WEIGHT = ap greatest_weight text in
    record {
      workers = omega (arith, h.own.workers, ap most_workers text);
      tenants = omega (arith, h.own.tenants, ap most_tenants text);
      weights = λ k d lt. ((h.weights k d lt).0, omega (arith, h.own.weights k d lt, weight));
      pairs = omega (arith, h.own.pairs, ap most_pairs text);
      entries = omega (arith, h.own.entries, ap most_entries text);
      requests = omega (arith, h.own.requests, ap most_requests text);
    }
