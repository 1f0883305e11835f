-- Tests of the pace that compute.
use Rattle.std.proofs.Common.{ℕ, ◌≡◌, ap, ◌∙◌}
use Rattle.fq_model.specs.declared.config.Config.{Config}
use Rattle.fq_model.specs.History.{History}
use Rattle.fq_model.specs.Pace.{Pace, pace}
use Rattle.worked_histories.specs.Examples.{units}
use Rattle.worked_histories.specs.Paced.{PaceIs}
use Rattle.worked_histories.specs.Served.{GoesOnOver}
use Rattle.worked_histories.proofs.Computed.Histories.{IsShort, pace_within, pace_is, served_weight_within, served_weight_is}

pub pace_shown : (n k : ℕ) (C : Config) (P : History) (time cap : ℕ) → IsShort n k P → (pace_within n C P).now ≡ units time → (pace_within n C P).reached ≡ units cap → PaceIs C P time cap
pace_shown n k C P time cap s t c = record {
  time_is = ap (λ (p : Pace). p.now) (pace_is n k C P s) ∙ t;
  cap_is = ap (λ (p : Pace). p.reached) (pace_is n k C P s) ∙ c;
}

pub weight_shown : (n k : ℕ) (C : Config) (P : History) (weight : ℕ) → IsShort n k P → served_weight_within n C P (pace_within n C P) ≡ weight → GoesOnOver C P weight
weight_shown n k C P weight s is = served_weight_is n k C P (pace C P) s ∙ (ap (served_weight_within n C P) (pace_is n k C P s) ∙ is)
