use Rattle.std.proofs.Common.{◌≡◌, ◌≤ℤ◌, ℤ, pos, get_or, All, Contains, rules, subst, sym, ap, ◌∙◌, w64}
use mir.Val.{SFits, to_z, of_z}
use Rattle.std.proofs.lemmas.Int.{to_z-of_z}
use Rattle.std.proofs.lemmas.List.{take_all}
use Rattle.std.proofs.lemmas.List.Elements.{Contains-get_or}
use Rattle.std.specs.Int.{int_min}
use Rattle.lag_report.proofs.Ranks.{least_at, lower, lower_of}
use Rattle.lag_report.proofs.samples.least.Goals as goal

pub loop-sample-preserved : goal.loop-sample-preserved
loop-sample-preserved c =
    let samples = c.args.samples.now in
    let w = c.loop-sample in
    let next : ℤ = get_or samples w.sample-index (pos 0) in
    let fits : SFits w64 next = search rules in
    let read : to_z w64 (of_z w64 next) ≡ next = to_z-of_z w64 next fits in
    let small : SFits w64 c.min-least.result = search rules in
    let now : to_z w64 (of_z w64 c.min-least.result) ≡ c.min-least.result = to_z-of_z w64 c.min-least.result small in
    let is : int_min (to_z w64 w.least-bits) next ≡ to_z w64 (of_z w64 c.min-least.result) = sym (now ∙ c.min-least.ensures.value ∙ ap (int_min (to_z w64 w.least-bits)) read) in
    record {
      one = subst (Contains samples) is (lower_of samples (to_z w64 w.least-bits) next w.invariant.one (Contains-get_or samples w.sample-index (pos 0) c.loop-sample-test.true));
      low = lower samples w.sample-index (pos 0) (to_z w64 w.least-bits) (to_z w64 (of_z w64 c.min-least.result)) c.loop-sample-test.true
          (subst (λ z. z ≤ℤ to_z w64 w.least-bits) (sym now) c.min-least.ensures.self_bound)
          (subst (λ z. to_z w64 (of_z w64 c.min-least.result) ≤ℤ z) read (subst (λ z. z ≤ℤ to_z w64 (of_z w64 next)) (sym now) c.min-least.ensures.other_bound))
          w.invariant.low;
    }

pub returns : goal.returns
returns c =
    let samples = c.args.samples.now in
    let w = c.loop-sample in
    let one = w.invariant.one in
    least_at samples (to_z w64 w.least-bits) one.0 (to_z w64 w.least-bits) one.1 one.2 (subst (All (λ x. to_z w64 w.least-bits ≤ℤ x)) (take_all w.sample-index samples c.loop-sample-test.false) w.invariant.low)
