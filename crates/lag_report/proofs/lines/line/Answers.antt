use Rattle.std.proofs.Common.{ℕ, ◌-◌, ◌≡◌, length, sum, arith, rules, ap, ap₂, sym, ◌∙◌, subst, ℤ, w64}
use Rattle.fluid_reference.specs.Slots.{number_at}
use mir.Val.{SFits}
use Rattle.std.proofs.lemmas.Int.{to_z-of_z}
use Rattle.fq_laws.proofs.Lists.{list_length}
use Rattle.fq_model.specs.declared.lag.TenantLag.{TenantLag}
use Rattle.lag_report.specs.declared.samples.Ranked.{Ranked}
use Rattle.lag_report.specs.Ranked.{ranked}
use Rattle.lag_report.specs.Work.{GainsAre, lags_from}
use Rattle.lag_report.proofs.Gains.{gains_low, lags_are}
use Rattle.lag_report.proofs.lines.line.Goals as goal
use Rattle.lag_report.proofs.lines.line.Goals.{After-as_mut_slice}

-- the lags are those of the tenant
lags_of : (c : After-as_mut_slice) → c.as_mut_slice.result.now ≡ lags_from c.args.served.now c.args.courses.now c.args.slot
lags_of c =
    let gains : GainsAre c.args.slot c.args.courses.now c.as_slice.result.now = subst (GainsAre c.args.slot c.args.courses.now) (sym c.as_slice.ensures.value) c.in_ok-gains.ensures.gains in
    c.as_mut_slice.ensures.value ∙ c.in_ok-lags.ensures ∙ lags_are c.args.slot c.args.served.now c.as_slice.result.now c.args.courses.now (ap length c.as_slice.ensures.value ∙ c.in_ok-gains.ensures.len) gains

as_many : (c : After-as_mut_slice) → length c.as_mut_slice.result.now ≡ length c.args.served.now
as_many c = ap length (lags_of c) ∙ list_length _ (length c.args.served.now)

pub samples-requires-clause-gained : goal.samples-requires-clause-gained
samples-requires-clause-gained c = omega (arith, ap sum c.as_slice.ensures.value, gains_low c.args.slot c.args.courses.now c.in_ok-gains.gains.items c.requires.costs c.in_ok-gains.ensures.gains)

pub rank-lag-requires-clause-some : goal.rank-lag-requires-clause-some
rank-lag-requires-clause-some c = omega (arith, as_many c, c.requires.some)

pub rank-lag-requires-clause-few : goal.rank-lag-requires-clause-few
rank-lag-requires-clause-few c = omega (arith, as_many c, c.requires.few)

abbrev line_with : ℕ → ℕ → ℕ → ℕ → Ranked → TenantLag
line_with weight requests charged fluid r = record { weight = weight; requests = requests; charged = charged; fluid = fluid; least = r.least; p50 = r.p50; p90 = r.p90; p99 = r.p99; greatest = r.greatest }

same_line : (weight requests charged fluid : ℕ) (v w x y z : ℤ) (r : Ranked) → v ≡ r.least → w ≡ r.p50 → x ≡ r.p90 → y ≡ r.p99 → z ≡ r.greatest →
    (let l : TenantLag = record { weight = weight; requests = requests; charged = charged; fluid = fluid; least = v; p50 = w; p90 = x; p99 = y; greatest = z } in l) ≡ line_with weight requests charged fluid r
same_line weight requests charged fluid v w x y z r f g h i j = cc

pub returns : goal.returns
returns c =
    let b : After-as_mut_slice = (goal.at.returns c).After-as_mut_slice in
    let f0 : SFits w64 c.rank-lag.result.least = search rules in
    let f1 : SFits w64 c.rank-lag.result.p50 = search rules in
    let f2 : SFits w64 c.rank-lag.result.p90 = search rules in
    let f3 : SFits w64 c.rank-lag.result.p99 = search rules in
    let f4 : SFits w64 c.rank-lag.result.greatest = search rules in
    same_line c.args.weight (length c.args.courses.now) c.charged.result (number_at c.args.served.now (length c.args.served.now - 1)) _ _ _ _ _ c.rank-lag.result
    (to_z-of_z w64 _ f0) (to_z-of_z w64 _ f1) (to_z-of_z w64 _ f2) (to_z-of_z w64 _ f3) (to_z-of_z w64 _ f4)
    ∙ ap₂ (λ n r. line_with c.args.weight (length c.args.courses.now) n (number_at c.args.served.now (length c.args.served.now - 1)) r) c.charged.ensures (c.rank-lag.ensures ∙ ap ranked (lags_of b))
