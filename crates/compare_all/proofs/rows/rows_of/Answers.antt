use Rattle.std.proofs.Common.{ap, ◌∙◌, subst}
use Rattle.std.specs.List.{AllZip}
use Rattle.rayon.proofs.ListFacts.{IfOk-then}
use Rattle.rayon.proofs.ToStd.{slice-AllZip}
use Rattle.program_model.specs.CommandOptions.{estimators}
use Rattle.compare_all.specs.Rows.{IsMade}
use Rattle.compare_all.proofs.rows.rows_of.Goals as goal

pub returns : goal.returns
returns g c =
    let slice = ap (λ it. it.base.slice.now) c.map.ensures.base ∙ (ap (λ it. it.slice.now) c.with_min_len.ensures.base ∙ c.par_iter.ensures) in
    IfOk-then c.collect.result _ _ c.collect.ensures (λ v h.
    let chain = h.1 in
    let each = subst (λ f. AllZip (λ z y. IsMade f.1.now f.2.now (f.3.now, z.now) y) chain.0 h.0) c.map.ensures.f chain.2 in
    rw h.2 (slice-AllZip chain.0 estimators (chain.1 ∙ slice) (λ estimate made. IsMade c.args.trace.now c.args.options (c.args.policy, estimate) made) h.0 each))
