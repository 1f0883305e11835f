use Rattle.std.proofs.Common.{◌<◌, ◌≡◌, arith, sym, subst, get_or, length, Some, slice_get}
use Rattle.std.proofs.lemmas.Slice.Zip.{AllZip-long}
use Rattle.fq_model.specs.declared.config.Estimator.{Estimator}
use Rattle.fq_model.specs.declared.config.Estimator.TheVariants.{Declared}
use Rattle.fq_model.specs.declared.config.Policy.{Policy}
use Rattle.program_model.specs.CommandOptions.{estimators}
use Rattle.program_model.specs.Compare.{all_pairs}
use Rattle.compare_all.specs.Rows.{IsMade}
use Rattle.compare_all.proofs.Firsts.{at_place, next_rows, next_reason, told_reason, one_longer}
use Rattle.compare_all.proofs.comparing.add_rows.Goals as goal

pub loop-k-preserved : goal.loop-k-preserved
loop-k-preserved g c =
    let T = c.args.trace.now in
    let o = c.args.options in
    let pair : Policy × Estimator = (c.args.policy, get_or estimators c.loop-k.k Declared) in
    let within : c.loop-k.k < 3 = omega (arith, c.loop-k-test.true, AllZip-long (λ e m. IsMade T o (c.args.policy, e) m) estimators c.in_ok-made.made.items c.in_ok-made.ensures) in
    let at : slice_get all_pairs (length c.loop-k.rows.items) ≡ Some pair = subst (λ n. slice_get all_pairs n ≡ Some pair) (sym c.loop-k.invariant.more) (c.requires.next c.loop-k.k within) in
    let made : IsMade T o pair c.index.result.now = subst (IsMade T o pair) (sym c.index.ensures) (at_place (λ e m. IsMade T o (c.args.policy, e) m) estimators c.in_ok-made.made.items c.loop-k.k Declared c.index.result.now c.in_ok-made.ensures (omega (arith, c.loop-k-test.true))) in
    record {
      first = next_rows T o c.loop-k.rows.items c.add_row.new.rows.items pair c.index.result.now at made c.in_ok-add_row.ensures.added c.loop-k.invariant.first;
      more = omega (arith, c.loop-k.invariant.more, one_longer c.loop-k.rows.items c.add_row.new.rows.items c.index.result.now c.in_ok-add_row.ensures.added);
    }

pub returns-in_err-add_row-clause-reason : goal.returns-in_err-add_row-clause-reason
returns-in_err-add_row-clause-reason g c =
    let T = c.args.trace.now in
    let o = c.args.options in
    let pair : Policy × Estimator = (c.args.policy, get_or estimators c.loop-k.k Declared) in
    let within : c.loop-k.k < 3 = omega (arith, c.loop-k-test.true, AllZip-long (λ e m. IsMade T o (c.args.policy, e) m) estimators c.in_ok-made.made.items c.in_ok-made.ensures) in
    let at : slice_get all_pairs (length c.loop-k.rows.items) ≡ Some pair = subst (λ n. slice_get all_pairs n ≡ Some pair) (sym c.loop-k.invariant.more) (c.requires.next c.loop-k.k within) in
    let made : IsMade T o pair c.index.result.now = subst (IsMade T o pair) (sym c.index.ensures) (at_place (λ e m. IsMade T o (c.args.policy, e) m) estimators c.in_ok-made.made.items c.loop-k.k Declared c.index.result.now c.in_ok-made.ensures (omega (arith, c.loop-k-test.true))) in
    told_reason T o c.from_residual-in_err-add_row.result c.in_err-add_row.field-0.0 c.from_residual-in_err-add_row.ensures.1 (next_reason T o c.loop-k.rows.items pair c.index.result.now c.in_err-add_row.field-0.0 at made c.in_err-add_row.ensures.fault c.loop-k.invariant.first)
