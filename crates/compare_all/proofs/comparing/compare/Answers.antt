use Rattle.std.proofs.Common.{arith, sym, subst, get_or}
use Rattle.fq_model.specs.declared.config.Policy.TheVariants.{Wfq}
use Rattle.compare_all.specs.Rows.{AreFirstRows, ComesAt}
use Rattle.compare_all.proofs.Firsts.{compared, no_rows, policy_comes, all_rows}
use Rattle.compare_all.proofs.comparing.compare.Goals as goal

pub loop-policy-init : goal.loop-policy-init
loop-policy-init g c = record {
  first = subst (AreFirstRows c.args.trace.now c.args.options) (sym c.in_ok-rows.ensures.items) (no_rows c.args.trace.now c.args.options);
  count = omega (arith, c.in_ok-rows.ensures.len);
}

pub add_rows-requires-clause-next : goal.add_rows-requires-clause-next
add_rows-requires-clause-next g c κs within =
    subst (λ n. ComesAt n (get_or compared c.loop-policy.policy-index Wfq)) (sym c.loop-policy.invariant.count) (policy_comes c.loop-policy.policy-index c.loop-policy-test.true)

pub returns-clause-rows : goal.returns-clause-rows
returns-clause-rows g c = all_rows c.args.trace.now c.args.options c.loop-policy.rows.items (omega (arith, c.loop-policy.invariant.count, c.loop-policy-test.false, c.loop-policy.auto.policy-index-end)) c.loop-policy.invariant.first
