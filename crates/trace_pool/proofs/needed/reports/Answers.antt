use Rattle.std.proofs.Common.{arith, add-one, ◌∙◌, ap, length}
use Rattle.std.proofs.lemmas.List.Elements.{All-get_or}
use Rattle.vt_fixed.specs.declared.limits.TheConstants.{GREATEST_COST}
use Rattle.fq_model.specs.Limits.{IsWithin}
use Rattle.program_model.specs.PoolHistory.{row_reports}
use Rattle.trace_reader.specs.Rows.{row_at}
use Rattle.trace_reader.proofs.Sums.{sum_over_take}
use Rattle.gate_rules.proofs.Stepping.{steps_count_up}
use Rattle.trace_pool.proofs.needed.reports.Goals as goal

pub loop-row-preserved : goal.loop-row-preserved
loop-row-preserved c =
    let rows = c.args.rows.now in let i = c.loop-row.row-index in let cost = (row_at rows i).cost in
    let low : IsWithin 1 GREATEST_COST cost = All-get_or (λ row. IsWithin 1 GREATEST_COST row.cost) rows i _ c.loop-row-test.true c.requires.costs in
    let up = steps_count_up c.args.refresh cost c.requires.refresh low.0 low.1 in
    let counted = c.count.ensures ∙ (ap length c.new.ensures ∙ up.length_is) in record {
      sum = rw add-one (omega (arith, sum_over_take (row_reports c.args.refresh) rows i c.loop-row-test.true, c.loop-row.invariant.sum, counted));
      bound = omega (arith, c.loop-row.invariant.bound, counted, up.length_is, up.is_course.few);
    }
