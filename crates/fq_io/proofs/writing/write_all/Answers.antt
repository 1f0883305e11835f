use Rattle.std.proofs.Common.{arith, rules, ◌∙◌}
use Rattle.fq_io.proofs.Pieces.{wrote_more}
use Rattle.fq_io.proofs.writing.write_all.Goals as goal

pub writing-preserved : goal.writing-preserved
writing-preserved g c = record {
  taken = wrote_more _ _ _ c.args.bytes.now c.writing.at c.in_ok-at.field-0 c.writing.invariant.taken c.in_ok-at.ensures.bytes;
  later = omega (arith, c.writing.invariant.later, c.in_ok-at.ensures.cause.later);
  within = search rules;
  fixed = c.in_ok-at.ensures.fixed ∙ c.writing.invariant.fixed;
}
