use Rattle.std.proofs.Common.{arith}
use Rattle.std.proofs.lemmas.Int.{ints}
use Rattle.fq_model.specs.History.{weight_at}
use Rattle.tag_gap.proofs.LengthLemmas.{extremes_nil, extremes_on, extremes_end}
use Rattle.tag_gap.proofs.lengths.longest.Goals as goal

pub loop-entry-init : goal.loop-entry-init
unfolding weight_at
loop-entry-init c = extremes_nil c.args.config.now c.args.tenant c.weight.result c.weight.ensures.value

pub loop-entry-preserved : goal.loop-entry-preserved
loop-entry-preserved c = rw c.with-extremes.ensures (extremes_on c.args.config.now c.args.past.now c.loop-entry.entry-index c.args.tenant c.loop-entry.extremes c.loop-entry-test.true c.requires.legal c.loop-entry.invariant)

pub length-requires-clause-weight_positive : goal.length-requires-clause-weight_positive
length-requires-clause-weight_positive c = (extremes_end c.args.config.now c.args.past.now c.loop-entry.entry-index c.args.tenant c.loop-entry.extremes c.requires.limits c.requires.legal c.requires.known c.loop-entry-test.false c.loop-entry.invariant).weight_in_range.0

pub length-requires-clause-weight_in_range : goal.length-requires-clause-weight_in_range
length-requires-clause-weight_in_range c = (extremes_end c.args.config.now c.args.past.now c.loop-entry.entry-index c.args.tenant c.loop-entry.extremes c.requires.limits c.requires.legal c.requires.known c.loop-entry-test.false c.loop-entry.invariant).weight_in_range.1

pub returns-clause-value : goal.returns-clause-value
returns-clause-value c =
    let k = extremes_end c.args.config.now c.args.past.now c.loop-entry.entry-index c.args.tenant c.loop-entry.extremes c.requires.limits c.requires.legal c.requires.known c.loop-entry-test.false c.loop-entry.invariant in
    omega (arith, ints, c.length.ensures, k.is, k.high)

pub returns-clause-high : goal.returns-clause-high
returns-clause-high c =
    let k = extremes_end c.args.config.now c.args.past.now c.loop-entry.entry-index c.args.tenant c.loop-entry.extremes c.requires.limits c.requires.legal c.requires.known c.loop-entry-test.false c.loop-entry.invariant in
    omega (arith, ints, c.length.ensures, k.high)
