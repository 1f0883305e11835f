use Rattle.std.proofs.Common.{◌+◌, arith}
use Rattle.std.proofs.lemmas.Int.{ints}
use Rattle.fq_model.specs.History.{history_of}
use Rattle.tag_difference.proofs.Prefixes.{first_entries}
use Rattle.tag_difference.proofs.FoundLemmas.{found_nil, found_gap}
use Rattle.tag_gap.proofs.GapLemmas.{awaits_next, keeps_next, found_on, found_all, bounded}
use Rattle.tag_gap.proofs.gaps.gap_of.Goals as goal

pub loop-entry-init : goal.loop-entry-init
loop-entry-init c = record { keeps = c.in_ok-reading.ensures.keeps; found = rw c.new-found.ensures (found_nil c.args.config.now c.args.f c.args.g) }

pub read-requires : goal.read-requires
read-requires c = awaits_next c.args.config.now c.args.past.now c.args.asked.now c.requires.costs c.requires.asked c.loop-entry.entry-index c.loop-entry.reading c.loop-entry-test.true c.loop-entry.invariant.keeps

pub difference-requires-clause-keeps : goal.difference-requires-clause-keeps
difference-requires-clause-keeps c = (c.args.config.now, first_entries c.args.past.now (c.loop-entry.entry-index + 1), keeps_next c.args.config.now c.args.past.now c.args.asked.now c.requires.costs c.requires.asked c.loop-entry.entry-index c.loop-entry.reading c.read.new.self c.loop-entry-test.true c.read.ensures c.loop-entry.invariant.keeps)

pub loop-entry-preserved : goal.loop-entry-preserved
loop-entry-preserved c =
    let C = c.args.config.now in
    let past = c.args.past.now in
    let i = c.loop-entry.entry-index in
    let keeps = keeps_next C past c.args.asked.now c.requires.costs c.requires.asked i c.loop-entry.reading c.read.new.self c.loop-entry-test.true c.read.ensures c.loop-entry.invariant.keeps in
    record {
      keeps = keeps;
      found = rw c.with-found.ensures (found_on C past i c.args.f c.args.g c.loop-entry.found c.difference.result c.loop-entry-test.true c.loop-entry.invariant.found (c.difference.ensures C (first_entries past (i + 1)) keeps));
    }

pub returns-clause-gap : goal.returns-clause-gap
returns-clause-gap c =
    let C = c.args.config.now in
    let past = c.args.past.now in
    rw c.gap.ensures (found_gap C (history_of past) c.args.f c.args.g c.loop-entry.found _ (found_all C past c.loop-entry.entry-index c.args.f c.args.g c.loop-entry.found c.loop-entry-test.false c.loop-entry.invariant.found) (omega (arith, ints, c.least_bound.ensures)))

pub returns-clause-bounded : goal.returns-clause-bounded
returns-clause-bounded c =
    let C = c.args.config.now in
    let past = c.args.past.now in
    let told_is = found_gap C (history_of past) c.args.f c.args.g c.loop-entry.found _ (found_all C past c.loop-entry.entry-index c.args.f c.args.g c.loop-entry.found c.loop-entry-test.false c.loop-entry.invariant.found) (omega (arith, ints, c.least_bound.ensures)) in
    bounded C (history_of past) c.args.f c.args.g c.gap.result c.requires.costs (rw c.gap.ensures told_is)

pub difference-requires-clause-f : goal.difference-requires-clause-f
difference-requires-clause-f c = omega (arith, c.requires.f, (keeps_next c.args.config.now c.args.past.now c.args.asked.now c.requires.costs c.requires.asked c.loop-entry.entry-index c.loop-entry.reading c.read.new.self c.loop-entry-test.true c.read.ensures c.loop-entry.invariant.keeps).waiting_are.tenants)

pub difference-requires-clause-g : goal.difference-requires-clause-g
difference-requires-clause-g c = omega (arith, c.requires.g, (keeps_next c.args.config.now c.args.past.now c.args.asked.now c.requires.costs c.requires.asked c.loop-entry.entry-index c.loop-entry.reading c.read.new.self c.loop-entry-test.true c.read.ensures c.loop-entry.invariant.keeps).waiting_are.tenants)
