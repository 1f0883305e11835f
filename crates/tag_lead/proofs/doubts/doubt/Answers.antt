use Rattle.std.proofs.Common.{◌≡◌, ◌∙◌, arith, sym, ap}
use Rattle.fq_model.specs.declared.config.Config.{Config}
use Rattle.std.proofs.lemmas.List.{length-reverse}
use Rattle.fq_model.specs.History.{history_of}
use Rattle.tag_lead.proofs.DoubtLemmas.{doubt_below, doubt_none, doubt_more, doubt_all, part_is, can_doubt}
use Rattle.tag_lead.proofs.doubts.doubt.Goals as goal

pub loop-worker-init : goal.loop-worker-init
loop-worker-init g c = record {
  value = sym (doubt_none c.args.scheduler.now.config (history_of c.args.scheduler.now.past) c.args.spans.now.longest.items c.args.spans.now.shortest.items c.args.f c.args.g);
  low = omega arith;
}

pub part-sum-requires : goal.part-sum-requires
part-sum-requires g c = can_doubt c.args.scheduler.now.config (history_of c.args.scheduler.now.past) _ _ c.loop-worker.worker c.running.result c.requires.limits c.requires.legal
    (omega (arith, c.requires.longest, length-reverse c.args.scheduler.now.past)) (omega (arith, c.requires.shortest, length-reverse c.args.scheduler.now.past)) c.running.ensures

pub loop-worker-preserved : goal.loop-worker-preserved
loop-worker-preserved g c =
    let C = c.args.scheduler.now.config in
    let P = history_of c.args.scheduler.now.past in
    let part = c.part-sum.ensures.value ∙ part_is C P c.args.spans.now.longest.items c.args.spans.now.shortest.items c.args.f c.args.g c.loop-worker.worker c.running.result c.requires.legal c.running.ensures in
    record {
      value = omega (arith, c.loop-worker.invariant.value, doubt_more C P c.args.spans.now.longest.items c.args.spans.now.shortest.items c.args.f c.args.g c.loop-worker.worker c.part-sum.result part);
      low = omega (arith, c.loop-worker.invariant.low, c.part-sum.ensures.low);
    }

pub returns-clause-value : goal.returns-clause-value
returns-clause-value g c =
    let C = c.args.scheduler.now.config in
    let P = history_of c.args.scheduler.now.past in
    let longest = c.args.spans.now.longest.items in
    let shortest = c.args.spans.now.shortest.items in
    let end : c.loop-worker.worker ≡ C.workers = omega (arith, c.loop-worker.auto.worker-end, c.loop-worker-test.false, c.workers-worker-end.ensures.value, ap (λ (B : Config). B.workers) c.config.ensures) in
    c.loop-worker.invariant.value ∙ ap (doubt_below C P longest shortest c.args.f c.args.g) end ∙ doubt_all C P longest shortest c.args.f c.args.g
