use Rattle.std.proofs.Common.{◌*◌, ◌≤◌, ◌≡◌}
use Rattle.fq_model.specs.History.{history_of}
use Rattle.tag_lead.specs.declared.limits.TheConstants.{GREATEST_PART}
use Rattle.tag_lead.proofs.DoubtLemmas.{doubt_below}
use Rattle.tag_lead.proofs.doubts.doubt.Given as goal

abbrev pub invariant-loop-worker : goal.invariant-loop-worker
invariant-loop-worker g l = record {
  value : l.sum ≡ doubt_below l.scheduler.config (history_of l.scheduler.past) l.spans.longest.items l.spans.shortest.items l.f l.g l.worker;
  low : l.sum ≤ l.worker * GREATEST_PART;
}
