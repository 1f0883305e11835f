use Rattle.std.proofs.Common.{◌≡◌, take}
use Rattle.fq_model.specs.History.{history_of}
use Rattle.tag_lead.specs.Greatest.{longest_among}
use Rattle.tag_lead.proofs.greatest.longest_among.Given as goal

abbrev pub invariant-loop-tenant : goal.invariant-loop-tenant
invariant-loop-tenant g l = l.longest ≡ longest_among l.scheduler.config (history_of l.scheduler.past) (take l.tenant-index l.tenants)
