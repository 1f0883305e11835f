use Rattle.std.proofs.Common.{arith}
use Rattle.fq_model.specs.History.{history_of}
use Rattle.tag_lead.proofs.GreatestLemmas.{among_next}
use Rattle.tag_lead.proofs.greatest.longest_among.Goals as goal

pub loop-tenant-preserved : goal.loop-tenant-preserved
loop-tenant-preserved g c =
    let next = among_next c.args.scheduler.now.config (history_of c.args.scheduler.now.past) c.args.tenants.now c.loop-tenant.tenant-index 0 c.loop-tenant-test.true in
    omega (arith, c.longer-longest.ensures, c.head_length.ensures, c.loop-tenant.invariant, next)
