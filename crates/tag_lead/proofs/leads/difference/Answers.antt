use Rattle.std.proofs.Common.{◌∙◌}
use Rattle.fq_model.specs.History.{history_of}
use Rattle.fq_model.specs.Time.{last_moment}
use Rattle.tag_lead.proofs.LeadLemmas.{difference_is}
use Rattle.tag_lead.proofs.leads.difference.Goals as goal

pub returns-clause-value : goal.returns-clause-value
returns-clause-value g c =
    let C = c.args.scheduler.now.config in
    let P = history_of c.args.scheduler.now.past in
    c.difference_by.ensures.value ∙ difference_is C P c.args.f c.args.g c.keys.result c.keys-2.result c.requires.limits c.requires.legal c.requires.f_known c.requires.g_known (c.keys.ensures (last_moment P)) (c.keys-2.ensures (last_moment P))
