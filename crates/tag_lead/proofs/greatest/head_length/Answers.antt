use Rattle.std.proofs.Common.{◌∙◌}
use Rattle.fq_model.specs.History.{history_of}
use Rattle.fq_model.specs.Time.{last_moment}
use Rattle.tag_lead.proofs.GreatestLemmas.{keyed_length}
use Rattle.tag_lead.proofs.greatest.head_length.Goals as goal

pub returns : goal.returns
returns g c =
    let P = history_of c.args.scheduler.now.past in
    c.length_by.ensures ∙ keyed_length c.args.scheduler.now.config P c.args.tenant c.keys.result c.requires.limits c.requires.legal c.requires.known (c.keys.ensures (last_moment P))
