use Rattle.std.proofs.Common.{◌∙◌, ◌≤◌, Option, sym, subst}
use Rattle.std.specs.Prelude.{ℕ, IfSome}
use Rattle.fq_model.specs.History.{history_of}
use Rattle.fq_model.specs.Time.{last_moment}
use Rattle.tag_lead.specs.declared.limits.TheConstants.{GREATEST_LENGTH}
use Rattle.tag_lead.proofs.LeadLemmas.{taken_is, taken_short}
use Rattle.tag_lead.proofs.leads.taken.Goals as goal

pub returns-clause-value : goal.returns-clause-value
returns-clause-value g c =
    let C = c.args.scheduler.now.config in
    let P = history_of c.args.scheduler.now.past in
    c.taken_by.ensures ∙ taken_is C P c.args.entry.moment c.args.f c.args.g c.requires.limits c.requires.legal.0 c.requires.f_known c.requires.g_known c.args.entry.act c.keys.result c.keys-2.result c.requires.legal.3 (c.keys.ensures (last_moment P)) (c.keys-2.ensures (last_moment P))

pub returns-clause-low : goal.returns-clause-low
returns-clause-low g c =
    let C = c.args.scheduler.now.config in
    let P = history_of c.args.scheduler.now.past in
    subst (λ (o : Option ℕ). IfSome o (λ x. x ≤ GREATEST_LENGTH)) (sym c.taken_by.ensures)
    (taken_short C P c.args.entry.act c.args.f c.args.g c.keys.result c.keys-2.result c.requires.limits c.requires.legal.0 c.requires.f_known c.requires.g_known (c.keys.ensures (last_moment P)) (c.keys-2.ensures (last_moment P)))
