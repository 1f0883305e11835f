use Rattle.std.proofs.Common.{◌≡◌, ◌∙◌, ap}
use Rattle.std.specs.Prelude.{option_map}
use Rattle.fq_model.specs.Ever.{under_plus, ever_bound, measured_ever_bound}
use Rattle.fq_model.specs.History.{history_of}
use Rattle.fq_model.specs.Lead.{measured_gap}
use Rattle.tag_difference.specs.Pairs.{told}
use Rattle.tag_lead.proofs.LeadLemmas.{leads_measured, lead_bounded}
use Rattle.tag_lead.proofs.leads.lead_of.Goals as goal

pub returns-in-Some-clause-lead : goal.returns-in-Some-clause-lead
unfolding measured_ever_bound
returns-in-Some-clause-lead g c =
    let C = c.args.config.now in
    let H = history_of c.args.entries.now in
    let gap : option_map told c.lead.result ≡ measured_gap C H c.args.f c.args.g = rw c.lead.ensures (leads_measured C H c.args.f c.args.g _ c.policy.result c.policy.ensures.value c.in_ok-leads.ensures) in (
      c.in_ok-spans.ensures.measured.legal,
      record {
        gap_is = rw c.in-Some.is at gap;
        ever_is = c.ever_bound-ever.ensures ∙ ap (λ M. under_plus C.policy (ever_bound C M)) c.in_ok-spans.ensures.measured.longest_is;
      },
    )

pub returns-in-None-clause-lead : goal.returns-in-None-clause-lead
returns-in-None-clause-lead g c =
    let C = c.args.config.now in
    let H = history_of c.args.entries.now in
    let gap : option_map told c.lead.result ≡ measured_gap C H c.args.f c.args.g = rw c.lead.ensures (leads_measured C H c.args.f c.args.g _ c.policy.result c.policy.ensures.value c.in_ok-leads.ensures) in (
      c.in_ok-spans.ensures.measured.legal,
      record {
        gap_is = rw c.in-None.is at gap;
        ever_is = tt;
      },
    )

pub returns-in-Some-clause-bounded : goal.returns-in-Some-clause-bounded
returns-in-Some-clause-bounded g c =
    let C = c.args.config.now in
    let H = history_of c.args.entries.now in
    let gap = leads_measured C H c.args.f c.args.g _ c.policy.result c.policy.ensures.value c.in_ok-leads.ensures in
    let bounded = lead_bounded C H c.args.f c.args.g c.lead.result c.requires.apart c.policy.ensures.limits c.in_ok-spans.ensures.measured.legal (rw c.lead.ensures gap) in
    rw c.in-Some.is at bounded
