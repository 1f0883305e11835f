use Rattle.std.proofs.Common.{◌+◌, ◌≤◌, ◌≡◌, ◌∙◌, ◌∷◌, true, arith, refl, sym, ap, ap₂, length}
use Rattle.std.specs.Prelude.{slice_index}
use Rattle.std.proofs.lemmas.List.{length-reverse}
use Rattle.fq_model.specs.declared.config.Config.{Config}
use Rattle.fq_model.specs.History.{History, history_of}
use Rattle.fq_model.specs.Lead.{doubt, longest_of, shortest_of}
use Rattle.tag_difference.proofs.Prefixes.{first_entries, next_entry, one_on, legal_next}
use Rattle.tag_difference.specs.Pairs.{difference_at}
use Rattle.tag_lead.specs.Maxima.{asks_doubt}
use Rattle.tag_lead.specs.Leads.{taken_at}
use Rattle.tag_lead.proofs.Entering.{first_short, no_entries, may_enter, limits_still, came, legal_now}
use Rattle.tag_lead.proofs.DoubtLemmas.{doubt_same}
use Rattle.tag_lead.proofs.LeadLemmas.{leads_nil, leads_on, leads_all}
use Rattle.tag_lead.proofs.leads.leads_in.Goals as goal

pub loop-entry-init : goal.loop-entry-init
loop-entry-init g c = record {
  config_is = refl;
  past_is = no_entries c.args.scheduler.now.past c.requires.opened c.args.past.now;
  found = rw c.new-leads.ensures (leads_nil c.args.scheduler.now.config (history_of c.args.past.now) c.args.f c.args.g);
}

pub taken-taken-requires-clause-limits : goal.taken-taken-requires-clause-limits
taken-taken-requires-clause-limits g c = limits_still c.args.scheduler.now.config c.loop-entry.scheduler.config c.loop-entry.invariant.config_is c.requires.limits

pub taken-taken-requires-clause-legal : goal.taken-taken-requires-clause-legal
taken-taken-requires-clause-legal g c = may_enter c.args.scheduler.now.config c.loop-entry.scheduler.config (first_entries c.args.past.now c.loop-entry.entry-index) (history_of c.loop-entry.scheduler.past) (next_entry c.args.past.now c.loop-entry.entry-index) c.requires.limits (legal_next c.args.scheduler.now.config c.args.past.now c.loop-entry.entry-index c.loop-entry-test.true c.requires.legal) c.loop-entry.invariant.config_is c.loop-entry.invariant.past_is

pub taken-taken-requires-clause-f_known : goal.taken-taken-requires-clause-f_known
taken-taken-requires-clause-f_known g c = rw c.loop-entry.invariant.config_is c.requires.f_known

pub taken-taken-requires-clause-g_known : goal.taken-taken-requires-clause-g_known
taken-taken-requires-clause-g_known g c = rw c.loop-entry.invariant.config_is c.requires.g_known

pub enter-requires-clause-limits : goal.enter-requires-clause-limits
enter-requires-clause-limits g c = limits_still c.args.scheduler.now.config c.loop-entry.scheduler.config c.loop-entry.invariant.config_is c.requires.limits

pub enter-requires-clause-legal : goal.enter-requires-clause-legal
enter-requires-clause-legal g c = may_enter c.args.scheduler.now.config c.loop-entry.scheduler.config (first_entries c.args.past.now c.loop-entry.entry-index) (history_of c.loop-entry.scheduler.past) (next_entry c.args.past.now c.loop-entry.entry-index) c.requires.limits (legal_next c.args.scheduler.now.config c.args.past.now c.loop-entry.entry-index c.loop-entry-test.true c.requires.legal) c.loop-entry.invariant.config_is c.loop-entry.invariant.past_is

pub doubt_where-doubt-requires-clause-limits : goal.doubt_where-doubt-requires-clause-limits
doubt_where-doubt-requires-clause-limits g c = rw (c.enter.ensures.config, c.loop-entry.invariant.config_is) c.requires.limits

pub doubt_where-doubt-requires-clause-legal : goal.doubt_where-doubt-requires-clause-legal
doubt_where-doubt-requires-clause-legal g c = legal_now c.args.scheduler.now.config c.loop-entry.scheduler.config (first_entries c.args.past.now c.loop-entry.entry-index) (history_of c.loop-entry.scheduler.past) (next_entry c.args.past.now c.loop-entry.entry-index) c.requires.limits (legal_next c.args.scheduler.now.config c.args.past.now c.loop-entry.entry-index c.loop-entry-test.true c.requires.legal) c.loop-entry.invariant.config_is c.loop-entry.invariant.past_is
    c.enter.new.scheduler.config (history_of c.enter.new.scheduler.past) c.enter.ensures.config c.enter.ensures.past

pub doubt_where-doubt-requires-clause-longest : goal.doubt_where-doubt-requires-clause-longest
doubt_where-doubt-requires-clause-longest g c =
    let came_now = came c.args.past.now c.loop-entry.entry-index (history_of c.loop-entry.scheduler.past) (history_of c.enter.new.scheduler.past) c.loop-entry-test.true c.loop-entry.invariant.past_is c.enter.ensures.past in
    omega (arith, ap (λ (P : History). length P) came_now, first_short c.args.past.now (c.loop-entry.entry-index + 1), length-reverse c.enter.new.scheduler.past, c.requires.longest.sized)

pub doubt_where-doubt-requires-clause-shortest : goal.doubt_where-doubt-requires-clause-shortest
doubt_where-doubt-requires-clause-shortest g c =
    let came_now = came c.args.past.now c.loop-entry.entry-index (history_of c.loop-entry.scheduler.past) (history_of c.enter.new.scheduler.past) c.loop-entry-test.true c.loop-entry.invariant.past_is c.enter.ensures.past in
    omega (arith, ap (λ (P : History). length P) came_now, first_short c.args.past.now (c.loop-entry.entry-index + 1), length-reverse c.enter.new.scheduler.past, c.requires.shortest.sized)

pub difference-difference-requires-clause-limits : goal.difference-difference-requires-clause-limits
difference-difference-requires-clause-limits g c = rw (c.enter.ensures.config, c.loop-entry.invariant.config_is) c.requires.limits

pub difference-difference-requires-clause-legal : goal.difference-difference-requires-clause-legal
difference-difference-requires-clause-legal g c = legal_now c.args.scheduler.now.config c.loop-entry.scheduler.config (first_entries c.args.past.now c.loop-entry.entry-index) (history_of c.loop-entry.scheduler.past) (next_entry c.args.past.now c.loop-entry.entry-index) c.requires.limits (legal_next c.args.scheduler.now.config c.args.past.now c.loop-entry.entry-index c.loop-entry-test.true c.requires.legal) c.loop-entry.invariant.config_is c.loop-entry.invariant.past_is
    c.enter.new.scheduler.config (history_of c.enter.new.scheduler.past) c.enter.ensures.config c.enter.ensures.past

pub difference-difference-requires-clause-f_known : goal.difference-difference-requires-clause-f_known
difference-difference-requires-clause-f_known g c = rw (c.enter.ensures.config, c.loop-entry.invariant.config_is) c.requires.f_known

pub difference-difference-requires-clause-g_known : goal.difference-difference-requires-clause-g_known
difference-difference-requires-clause-g_known g c = rw (c.enter.ensures.config, c.loop-entry.invariant.config_is) c.requires.g_known

pub loop-entry-preserved : goal.loop-entry-preserved
loop-entry-preserved g c =
    let C = c.args.scheduler.now.config in
    let past = c.args.past.now in
    let i = c.loop-entry.entry-index in
    let e = next_entry past i in
    let P = first_entries past i in
    let inv = c.loop-entry.invariant in
    let new = c.enter.new.scheduler in
    let spans = c.args.spans.now in
    let f = c.args.f in
    let h = c.args.g in
    let config_now = c.enter.ensures.config ∙ inv.config_is in
    let past_now = c.enter.ensures.past ∙ ap (λ (Q : History). e ∷ Q) inv.past_is in
    let legal = legal_next C past i c.loop-entry-test.true c.requires.legal in
    let few : length (e ∷ P) ≤ length past = omega (arith, first_short past (i + 1), ap (λ (Q : History). length Q) (one_on past i c.loop-entry-test.true)) in
    let doubted = λ (asked : asks_doubt c.loop-entry.leads c.difference-difference.result c.taken-taken.result ≡ true). c.doubt_where-doubt.ensures.value (c.asks_doubt.ensures ∙ asked)
    ∙ ap₂ (λ (B : Config) (Q : History). doubt (slice_index spans.longest.items) (slice_index spans.shortest.items) B Q f h) config_now past_now
    ∙ doubt_same C (e ∷ P) spans.longest.items spans.shortest.items (longest_of C (history_of past) f) (shortest_of C (history_of past) h) f h (length past) legal few c.requires.longest.each c.requires.shortest.each in
    let took : c.taken-taken.result ≡ taken_at C P e.act f h = c.taken-taken.ensures.value ∙ ap₂ (λ (B : Config) (Q : History). taken_at B Q e.act f h) inv.config_is inv.past_is in
    let apart = c.difference-difference.ensures.value ∙ ap₂ (λ (B : Config) (Q : History). difference_at B Q f h) config_now past_now in
    record {
      config_is = config_now;
      past_is = past_now ∙ sym (one_on past i c.loop-entry-test.true);
      found = leads_on C past i f h c.doubt_where-doubt.result c.loop-entry.leads c.with-leads.result c.difference-difference.result c.taken-taken.result c.loop-entry-test.true inv.found doubted c.doubt_where-doubt.ensures.low took c.taken-taken.ensures.low apart c.with-leads.ensures;
    }

pub returns : goal.returns
returns g c = leads_all c.args.scheduler.now.config c.args.past.now c.loop-entry.entry-index c.args.f c.args.g c.loop-entry.leads c.loop-entry-test.false c.loop-entry.invariant.found
