use Rattle.std.proofs.Common.{◌≡◌}
use Rattle.fq_model.specs.History.{history_of}
use Rattle.tag_difference.proofs.Prefixes.{first_entries}
use Rattle.tag_lead.specs.Maxima.{LeadsIn}
use Rattle.tag_lead.proofs.leads.leads_in.Given as goal

abbrev pub invariant-loop-entry : goal.invariant-loop-entry
invariant-loop-entry g l = record {
  config_is : l.scheduler.config ≡ l.fn.scheduler.config;
  past_is : history_of l.scheduler.past ≡ first_entries l.past l.entry-index;
  found : LeadsIn l.fn.scheduler.config (history_of l.past) (first_entries l.past l.entry-index) l.f l.g l.leads;
}
