use Rattle.std.proofs.Common.{◌≡◌, ◌≤◌, length}
use Rattle.std.specs.Prelude.{vec_capacity}
use Rattle.fq_model.specs.Ever.{longest_of_all}
use Rattle.journal_check.proofs.Judging.{IsJudged}
use Rattle.tag_difference.proofs.Prefixes.{first_entries}
use Rattle.tag_lead.specs.Greatest.{TenantsAre, AreUnread}
use Rattle.tag_lead.specs.Spans.{LongestAre, ShortestAre}
use Rattle.tag_lead.proofs.measuring.measured_in.Given as goal

abbrev pub invariant-loop-entry : goal.invariant-loop-entry
invariant-loop-entry g l = record {
  config_is : l.scheduler.config ≡ l.fn.scheduler.config;
  judged : IsJudged l.fn.scheduler.config l.entries l.entry-index l.scheduler.past;
  longest : LongestAre l.fn.scheduler.config (first_entries l.entries l.entry-index) l.f (length l.entries) l.spans.longest.items;
  shortest : ShortestAre l.fn.scheduler.config (first_entries l.entries l.entry-index) l.g (length l.entries) l.spans.shortest.items;
  longest_is : l.greatest.length ≡ longest_of_all l.fn.scheduler.config (first_entries l.entries l.entry-index);
  tenants : TenantsAre (first_entries l.entries l.entry-index) l.greatest.tenants.items;
  unread : AreUnread l.fn.scheduler.config (first_entries l.entries l.entry-index) l.greatest.unread.items l.greatest.length;
  unread_few : length l.greatest.unread.items ≤ length (first_entries l.entries l.entry-index);
  room : length l.entries ≤ vec_capacity l.greatest.tenants;
  unread_room : length l.entries ≤ vec_capacity l.greatest.unread;
}
