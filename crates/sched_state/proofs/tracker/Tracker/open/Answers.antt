use Rattle.std.proofs.Common.{sym, ap, ◌∙◌, subst, []}
use Rattle.tag_rules.specs.Accounts.{AccountsAre, at_first}
use Rattle.tag_rules.proofs.AccountSteps.{accounts_nil}
use Rattle.sched_state.proofs.ListLemmas.{lists_opened, no_jobs}
use Rattle.sched_state.proofs.ChargeLemmas.{book_opened}
use Rattle.sched_state.proofs.tracker.Tracker.open.Goals as goal

pub returns-clause-tracked : goal.returns-clause-tracked
returns-clause-tracked g c =
    let C = c.args.config.now in
    let book = c.in_ok-book.ensures in
    let rest = c.in_ok-costs.ensures in
    record {
      mirrors = record {
        limits = c.tenants.ensures.limits;
        legal = tt;
        lists_are = lists_opened g.J.Job.label_of C c.tenants.result c.requests.result c.in_ok-lists.lists c.tenants.ensures.value c.requests.ensures.value c.in_ok-lists.ensures;
        book_is = book_opened C c.in_ok-book.book book.rows book.nets book.begins;
        accounts_are = subst (AccountsAre C []) (sym (c.in_ok-accounts.ensures ∙ ap at_first c.tenants-2.ensures.value)) (accounts_nil C);
        costs_are = rest.costs;
        times_are = rest.times;
      };
      chooser_is = rest.chooser;
    }

pub returns-clause-jobs : goal.returns-clause-jobs
returns-clause-jobs g c = no_jobs g.J.Job.label_of c.tenants.result c.requests.result c.in_ok-lists.lists c.in_ok-lists.ensures
