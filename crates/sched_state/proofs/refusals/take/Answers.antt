use Rattle.std.proofs.Common.{◌≡◌, ◌∙◌, sym, ap, arith, true, false}
use Rattle.fq_model.specs.declared.config.Config.{Config}
use Rattle.fq_model.specs.declared.event.Cause.TheVariants as cause
use Rattle.fq_model.specs.History.{waiting, pool_at}
use Rattle.fq_model.specs.Rules.{take_refusal}
use Rattle.charge_book.specs.Book.{BookView, row_on}
use Rattle.charge_book.proofs.Refusals.{busy, take_refused}
use Rattle.waiting_lists.specs.Lists as lists
use Rattle.fq_model.specs.Time.{last_moment}
use Rattle.sched_journal.specs.Journal.{history}
use Rattle.sched_state.proofs.CallLemmas.{refused, retired, rested}
use Rattle.sched_state.proofs.refusals.take.Given as given
use Rattle.sched_state.proofs.refusals.take.Goals as goal
use Rattle.sched_state.proofs.refusals.take.Goals.{After-running, After-workers-workers, After-len}

-- why the worker is refused work, if it is
refusal : (g : given.Over) (c : After-running g) → take_refusal c.args.journal.now.config (history c.args.journal.now) c.args.worker ≡ busy c.running.result
refusal g c =
    let m = c.requires.mirrors in
    take_refused c.args.journal.now.config (history c.args.journal.now) c.args.tracker.now.book c.args.worker c.running.result m.legal m.book_is (omega (arith, c.if-worker-workers.false, c.workers.ensures.value, ap (λ (x : Config). x.workers) c.config.ensures.config)) (sym (c.running.ensures ∙ ap (λ (b : BookView). row_on b c.args.worker) c.book.ensures))

-- the number of workers now
pool_is : (g : given.Over) (c : After-workers-workers g) → c.workers-workers.result ≡ pool_at c.args.journal.now.config (history c.args.journal.now)
pool_is g c = c.workers-workers.ensures.value c.args.journal.now.config (history c.args.journal.now) (last_moment (history c.args.journal.now)) (rw c.times.ensures c.requires.mirrors.times_are)

-- how many wait
backlog_is : (g : given.Over) (c : After-len g) → c.len.result ≡ waiting (history c.args.journal.now)
backlog_is g c = c.len.ensures.all ∙ (ap (λ (w : lists.ListsView g.row.J.Denot). lists.waiting w) c.lists.ensures ∙ c.requires.mirrors.lists_are.counted)

pub returns-in-Some-clause-told : goal.returns-in-Some-clause-told
returns-in-Some-clause-told g c = record {
  answers = λ who moment. refused _ (cause.Busy c.in-Some.row.request) _ _ (refusal g (goal.at.returns-in-Some-clause-told g c).After-running ∙ ap busy c.in-Some.is);
  no_job = tt;
}

pub returns-then-worker-workers-2-clause-told : goal.returns-then-worker-workers-2-clause-told
returns-then-worker-workers-2-clause-told g c =
    let at = goal.at.returns-then-worker-workers-2-clause-told g c in
    record {
      answers = λ who moment. retired c.args.journal.now.config (history c.args.journal.now) who moment c.args.worker c.workers-workers.result (refusal g at.After-running ∙ ap busy c.in_default.is) (pool_is g at.After-workers-workers) c.if-worker-workers-2.true;
      no_job = tt;
    }

pub returns-then-len-gt0-clause-work : goal.returns-then-len-gt0-clause-work
returns-then-len-gt0-clause-work g c =
    let at = goal.at.returns-then-len-gt0-clause-work g c in
    record {
      free = refusal g at.After-running ∙ ap busy c.in_default.is;
      pooled = omega (arith, pool_is g at.After-workers-workers, c.if-worker-workers-2.false);
      some_waits = λ z. omega (arith, backlog_is g at.After-len, c.if-len-gt0.true, z);
    }

pub returns-then-is_closed-clause-told : goal.returns-then-is_closed-clause-told
returns-then-is_closed-clause-told g c =
    let at = goal.at.returns-then-is_closed-clause-told g c in
    record {
      answers = λ who moment. rested c.args.journal.now.config (history c.args.journal.now) who moment c.args.worker true (refusal g at.After-running ∙ ap busy c.in_default.is) (omega (arith, pool_is g at.After-workers-workers, c.if-worker-workers-2.false)) (omega (arith, backlog_is g at.After-len, c.if-len-gt0.false)) c.if-is_closed.ensures;
      no_job = tt;
    }

pub returns-else-is_closed-clause-told : goal.returns-else-is_closed-clause-told
returns-else-is_closed-clause-told g c =
    let at = goal.at.returns-else-is_closed-clause-told g c in
    record {
      answers = λ who moment. rested c.args.journal.now.config (history c.args.journal.now) who moment c.args.worker false (refusal g at.After-running ∙ ap busy c.in_default.is) (omega (arith, pool_is g at.After-workers-workers, c.if-worker-workers-2.false)) (omega (arith, backlog_is g at.After-len, c.if-len-gt0.false)) c.if-is_closed.ensures;
      no_job = tt;
    }
