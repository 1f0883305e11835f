use Rattle.std.proofs.Common.{◌<◌, ◌≡◌, ◌∙◌, arith, ap, sym, subst}
use Rattle.fq_model.specs.History.{history_of}
use Rattle.charge_book.specs.Book.{BookView, row_on}
use Rattle.charge_book.specs.Histories.{row_of_worker}
use Rattle.sched_state.specs.Scheduler.{SchedulerView}
use Rattle.sched_state.proofs.scheduler.Scheduler.running.Goals as goal

pub running-requires : goal.running-requires
running-requires g c =
    let known = subst (λ (s : SchedulerView g.row.J.Denot). c.args.worker < s.config.workers) (sym c.self.view_is) c.requires in
    rw c.book.ensures (omega (arith, known, c.self.invariant.tracks.mirrors.book_is.workers))

pub returns : goal.returns
returns g c =
    let known = subst (λ (s : SchedulerView g.row.J.Denot). c.args.worker < s.config.workers) (sym c.self.view_is) c.requires in
    subst (λ (s : SchedulerView g.row.J.Denot). c.running.result ≡ row_of_worker s.config (history_of s.past) c.args.worker) c.self.view_is
    (c.running.ensures ∙ ap (λ (b : BookView). row_on b c.args.worker) c.book.ensures ∙ c.self.invariant.tracks.mirrors.book_is.rows c.args.worker known)
