use Rattle.std.proofs.Common.{ℕ, ◌<◌, ◌≡◌, ◌∙◌, length, sym, ap, subst}
use Rattle.fq_model.specs.declared.config.Config.{Config}
use Rattle.fq_model.specs.History.{history_of}
use Rattle.fq_model.specs.Keys.{keys_at}
use Rattle.fq_model.specs.Time.{last_moment}
use Rattle.fq_laws.proofs.Keys.Others.{keys_still}
use Rattle.sched_journal.specs.Journal.{history}
use Rattle.sched_state.specs.Scheduler.{SchedulerView}
use Rattle.sched_state.proofs.TrackerLemmas.{all_but}
use Rattle.sched_state.proofs.scheduler.Scheduler.keys.Goals as goal

pub keys_of-requires : goal.keys_of-requires
keys_of-requires g c =
    let known = subst (λ (s : SchedulerView g.row.J.Denot). c.args.tenant < length s.config.weights) (sym c.self.view_is) c.requires in
    record {
      past = history c.self.inside.journal;
      tracks = rw c.config.ensures.config (all_but g.J.Job.label_of g.X.Chooser.seen c.self.inside.journal.config (history c.self.inside.journal) c.args.tenant c.self.inside.tracker known c.self.invariant.tracks);
    }

pub returns : goal.returns
returns g c =
    let P = history c.self.inside.journal in
    let m = c.self.invariant.tracks.mirrors in
    subst (λ (s : SchedulerView g.row.J.Denot). (n : ℕ) → c.keys_of.result ≡ keys_at s.config (history_of s.past) n c.args.tenant) c.self.view_is
    (λ n. c.keys_of.ensures P (rw c.config.ensures.config m)
    ∙ ap (λ (C : Config). keys_at C P (last_moment P) c.args.tenant) c.config.ensures.config
    ∙ keys_still c.self.inside.journal.config P (last_moment P) n c.args.tenant m.legal)
