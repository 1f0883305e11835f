use Rattle.std.proofs.Common.{◌≡◌, ◌∙◌, sym, ap, None}
use Rattle.std.specs.Prelude.{Result}
use Rattle.std.specs.Result.{result_err}
use Rattle.std.specs.FinMap as map
use Rattle.fq_model.specs.declared.event.Cause.{Cause}
use Rattle.fq_model.specs.Rules.{submit_refusal}
use Rattle.sched_journal.specs.Journal.{history}
use Rattle.sched_state.specs.Scheduler.{SchedulerView}
use Rattle.sched_state.proofs.CallLemmas.{unmoved, moved, entered, refused, legal_submit, answered_submit}
use Rattle.sched_state.proofs.scheduler.Scheduler.submit.Given as given
use Rattle.sched_state.proofs.scheduler.Scheduler.submit.Goals as goal
use Rattle.sched_state.proofs.scheduler.Scheduler.submit.Goals.{After-effective-moment}

pub submit-allowed-requires : goal.submit-allowed-requires
submit-allowed-requires g c = c.self.invariant.tracks

pub returns-in-Err-clause-answers : goal.returns-in-Err-clause-answers
returns-in-Err-clause-answers g c = unmoved c.self.inside.journal _ _ c.args.self.now _ _ c.self.view_is (refused _ c.in-Err.cause _ _ (sym c.submit-allowed.ensures ∙ ap (λ (r : Result (Unit {0}) Cause). result_err r) c.in-Err.is))

-- nothing refuses it
none : (g : given.Over) (c : After-effective-moment g) → submit_refusal c.self.inside.journal.config (history c.self.inside.journal) c.args.tenant c.args.kind c.args.declared ≡ None
none g c = sym c.submit-allowed.ensures ∙ ap (λ (r : Result (Unit {0}) Cause). result_err r) c.in_default.is

pub submit-requires-clause-tracked : goal.submit-requires-clause-tracked
submit-requires-clause-tracked g c = c.self.invariant.tracks

pub submit-requires-clause-legal : goal.submit-requires-clause-legal
submit-requires-clause-legal g c =
    let m = c.self.invariant.tracks.mirrors in
    λ who. legal_submit c.self.inside.journal.config (history c.self.inside.journal) who c.effective-moment.result c.submits-request.result c.args.tenant c.args.kind c.args.declared (g.J.Job.label_of c.args.job) (none g (goal.at.submit-requires-clause-legal g c).After-effective-moment) c.submits-request.ensures m.limits m.legal c.effective-moment.ensures.later c.effective-moment.ensures.in_range

pub enter-requires-clause-legal : goal.enter-requires-clause-legal
enter-requires-clause-legal g c =
    let m = c.self.invariant.tracks.mirrors in
    legal_submit c.self.inside.journal.config (history c.self.inside.journal) c.args.who c.effective-moment.result c.submits-request.result c.args.tenant c.args.kind c.args.declared c.label-label.result (none g (goal.at.enter-requires-clause-legal g c).After-effective-moment) c.submits-request.ensures m.limits m.legal c.effective-moment.ensures.later c.effective-moment.ensures.in_range

pub invariant_of-self : goal.invariant_of-self
invariant_of-self g c = entered g.J.Job.label_of g.X.Chooser.seen c.self.inside.journal c.enter.new.journal _ _ _ c.submit.new.self c.enter.ensures.journal c.enter.ensures.store c.self.invariant.stored (rw c.label-label.ensures (c.submit.ensures.tracked c.args.who))

pub returns-clause-answers : goal.returns-clause-answers
returns-clause-answers g c = moved c.self.inside.journal c.enter.new.journal _ _ _ _ _ c.args.self.now _ _ c.self.view_is c.enter.ensures.journal c.enter.ensures.store (answered_submit c.self.inside.journal.config (history c.self.inside.journal) c.args.who c.args.moment c.effective-moment.result c.submits-request.result c.args.tenant c.args.kind c.args.declared (g.J.Job.label_of c.args.job) c.label-label.result (none g (goal.at.returns-clause-answers g c).After-effective-moment) c.submits-request.ensures c.label-label.ensures c.effective-moment.ensures.value)

pub returns-clause-jobs : goal.returns-clause-jobs
returns-clause-jobs g c = c.submit.ensures.jobs ∙ ap (λ (s : SchedulerView g.row.J.Denot). map.insert s.jobs c.submits-request.result c.args.job) c.self.view_is
