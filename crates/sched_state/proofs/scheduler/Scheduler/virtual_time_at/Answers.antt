use Rattle.std.proofs.Common.{◌≡◌, ◌∙◌, arith, refl, subst, pos}
use Rattle.std.proofs.lemmas.Int.{ints}
use Rattle.std.specs.Int.{w128}
use mir.Val.{to_z, of_z}
use Rattle.fq_model.specs.History.{history_of}
use Rattle.fq_model.specs.Pace.{virtual_time}
use Rattle.fq_model.specs.Time.{effective_moment}
use Rattle.sched_journal.specs.Journal.{history}
use Rattle.sched_state.specs.Scheduler.{SchedulerView}
use Rattle.sched_state.proofs.scheduler.Scheduler.virtual_time_at.Goals as goal

pub at-requires-clause-later : goal.at-requires-clause-later
at-requires-clause-later g c =
    let m = c.self.invariant.tracks.mirrors in
    rw (c.times.ensures, m.times_are.clock_is.moment) c.effective.ensures.later

pub returns-clause-value : goal.returns-clause-value
returns-clause-value g c =
    let P = history c.self.inside.journal in
    let m = c.self.invariant.tracks.mirrors in
    let back : to_z w128 (of_z w128 c.at.result) ≡ c.at.result = omega (arith, ints, c.at.ensures.low, c.at.ensures.high) in
    subst (λ (s : SchedulerView g.row.J.Denot). to_z w128 (of_z w128 c.at.result) ≡ pos (virtual_time s.config (history_of s.past) (effective_moment (history_of s.past) c.args.moment))) c.self.view_is
    (back ∙ (c.at.ensures.value c.self.inside.journal.config P m.limits m.legal (rw c.times.ensures m.times_are) ∙ rw c.effective.ensures.value refl))
