use Rattle.std.proofs.Common.{◌≡◌, ◌∙◌, arith, refl, sym, subst, length, pos}
use Rattle.std.proofs.lemmas.Int.{ints}
use Rattle.std.proofs.lemmas.List.{length-reverse}
use Rattle.std.specs.Int.{w128}
use mir.Val.{to_z, of_z}
use Rattle.fq_model.specs.declared.parts.Status.{Status}
use Rattle.fq_model.specs.History.{history_of}
use Rattle.fq_model.specs.Status.{status_of}
use Rattle.fq_model.specs.Time.{last_moment}
use Rattle.fq_model.specs.Pace.{virtual_time}
use Rattle.sched_journal.specs.Journal.{history}
use Rattle.sched_state.specs.Scheduler.{SchedulerView}
use Rattle.sched_state.proofs.scheduler.Scheduler.status.Goals as goal

pub returns : goal.returns
unfolding status_of
returns g c =
    let C = c.self.inside.journal.config in
    let P = history c.self.inside.journal in
    let m = c.self.invariant.tracks.mirrors in
    let back : to_z w128 (of_z w128 c.now.result) ≡ c.now.result = omega (arith, ints, c.now.ensures.low, c.now.ensures.high) in
    let vtime : c.now.result ≡ pos (virtual_time C P (last_moment P)) = c.now.ensures.value C P (last_moment P) (rw c.times.ensures m.times_are) in
    let entries : c.len.result ≡ length P = c.len.ensures.value ∙ sym (length-reverse c.self.inside.journal.past) in
    let waits = c.len-2.ensures.all in
    subst (λ (s : SchedulerView g.row.J.Denot). ◌≡◌ {A = Status} (record { entries = c.len.result; moment = c.last_moment.result; vtime = to_z w128 (of_z w128 c.now.result); waiting = c.len-2.result; running = c.running.result }) (status_of s.config (history_of s.past))) c.self.view_is
    (rw (back, vtime, entries, c.last_moment.ensures.value, waits, c.lists.ensures, m.lists_are.counted, c.running.ensures) refl)
