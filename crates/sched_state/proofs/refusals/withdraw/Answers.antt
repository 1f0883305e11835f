use Rattle.std.proofs.Common.{refl}
use Rattle.waiting_lists.specs.Lists.{HasItemOf, HasNone}
use Rattle.sched_state.proofs.ListLemmas.{listed_waits, unlisted_rests}
use Rattle.sched_state.proofs.refusals.withdraw.Goals as goal

pub returns-in-Some : goal.returns-in-Some
returns-in-Some g c = λ C P t.
    let m = t.mirrors in
    let found : HasItemOf c.args.tracker.now.lists c.args.request c.in-Some.field-0 = rw (← c.lists.ensures) c.in-Some.ensures.some in
    rw (listed_waits g.J.Job.label_of C P c.args.tracker.now.lists c.args.request c.in-Some.field-0 m.limits m.legal m.lists_are found) refl

pub returns-in-None : goal.returns-in-None
returns-in-None g c = λ C P t.
    let m = t.mirrors in
    let none : HasNone c.args.tracker.now.lists c.args.request = rw (← c.lists.ensures) c.in-None.ensures.none in
    rw (unlisted_rests g.J.Job.label_of C P c.args.tracker.now.lists c.args.request m.limits m.legal m.lists_are none) refl
