use Rattle.std.proofs.Common.{arith}
use Rattle.std.proofs.lemmas.Int.{ints}
use Rattle.fq_model.specs.Time.{last_moment}
use Rattle.tag_rules.proofs.AccountSteps.{tag_is_sum}
use Rattle.sched_state.proofs.TrackerLemmas.{start_msf2q, start_tag, not_plus}
use Rattle.sched_state.proofs.tracker.Tracker.start.Goals as goal

pub returns-in-Msf2q : goal.returns-in-Msf2q
returns-in-Msf2q g c = λ P m.
    let C = c.args.config.now in
    let known = c.requires.tracks.tenant_known in
    let charge = m.accounts_are.charges_are c.args.tenant known in
    let idle = c.idle.ensures.value C P (last_moment P) (not_plus C.policy c.policy.result c.policy.ensures.value c.in-Msf2q.is) m.times_are in
    let starts = start_msf2q C P (last_moment P) c.args.tenant c.policy.result c.policy.ensures.value c.in-Msf2q.is in
    omega (arith, ints, charge, idle, starts, c.credit.ensures.value, c.credit.ensures.low, c.credit.ensures.high, c.idle.ensures.low, c.idle.ensures.high)

pub returns-in-Wfq : goal.returns-in-Wfq
returns-in-Wfq g c = λ P m.
    let C = c.args.config.now in
    let sum = tag_is_sum C P c.args.self.now.accounts c.args.tenant c.requires.tracks.tenant_known m.accounts_are in
    let starts = start_tag C P (last_moment P) c.args.tenant c.policy.result c.policy.ensures.value c.in-Wfq.is in
    omega (arith, ints, sum, starts, c.tag.ensures.value, c.tag.ensures.low, c.tag.ensures.high)
