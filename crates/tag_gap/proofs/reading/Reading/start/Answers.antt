use Rattle.std.proofs.Common.{◌<◌, ◌≢◌, length, arith}
use Rattle.std.proofs.lemmas.Int.{ints}
use Rattle.fq_model.specs.Time.{last_moment}
use Rattle.fq_model.specs.declared.config.Policy.TheVariants.{TwoDfqPlus}
use Rattle.tag_rules.proofs.AccountSteps.{tag_is_sum}
use Rattle.tag_gap.proofs.EntryLemmas.{start_idle, start_tag}
use Rattle.tag_gap.proofs.reading.Reading.start.Goals as goal

pub returns-in-Msf2q : goal.returns-in-Msf2q
returns-in-Msf2q c = λ C P k.
    let known : c.args.tenant < length C.weights = omega (arith, c.requires.known, k.waiting_are.tenants) in
    let charge = k.accounts_are.charges_are c.args.tenant known in
    let other : C.policy ≢ TwoDfqPlus = λ plus. cc (c.in-Msf2q.is, k.policy_is, plus) in
    let idle = c.idle.ensures.value C P (last_moment P) other k.times_are in
    let starts = start_idle C P (last_moment P) c.args.tenant c.args.self.now.policy k.policy_is c.in-Msf2q.is in
    omega (arith, ints, charge, idle, starts, c.credit.ensures.value, c.credit.ensures.low, c.credit.ensures.high, c.idle.ensures.low, c.idle.ensures.high)

pub returns-in-Wfq : goal.returns-in-Wfq
returns-in-Wfq c = λ C P k.
    let known : c.args.tenant < length C.weights = omega (arith, c.requires.known, k.waiting_are.tenants) in
    let sum = tag_is_sum C P c.args.self.now.accounts c.args.tenant known k.accounts_are in
    let starts = start_tag C P (last_moment P) c.args.tenant c.args.self.now.policy k.policy_is c.in-Wfq.is in
    omega (arith, ints, sum, starts, c.tag.ensures.value, c.tag.ensures.low, c.tag.ensures.high)
