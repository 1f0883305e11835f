use Rattle.std.proofs.Common.{arith}
use Rattle.std.proofs.lemmas.Int.{ints, clamps}
use Rattle.fq_model.specs.History.{history_of}
use Rattle.tag_gap.proofs.LengthLemmas.{longest_both, lengths_two, lengths_one}
use Rattle.tag_gap.proofs.lengths.least_bound.Goals as goal

pub returns-in-TwoDfq : goal.returns-in-TwoDfq
returns-in-TwoDfq c =
    rw (lengths_two c.policy-policy.result c.args.config.now.policy c.policy-policy.ensures.value c.in-TwoDfq.is, longest_both c.args.config.now (history_of c.args.past.now) c.args.f c.args.g)
    (omega (arith, ints, clamps, c.longest.ensures.value, c.longest.ensures.high, c.longest-2.ensures.value, c.longest-2.ensures.high, c.max-longest.ensures.value))

pub returns-in-Wfq : goal.returns-in-Wfq
returns-in-Wfq c =
    rw (lengths_one c.policy-policy.result c.args.config.now.policy c.policy-policy.ensures.value c.in-Wfq.is, longest_both c.args.config.now (history_of c.args.past.now) c.args.f c.args.g)
    (omega (arith, ints, clamps, c.longest.ensures.value, c.longest.ensures.high, c.longest-2.ensures.value, c.longest-2.ensures.high, c.max-longest.ensures.value))
